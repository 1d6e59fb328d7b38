use Rattle.std.proofs.Common.{refl}
use Rattle.simplex_network.proofs.Networks.{network-idle}
use Rattle.simplex_network.proofs.network.Network.idle.Goals as goal

pub returns-clause-stands : goal.returns-clause-stands
returns-clause-stands c =
    λ setting before event s none idle. network-idle _ _ setting before event c.args.node _ refl refl refl refl refl s none idle
    (c.in_ok-entry.ensures.entry setting.setup before s.records) c.in_ok-entry.ensures.stands
