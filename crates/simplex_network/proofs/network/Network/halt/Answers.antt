use Rattle.std.proofs.Common.{refl}
use Rattle.simplex_network.proofs.Networks.{network-crashed}
use Rattle.simplex_network.proofs.network.Network.halt.Goals as goal

pub returns-in-Ok-clause-stands : goal.returns-in-Ok-clause-stands
returns-in-Ok-clause-stands c =
    λ setting before life s lives. network-crashed c.args.self.now _ setting before c.args.node _ life refl refl refl refl s lives c.in-Ok.ensures.stands
    (c.in_ok-entry.ensures.entry setting.setup before s.records) c.in_ok-entry.ensures.stands
