use Rattle.std.proofs.Common.{refl, sym}
use Rattle.simplex_network.proofs.Places.{node-member, node-half}
use Rattle.simplex_network.proofs.Networks.{network-begun, network-started}
use Rattle.simplex_network.proofs.network.Network.begin.Goals as goal

pub returns-clause-entry : goal.returns-clause-entry
returns-clause-entry c =
    λ setting before life s lives. network-begun c.args.self.now setting before c.args.node _ _ _ _ _ _ life s lives
    (rw c.member_of-member.ensures at c.in_ok-config.ensures.made) c.in-Ok.ensures.gives c.in_ok-entry.ensures.entry

pub returns-clause-stands : goal.returns-clause-stands
returns-clause-stands c =
    λ setting before life s lives. network-started c.args.self.now _ setting before c.args.node _ _ _ _ life (node-half c.args.self.now.setup c.args.node c.requires) (rw s.given at (node-member c.args.self.now.setup c.args.node c.requires))
    refl refl refl refl s lives (rw c.member_of-member.ensures at c.in_ok-config.ensures.made) c.in-Ok.ensures.stands
    (sym (network-begun c.args.self.now setting before c.args.node _ _ _ _ _ _ life s lives (rw c.member_of-member.ensures at c.in_ok-config.ensures.made) c.in-Ok.ensures.gives c.in_ok-entry.ensures.entry))
    c.in_ok-entry.ensures.stands
