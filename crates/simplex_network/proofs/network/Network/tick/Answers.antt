use Rattle.std.proofs.Common.{refl, ap, ◌∙◌}
use Rattle.simplex_network.specs.Stands.{entered}
use Rattle.simplex_network.proofs.Polled.{same-ok}
use Rattle.simplex_network.proofs.Events.{tick-is, tick-late}
use Rattle.simplex_network.proofs.Networks.{network-ticked}
use Rattle.simplex_network.proofs.network.Network.tick.Goals as goal

pub returns-then-ms-self-clause-reason : goal.returns-then-ms-self-clause-reason
returns-then-ms-self-clause-reason c = λ whole setting before s. tick-late setting before _ _ s.clock c.args.self.now.early c.if-ms-self.true

pub returns-clause-stands : goal.returns-clause-stands
returns-clause-stands c =
    λ setting before noted s is. rw (same-ok noted _ _ is (tick-is setting before _ _ s.clock c.args.self.now.early c.if-ms-self.false))
    (network-ticked c.args.self.now _ setting before c.args.ms _ refl refl refl refl refl s (c.in_ok-entry.ensures.entry setting.setup before s.records) c.in_ok-entry.ensures.stands)

pub returns-clause-entry : goal.returns-clause-entry
returns-clause-entry c =
    λ setting before s. ap (λ r. entered r) (tick-is setting before _ _ s.clock c.args.self.now.early c.if-ms-self.false)
    ∙ rw (c.in_ok-entry.ensures.entry setting.setup before s.records) refl
