use Rattle.std.proofs.Common.{◌≡◌, sym, ◌∙◌, refl, None, arith}
use Rattle.std.proofs.lemmas.Grind.{common_steps}
use Rattle.simplex_batcher.specs.Rounds.{round_at}
use Rattle.simplex_batcher.specs.Working.{with_lead, lead_of}
use Rattle.simplex_batcher.proofs.Moving.{moved}
use Rattle.simplex_batcher.proofs.Placing.{led-none, led-some}
use Rattle.simplex_batcher.proofs.actor.Actor.lead.Goals as goal

pub returns : goal.returns
returns g c = λ made standing s.
    moved c.args.self.now made standing c.set_leader.new.self (with_lead made c.args.view standing).rounds s c.set_leader.ensures.current
    (led-some (round_at c.args.self.now.rounds) (round_at c.set_leader.new.self) made standing c.args.view c.in-Some.leader s.round_is (sym (c.leader_at.ensures made standing s) ∙ c.in-Some.is)
    c.set_leader.ensures.stands c.set_leader.ensures.none)

pub returns-in_default : goal.returns-in_default
returns-in_default g c = λ made standing s.
    moved c.args.self.now made standing c.args.self.now.rounds (with_lead made c.args.view standing).rounds s refl
    (led-none (round_at c.args.self.now.rounds) made standing c.args.view s.round_is (let is = c.leader_at.ensures made standing s in let none : lead_of made standing c.args.view ≡ None = grind (arith, common_steps) in none))
