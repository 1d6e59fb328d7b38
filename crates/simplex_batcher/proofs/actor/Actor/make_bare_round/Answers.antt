use Rattle.std.proofs.Common.{sym, refl, ◌∙◌, unwrap_or}
use Rattle.model_steps.specs.Batcher.{new_round}
use Rattle.simplex_batcher.specs.Rounds.{round_at}
use Rattle.simplex_batcher.proofs.Moving.{moved}
use Rattle.simplex_batcher.proofs.Placing.{placed-already, placed-new, set}
use Rattle.simplex_batcher.proofs.actor.Actor.make_bare_round.Goals as goal

pub returns-then-has : goal.returns-then-has
returns-then-has g c = λ made standing s.
    moved c.args.self.now made standing c.args.self.now.rounds (set c.args.view (unwrap_or (standing.rounds c.args.view) (new_round made standing c.args.view)) standing.rounds) s refl
    (placed-already (round_at c.args.self.now.rounds) standing.rounds c.args.view (new_round made standing c.args.view) s.round_is (sym c.has.ensures ∙ c.if-has.true))

pub returns : goal.returns
returns g c = λ made standing s.
    moved c.args.self.now made standing c.put.new.self (set c.args.view (unwrap_or (standing.rounds c.args.view) (new_round made standing c.args.view)) standing.rounds) s c.in_ok-put.ensures.current
    (placed-new (round_at c.args.self.now.rounds) (round_at c.put.new.self) standing.rounds c.args.view c.in_ok-round.round (new_round made standing c.args.view) s.round_is (sym c.has.ensures ∙ c.if-has.false)
    (c.in_ok-round.ensures made standing s) c.in_ok-put.ensures.rounds)
