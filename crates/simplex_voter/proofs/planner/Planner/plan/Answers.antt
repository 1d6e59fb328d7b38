use Rattle.std.proofs.Common.{ap, sym, ◌∙◌}
use Rattle.model_rules.specs.Views.{current_of}
use Rattle.model_steps.specs.Voter.{stepped, finished}
use Rattle.simplex_voter.proofs.Reading.{known-is}
use Rattle.simplex_voter.proofs.Taking.{planned-none, planned-some, finished-from}
use Rattle.simplex_voter.proofs.planner.Planner.plan.Goals as goal

pub returns-in-None : goal.returns-in-None
unfolding stepped
returns-in-None g c = λ made answers desk s.
    planned-none (finished made c.args.now (current_of made desk.known)) _ (rw c.in-None.is at (c.in_ok-found.ensures made answers desk s))

pub returns-in_ok-finish-in-Some : goal.returns-in_ok-finish-in-Some
unfolding stepped
returns-in_ok-finish-in-Some g c = λ made answers desk s.
    planned-some (finished made c.args.now (current_of made desk.known)) _ c.in-Some.touched (rw c.in-Some.is at (c.in_ok-found.ensures made answers desk s))
    (λ doing stands.
    rw (finished-from made c.args.now c.current_view-before.result (current_of made desk.known) doing c.in-Some.touched
    (c.current_view-before.ensures made s.calls s.state ∙ ap (current_of made) (sym (known-is s)))) at (c.in_ok-finish-in-Some.ensures made answers doing stands))
