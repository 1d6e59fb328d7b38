use Rattle.std.proofs.Common.{sym, ◌∙◌, refl, Some}
use Rattle.model_rules.specs.Views.{current_of}
use Rattle.model_steps.specs.Desk.{begun}
use Rattle.model_steps.specs.Voter.{acted, act_on_deadline}
use Rattle.simplex_voter.proofs.Reading.{known-is}
use Rattle.simplex_voter.proofs.Taking.{nothing-acted, acted-so}
use Rattle.simplex_voter.proofs.planner.Planner.take_deadline.Goals as goal

pub returns-then-not-is_due : goal.returns-then-not-is_due
unfolding acted
returns-then-not-is_due g c = λ made answers desk s.
    let due = sym (c.is_due.ensures made answers _ s) ∙ c.if-not-is_due.true in
    nothing-acted (rw due refl) s

pub returns : goal.returns
unfolding acted
returns g c = λ made answers desk s.
    let due = sym (c.is_due.ensures made answers _ s) ∙ c.if-not-is_due.false in
    acted-so (act_on_deadline made c.args.now (begun desk), Some (current_of made desk.known)) _ (rw due refl)
    (rw (c.current_view-view.ensures made s.calls s.state, ← known-is s) refl) (c.in_ok-act_on_deadline.ensures made answers _ s)
