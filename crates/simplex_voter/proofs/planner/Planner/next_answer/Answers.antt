use Rattle.std.proofs.Common.{sym, ◌∙◌, refl}
use Rattle.simplex_voter.specs.Actor.{next_answer}
use Rattle.simplex_voter.proofs.Sources.{proposal-next, verify-next, certify-next}
use Rattle.simplex_voter.proofs.planner.Planner.next_answer.Goals as goal

pub returns-in-Propose : goal.returns-in-Propose
returns-in-Propose g c = λ made answers desk s. rw c.in-Propose.is (c.pending_answer.ensures ∙ sym (proposal-next s))

pub returns-in-Verify : goal.returns-in-Verify
returns-in-Verify g c = λ made answers desk s. rw c.in-Verify.is (c.kept_answer.ensures ∙ sym (verify-next s))

pub returns-in-Certify : goal.returns-in-Certify
returns-in-Certify g c = λ made answers desk s.
    rw c.in-Certify.is (rw (← c.deref.ensures.value, ← c.first_answered.ensures, ← c.kept_answer-in-Certify.ensures) at (sym (certify-next s)))

pub returns-in-Mail : goal.returns-in-Mail
unfolding next_answer
returns-in-Mail g c = λ made answers desk s. rw c.in-Mail.is refl

pub returns-in-Timer : goal.returns-in-Timer
unfolding next_answer
returns-in-Timer g c = λ made answers desk s. rw c.in-Timer.is refl
