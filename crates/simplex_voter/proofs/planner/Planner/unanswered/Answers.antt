use Rattle.std.proofs.Common.{sym, ◌∙◌}
use Rattle.simplex_voter.proofs.Unanswered.{prepare-unanswered, propose-unanswered, verify-unanswered, certify-unanswered}
use Rattle.simplex_voter.proofs.planner.Planner.unanswered.Goals as goal

pub returns-in-Prepare : goal.returns-in-Prepare
returns-in-Prepare g c = λ made answers desk s. rw c.in-Prepare.is (c.waiting_prepare.ensures ∙ sym (prepare-unanswered s))

pub returns-in-Propose : goal.returns-in-Propose
returns-in-Propose g c = λ made answers desk s. rw c.in-Propose.is (c.waiting_propose.ensures ∙ sym (propose-unanswered s))

pub returns-in-Verify : goal.returns-in-Verify
returns-in-Verify g c = λ made answers desk s. rw c.in-Verify.is (c.waiting_verify.ensures ∙ sym (verify-unanswered s))

pub returns-in-Certify : goal.returns-in-Certify
returns-in-Certify g c = λ made answers desk s. rw c.in-Certify.is (rw c.deref.ensures.value at c.waiting_certify.ensures ∙ sym (certify-unanswered s))
