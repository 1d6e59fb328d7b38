use Rattle.std.proofs.Common.{◌∙◌, sym}
use Rattle.simplex_mailbox.proofs.Skipped.{place-goes, behind-place}
use Rattle.simplex_mailbox.proofs.pending.PendingOverflow.pop.Goals as goal

pub returns-in-Some-clause-message : goal.returns-in-Some-clause-message
returns-in-Some-clause-message g c = place-goes _ _ _ _ (sym c.take.ensures.value ∙ c.in-Some.is)

pub returns-in-Some-clause-rest : goal.returns-in-Some-clause-rest
returns-in-Some-clause-rest g c =
    rw c.take.ensures.after (behind-place _ _ _ _ (sym c.take.ensures.value ∙ c.in-Some.is))
