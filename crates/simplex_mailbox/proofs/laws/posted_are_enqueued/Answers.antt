use Rattle.std.proofs.Common.{◌≡◌, ◌∙◌, sym, refl, List, [], ◌∷◌}
use Rattle.simplex_mailbox.specs.Waiting.{Waiting}
use Rattle.simplex_mailbox.specs.Mail.{Mail, feedback_of, enqueued, all_enqueued}
use Rattle.simplex_mailbox.specs.Post.{Posted}
use Rattle.simplex_mailbox.proofs.laws.posted_are_enqueued.Goals as goal

posted-enqueued : {M : Type 0} (handle : Waiting M → M → Waiting M) (before : Mail M) (messages : List M) (after : Mail M)
    → Posted (λ mail message answer next. (answer ≡ feedback_of mail) × (next ≡ enqueued handle mail message)) before messages after
    → after ≡ all_enqueued handle before messages
unfolding all_enqueued
posted-enqueued handle before [] after posted = sym posted
posted-enqueued handle before (message ∷ messages) after posted =
    posted-enqueued handle posted.0 messages after posted.2 ∙ rw posted.1.1.1 refl

pub returns : goal.returns
returns g c = λ before messages after posted. posted-enqueued _ before messages after posted
