-- A name for what a clause unfolds to compute a sample.
use Rattle.std.specs.Prelude.{⊤}
use Rattle.simplex_mailbox.specs.Mail.{after_recv, all_enqueued, enqueued, feedback_of, taken_from}
use Rattle.simplex_mailbox.specs.Waiting.{behind, drained, in_turn, undrained, undrained_at}

-- what a mailbox holds, and what comes out of it
unfoldable pub mail : ⊤
unfolding in_turn drained behind undrained_at undrained feedback_of enqueued all_enqueued taken_from after_recv
mail = tt
