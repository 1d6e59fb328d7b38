use Rattle.std.proofs.Common.{length}
use Rattle.simplex_mailbox.specs.Waiting.{only_rest}
use Rattle.simplex_mailbox.proofs.Skipped.{GoesOn}
use Rattle.simplex_mailbox.proofs.pending.next_kept.Given as goal

abbrev pub invariant-loop-message : goal.invariant-loop-message
invariant-loop-message g l = GoesOn g.M.Requested.is_skipped (only_rest l.fn.rest.items) l.rest.items

abbrev pub decreases-loop-message : goal.decreases-loop-message
decreases-loop-message g l = length l.rest.items
