use Rattle.simplex_turns.proofs.Drained.{left_in, Came}
use Rattle.simplex_turns.proofs.handing.drain.Given as goal

abbrev pub invariant-loop-message : goal.invariant-loop-message
invariant-loop-message g l = Came g.M.Requested.is_skipped l.fn.mailbox l.messages.items l.mailbox

abbrev pub decreases-loop-message : goal.decreases-loop-message
decreases-loop-message g l = left_in g.M.Requested.is_skipped l.mailbox
