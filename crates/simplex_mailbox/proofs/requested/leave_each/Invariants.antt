use Rattle.std.proofs.Common.{◌≡◌, ◌++◌, map, take, drop}
use Rattle.simplex_mailbox.proofs.requested.leave_each.Given as goal

abbrev pub invariant-loop-message : goal.invariant-loop-message
invariant-loop-message g l =
    l.message-items ≡ map (g.M.Requested.leave l.id) (take l.message-index l.fn.messages) ++ drop l.message-index l.fn.messages
