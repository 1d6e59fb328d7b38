use Rattle.std.proofs.Common.{get_or, ap, arith}
use Rattle.std.proofs.lemmas.List.Edits.{map_over_more}
use Rattle.simplex_mailbox.proofs.requested.leave_each.Goals as goal

pub loop-message-preserved : goal.loop-message-preserved
loop-message-preserved g c =
    rw c.leave.ensures
    (map_over_more (g.M.Requested.leave c.args.id) _ _ _ _ (omega arith) c.loop-message.invariant
    (ap (get_or c.loop-message.message-items c.loop-message.message-index) c.message-item.is))
