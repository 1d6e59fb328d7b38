use Rattle.std.proofs.Common.{get_or, ap, arith}
use Rattle.std.proofs.lemmas.List.Edits.{map_over_more}
use Rattle.simplex_messages.proofs.by_view.change_each.Goals as goal

pub loop-queued-preserved : goal.loop-queued-preserved
loop-queued-preserved g c =
    rw c.change_by.ensures
    (map_over_more (g.M.ByView.changed_by c.args.message.now) _ _ _ _ (omega arith) c.loop-queued.invariant
    (ap (get_or c.loop-queued.queued-items c.loop-queued.queued-index) c.queued-item.is))
