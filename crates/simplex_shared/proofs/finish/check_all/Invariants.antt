use Rattle.std.proofs.Common.{◌≡◌, ◌++◌, List, length}
use Rattle.std.specs.List.{All}
use Rattle.simplex_shared.specs.declared.view.Stage.TheVariants.{Holding}
use Rattle.simplex_shared.specs.Passes.{Viewer, GoesOn}
use Rattle.simplex_shared.proofs.finish.check_all.Given as goal

abbrev pub invariant-loop-pass : goal.invariant-loop-pass
invariant-loop-pass g l = record {
  own : l.holder.table_id ≡ l.lock.table.shared.table_id;
  left : All (λ pass. pass.mailbox.table ≡ l.lock.table.shared.table_id) l.passes.items;
  holds : l.holder.me.0.stage ≡ Holding;
  seen : l.holder.me.0.seen ≡ l.fn.holder.me.0.seen;
  done : (rest : List (Viewer g.row.M.Denot)) × (l.fn.passes.items ≡ l.passes.items ++ rest) × All (λ pass. GoesOn pass l.fn.holder.me.0.seen) rest;
}

abbrev pub decreases-loop-pass : goal.decreases-loop-pass
decreases-loop-pass g l = length l.passes.items
