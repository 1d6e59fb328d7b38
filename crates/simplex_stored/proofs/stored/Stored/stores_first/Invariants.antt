use Rattle.std.proofs.Common.{◌≡◌, []}
use Rattle.std.specs.List.{filter_map}
use Rattle.simplex_journal.specs.Contents.{kept}
use Rattle.model_audit.specs.Order.{are_in_order}
use Rattle.model_audit.specs.Rebuilt.{call_for}
use Rattle.simplex_stored.specs.Before.{BeforeStands}
use Rattle.simplex_stored.proofs.Order.{so_far, left_of}
use Rattle.simplex_stored.proofs.stored.Stored.stores_first.Given as goal

abbrev pub invariant-loop-call : goal.invariant-loop-call
invariant-loop-call l =
    BeforeStands l.before (so_far l.calls l.call-index)
    × (left_of (kept l.self) l.calls l.call-index ≡ are_in_order (kept l.self) [] (filter_map call_for l.calls))
