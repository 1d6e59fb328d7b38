use Rattle.std.proofs.Common.{◌≡◌, ◌+◌, ◌≤◌, length}
use Rattle.std.specs.List.{filter_map}
use Rattle.simplex_generator.specs.Summary.{final_view, final_views}
use Rattle.simplex_generator.proofs.sums.finalized_at.Given as goal

abbrev pub invariant-loop-rest : goal.invariant-loop-rest
invariant-loop-rest l = record {
  count : l.count + length (filter_map final_view l.rest) ≡ length (final_views l.entry);
  few : l.count + length l.rest ≤ length l.entry.calls;
}

abbrev pub decreases-loop-rest : goal.decreases-loop-rest
decreases-loop-rest l = length l.rest
