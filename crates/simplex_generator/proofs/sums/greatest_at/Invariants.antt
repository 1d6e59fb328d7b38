use Rattle.std.proofs.Common.{◌≡◌, length}
use Rattle.std.specs.Prelude.{max}
use Rattle.std.specs.List.{filter_map, fold}
use Rattle.simplex_generator.specs.Summary.{final_view, final_views}
use Rattle.simplex_generator.proofs.sums.greatest_at.Given as goal

abbrev pub invariant-loop-rest : goal.invariant-loop-rest
invariant-loop-rest l = fold max l.greatest (filter_map final_view l.rest) ≡ fold max 0 (final_views l.entry)

abbrev pub decreases-loop-rest : goal.decreases-loop-rest
decreases-loop-rest l = length l.rest
