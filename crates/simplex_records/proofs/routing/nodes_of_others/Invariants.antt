use Rattle.std.proofs.Common.{◌≡◌, ◌==◌}
use Rattle.std.specs.Prelude.{filter, not}
use Rattle.std.specs.List.{range_with_len}
use Rattle.simplex_records.specs.Routes.{routed_nodes}
use Rattle.simplex_records.proofs.routing.nodes_of_others.Given as goal

abbrev pub invariant-loop-member : goal.invariant-loop-member
invariant-loop-member l = l.nodes ≡ routed_nodes l.setup l.view l.from (filter (λ m. not (m == l.from.member)) (range_with_len 0 l.member))
