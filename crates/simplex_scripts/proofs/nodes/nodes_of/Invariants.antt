use Rattle.std.proofs.Common.{◌≡◌}
use Rattle.std.specs.List.{flat_map, range_with_len}
use Rattle.model_run.specs.Kinds.{nodes_at}
use Rattle.simplex_scripts.proofs.nodes.nodes_of.Given as goal

abbrev pub invariant-loop-member : goal.invariant-loop-member
invariant-loop-member l = l.nodes.items ≡ flat_map (nodes_at l.setup) (range_with_len 0 l.member)
