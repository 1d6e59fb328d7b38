use Rattle.std.specs.BTreeMap.{btree_map_len}
use Rattle.simplex_values.specs.Maps.{found}
use Rattle.simplex_conflicts.proofs.Climbing.{Clearing}
use Rattle.simplex_conflicts.proofs.stairs.Stairs.clear.Given as goal

abbrev pub invariant-loop-first : goal.invariant-loop-first
invariant-loop-first l = Clearing (λ a. found l.fn.self.uppers a) (λ a. found l.self.uppers a) l.lower l.upper

abbrev pub decreases-loop-first : goal.decreases-loop-first
decreases-loop-first l = btree_map_len l.self.uppers
