use Rattle.std.proofs.Common.{◌≡◌, ℕ, ◌≤◌}
use Rattle.std.specs.BTreeMap.{btree_map_len}
use Rattle.simplex_values.specs.Maps.{found}
use Rattle.simplex_values.proofs.maps.drop_below.Given as goal

abbrev pub invariant-loop-first : goal.invariant-loop-first
invariant-loop-first g l = (q : ℕ) → l.least ≤ q → found l.values q ≡ found l.fn.values q

abbrev pub decreases-loop-first : goal.decreases-loop-first
decreases-loop-first g l = btree_map_len l.values
