use Rattle.std.proofs.Common.{◌≡◌, ℕ, ◌≤◌}
use Rattle.std.specs.BTreeSet.{btree_set_len}
use Rattle.simplex_values.specs.Maps.{has}
use Rattle.simplex_values.proofs.maps.remove_below.Given as goal

abbrev pub invariant-loop-first : goal.invariant-loop-first
invariant-loop-first l = (q : ℕ) → l.least ≤ q → has l.views q ≡ has l.fn.views q

abbrev pub decreases-loop-first : goal.decreases-loop-first
decreases-loop-first l = btree_set_len l.views
