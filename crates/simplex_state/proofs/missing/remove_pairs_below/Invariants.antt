use Rattle.std.proofs.Common.{◌≡◌, ℕ, ◌≤◌}
use Rattle.std.specs.BTreeSet.{btree_set_len}
use Rattle.simplex_state.specs.Missing.{has_pair}
use Rattle.simplex_state.proofs.missing.remove_pairs_below.Given as goal

abbrev pub invariant-loop-first : goal.invariant-loop-first
invariant-loop-first l = (p v : ℕ) → l.least ≤ p → has_pair l.pairs p v ≡ has_pair l.fn.pairs p v

abbrev pub decreases-loop-first : goal.decreases-loop-first
decreases-loop-first l = btree_set_len l.pairs
