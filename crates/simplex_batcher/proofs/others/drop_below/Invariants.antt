use Rattle.std.proofs.Common.{◌≡◌, ℕ, ◌≤◌}
use Rattle.std.specs.BTreeMap.{btree_map_len}
use Rattle.simplex_batcher.specs.Rounds.{found}
use Rattle.simplex_batcher.proofs.others.drop_below.Given as goal

abbrev pub invariant-loop-first : goal.invariant-loop-first
invariant-loop-first l = (q : ℕ) → l.least ≤ q → found l.rounds q ≡ found l.fn.rounds q

abbrev pub decreases-loop-first : goal.decreases-loop-first
decreases-loop-first l = btree_map_len l.rounds
