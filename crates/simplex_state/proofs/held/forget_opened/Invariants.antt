use Rattle.std.proofs.Common.{◌≡◌, ℕ, ◌≤◌}
use Rattle.std.specs.BTreeMap.{btree_map_len}
use Rattle.simplex_values.specs.Terms.{next_term_start}
use Rattle.simplex_values.specs.Maps.{found}
use Rattle.simplex_state.specs.Certificates.{unsent_in}
use Rattle.simplex_state.proofs.held.forget_opened.Given as goal

abbrev pub invariant-loop-first : goal.invariant-loop-first
invariant-loop-first g l =
    ((q : ℕ) → l.least ≤ q → found l.certificates q ≡ found l.fn.certificates q)
    × ((q : ℕ) → l.current ≤ next_term_start l.length q → found l.certificates q ≡ found l.fn.certificates q)
    × ((q : ℕ) → unsent_in (found l.certificates q) ≡ unsent_in (found l.fn.certificates q))

abbrev pub decreases-loop-first : goal.decreases-loop-first
decreases-loop-first g l = btree_map_len l.certificates
