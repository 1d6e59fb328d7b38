-- Which proposals a set holds.
use Rattle.std.specs.Prelude.{ℕ, Bool, List}
use Rattle.std.specs.List.{list_any}
use Rattle.std.specs.Ordering.{nat_cmp, ordering_then}
use Rattle.std.specs.declared.cmp.Ordering.{Ordering}
use Rattle.std.specs.Cmp.Lexicographic.{slice_cmp}
use Rattle.std.specs.BTreeMap.{is_at}
use Rattle.std.specs.BTreeSet.{BTreeSet}
use Rattle.simplex_values.specs.declared.proposal.Proposal.{Proposal}

-- by epoch, then view, then parent, then payload
abbrev pub key_cmp : ℕ × ℕ × ℕ × List ℕ → ℕ × ℕ × ℕ × List ℕ → Ordering
key_cmp x y = ordering_then (ordering_then (ordering_then (nat_cmp x.0 y.0) (nat_cmp x.1 y.1)) (nat_cmp x.2 y.2)) (slice_cmp nat_cmp x.3 y.3)

-- whether the proposal is among them
unfoldable pub has_proposal : BTreeSet (ℕ × ℕ × ℕ × List ℕ) → Proposal → Bool
has_proposal proposals p = list_any (is_at (key_cmp (p.round.epoch, p.round.view, p.parent, p.payload))) proposals.keys
