-- Whether each view between two is covered.
use Rattle.std.proofs.Common.{◌≡◌, ℕ, ◌+◌, ◌-◌, ◌<◌, ◌≤◌, ◌^◌, not, Bool, true, find, ap, ◌∙◌, arith}
use Rattle.std.specs.List.{range_with_len}
use Rattle.std.specs.Option.{is_none}
use Rattle.simplex_values.specs.Terms.{next_of}
use Rattle.simplex_state.specs.Stands.{covered_in}
use Rattle.simplex_state.proofs.Walking.{find_alike, find_nothing}
use Rattle.simplex_known.specs.declared.covers.Covers.{Covers}
use Rattle.simplex_known.specs.Covers.{CoversStand, are_whole}

-- none is left out
abbrev pub is_spanned : (ℕ → Bool) → ℕ → ℕ → Bool
is_spanned covered first end = is_none (find (λ v. not (covered v)) (range_with_len first (end - first)))

-- ends where it starts
pub spans_nothing : (covered : ℕ → Bool) (first end : ℕ) → end ≤ first → is_spanned covered first end ≡ true
spans_nothing covered first end le = ap is_none (find_nothing (λ v. not (covered v)) first (end - first) (omega (arith, le)))

module _ (kept : Covers) (covered : ℕ → Bool) (stands : CoversStand kept covered) where
  pub whole_are : (first : ℕ) → are_whole kept.whole kept.least kept.length first
  whole_are first q from held = stands.least q ∙ stands.whole q held

  pub spans_alike : (first end : ℕ) → is_spanned (λ v. covered_in kept.length kept.least v) first end ≡ is_spanned covered first end
  spans_alike first end =
      ap is_none (find_alike (λ v. not (covered_in kept.length kept.least v)) (λ v. not (covered v)) first (end - first) (λ v from. ap not (stands.least v)))

pub next_is : (lower next upper : ℕ) → next ≡ next_of lower → lower < upper → upper < 2 ^ 64 → next ≡ lower + 1
unfolding next_of
next_is lower next upper e l low = omega (arith, e, l, low)
