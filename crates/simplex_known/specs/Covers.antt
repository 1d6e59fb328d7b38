-- Which views nullifications cover.
use Rattle.std.specs.Prelude.{◌≡◌, ◌<◌, ◌≤◌, ℕ, Bool, true}
use Rattle.std.specs.BTreeMap.{BTreeMap}
use Rattle.simplex_values.specs.Terms.{term_index}
use Rattle.simplex_state.specs.declared.ranges.Ranges.{Ranges}
use Rattle.simplex_state.specs.Ranges.{holds}
use Rattle.simplex_state.specs.Stands.{covered_in}
use Rattle.simplex_known.specs.declared.covers.Covers.{Covers}

-- exactly these views are covered
pub record CoversStand (kept : Covers) (covered : ℕ → Bool) : Type 0 where
  pub some_length : 0 < kept.length
  pub least : (view : ℕ) → covered_in kept.length kept.least view ≡ covered view
  pub whole : (view : ℕ) → holds kept.whole (term_index kept.length view) ≡ true → covered view ≡ true

-- from the first view on each term that is taken for whole is covered
abbrev pub are_whole : Ranges → BTreeMap ℕ ℕ → ℕ → ℕ → Type 0
are_whole whole least length first =
    (q : ℕ) → first ≤ q → holds whole (term_index length q) ≡ true → covered_in length least q ≡ true
