-- The views that have asks which are done with at one time.
use Rattle.std.specs.Prelude.{◌≡◌, ℕ, ◌==◌, not, ◌&&◌, ◌||◌, List}
use Rattle.simplex_values.specs.declared.ask.Kind.{Kind}
use Rattle.simplex_values.specs.declared.ask.Kind.TheVariants as kind
use Rattle.model_resolver.specs.declared.held.Held.{Held}
use Rattle.simplex_fetch.specs.declared.holders.Holders.{Holders}
use Rattle.simplex_fetch.specs.Index.{is_there}

-- the views with an ask of this kind
abbrev pub of_kind : Kind → Holders → List ℕ
of_kind kind.Nullification holders = holders.nullifications.keys
of_kind kind.Notarization holders = holders.notarizations.keys

-- the view is among those whose asks it holds, and all others are where they were
pub record IsNoted (view : ℕ) (held : Held) (old new : Holders) : Type 0 where
  pub nullifications : (q : ℕ) → is_there q new.nullifications.keys
      ≡ ((held.nullification && q == view) || is_there q old.nullifications.keys)
  pub notarizations : (q : ℕ) → is_there q new.notarizations.keys
      ≡ ((held.notarization && q == view) || is_there q old.notarizations.keys)
  pub floors : (q : ℕ) → is_there q new.floors.keys ≡ ((held.floor && q == view) || is_there q old.floors.keys)

-- the view is not among those whose asks it held, and all others are where they were
pub record IsForgotten (view : ℕ) (held : Held) (old new : Holders) : Type 0 where
  pub nullifications : (q : ℕ) → is_there q new.nullifications.keys
      ≡ (not (held.nullification && q == view) && is_there q old.nullifications.keys)
  pub notarizations : (q : ℕ) → is_there q new.notarizations.keys
      ≡ (not (held.notarization && q == view) && is_there q old.notarizations.keys)
  pub floors : (q : ℕ) → is_there q new.floors.keys ≡ (not (held.floor && q == view) && is_there q old.floors.keys)
