-- Which views the pairs span, of which the stairs are kept.
use Rattle.std.specs.Prelude.{◌≡◌, ◌<◌, ◌≤◌, ◌&&◌, ℕ, nat_lt, Bool, true, Option, Some, None, if◌then◌else◌}
use Rattle.simplex_values.specs.Maps.{found}
use Rattle.simplex_conflicts.specs.declared.stairs.Stairs.{Stairs}

-- whether the view lies strictly between the two
abbrev pub is_between : ℕ → ℕ → ℕ → Bool
is_between lower upper view = nat_lt view upper && nat_lt lower view

-- the upper view of each pair that is kept, by the lower: both rise, and the views between those of a pair are the spanned ones
pub record Rising (uppers : ℕ → Option ℕ) (spanned : ℕ → Bool) : Type 0 where
  pub rises : (a b c d : ℕ) → uppers a ≡ Some b → uppers c ≡ Some d → a < c → b < d
  pub each : (a b view : ℕ) → uppers a ≡ Some b → a < view → view < b → spanned view ≡ true
  pub some : (view : ℕ) → spanned view ≡ true → (a : ℕ) × (b : ℕ) × (uppers a ≡ Some b) × (a < view) × (view < b)

-- the stairs span exactly these views
abbrev pub StairsStand : Stairs → (ℕ → Bool) → Type 0
StairsStand stairs spanned = Rising (λ a. found stairs.uppers a) spanned

-- a pair reaches from the lower view, or below it, to the upper one, or above it
abbrev pub Reaches : Stairs → ℕ → ℕ → Type 0
Reaches stairs lower upper = (a : ℕ) × (b : ℕ) × (found stairs.uppers a ≡ Some b) × (a ≤ lower) × (upper ≤ b)

-- a pair that reaches above
abbrev pub if_above : ℕ → Option ℕ → Option ℕ
if_above upper None = None
if_above upper (Some other) = if nat_lt upper other then Some other else None

-- from the lower view on those pairs are left that reach above the upper view, and below it all
abbrev pub Cleared : Stairs → Stairs → ℕ → ℕ → Type 0
Cleared old new lower upper =
    (a : ℕ) → found new.uppers a ≡ (if nat_lt a lower then found old.uppers a else if_above upper (found old.uppers a))
