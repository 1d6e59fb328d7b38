-- Histories of calls, each of which a pass made.
use Rattle.std.specs.Prelude.{◌≡◌, ℕ, suc, List, [], ◌∷◌, ◌++◌, ◌==◌, if◌then◌else◌}

module _ {E : Type 0} where
  -- the calls of the pass with this number, in order
  abbrev pub calls_by : (caller : E → ℕ) → ℕ → List E → List E
  calls_by caller number [] = []
  calls_by caller number (call ∷ calls) =
      if caller call == number then call ∷ calls_by caller number calls else calls_by caller number calls

  -- the places of these calls, where the first call of the list has the place `at`
  abbrev pub places_by : (caller : E → ℕ) → ℕ → ℕ → List E → List ℕ
  places_by caller number at [] = []
  places_by caller number at (call ∷ calls) =
      if caller call == number then at ∷ places_by caller number (suc at) calls
      else places_by caller number (suc at) calls

  -- the history begins with these calls
  abbrev pub StartsWith : List E → List E → Type 0
  StartsWith history calls = (rest : List E) × (history ≡ calls ++ rest)
