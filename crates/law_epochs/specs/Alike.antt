-- Logs of two members, epoch by epoch.
use Rattle.std.specs.Prelude.{ℕ, ◌≡◌, List, [], ◌∷◌}
use Rattle.model_log.specs.declared.entry.LogEntry.{LogEntry}
use Rattle.model_log.specs.Fronts.{AreFronts}

-- of each epoch one log begins the other
abbrev pub AreAlike : List (ℕ × List LogEntry) → List (ℕ × List LogEntry) → Type 0
AreAlike [] [] = Unit {0}
AreAlike [] (b ∷ bs) = ⊥
AreAlike (a ∷ others) [] = ⊥
AreAlike (a ∷ others) (b ∷ bs) = (a.0 ≡ b.0) × AreFronts a.1 b.1 × AreAlike others bs
