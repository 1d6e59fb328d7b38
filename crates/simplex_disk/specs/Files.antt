-- The files of a disk in memory.
use Rattle.std.specs.Prelude.{◌≡◌, ◌≢◌, ℕ, List, [], ◌∷◌, Option}
use Rattle.std.specs.Global.{Vec}
use Rattle.simplex_disk.specs.Memory.{file_in}

-- the entries of a map, as files
unfoldable pub kept_of : List (ℕ × Vec ℕ) → List (ℕ × List ℕ)
kept_of [] = []
kept_of (e ∷ es) = (e.0, e.1.items) ∷ kept_of es

-- This file reads so now, and the others as before.
pub record AreFilesBut (n : ℕ) (old new : List (ℕ × List ℕ)) (now : Option (List ℕ)) : Type 0 where
  pub here : file_in new n ≡ now
  pub others : (m : ℕ) → m ≢ n → file_in new m ≡ file_in old m

-- Of the files of a map this one reads now as the change makes it, and the others as before.
abbrev pub Rewrites : ℕ → List (ℕ × Vec ℕ) → List (ℕ × Vec ℕ) → (Option (List ℕ) → Option (List ℕ)) → Type 0
Rewrites n old new change = AreFilesBut n (kept_of old) (kept_of new) (change (file_in (kept_of old) n))
