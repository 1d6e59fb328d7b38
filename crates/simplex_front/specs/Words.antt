-- What words say.
use Rattle.std.specs.Prelude.{ℕ, Bool, false, List, [], ◌∷◌}
use Rattle.std.specs.Str.{bytes_eq}

-- there is one word, and it is this
abbrev pub is_alone : List ℕ → List (List ℕ) → Bool
is_alone word (only ∷ []) = bytes_eq only word
is_alone word _ = false
