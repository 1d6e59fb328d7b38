-- The name that is nearest to a word.
use Rattle.std.specs.Prelude.{ℕ, ◌<◌, ◌≤◌, List, All, Contains, length, nat_eq}
use Rattle.std.specs.Str.{chars}
use Rattle.strsim.specs.Edits.{levenshtein_row}
use Rattle.simplex_commands.specs.declared.names.TheConstants.{MOST_EDITS}

-- how many characters are put in, left out or replaced
abbrev pub edits : List ℕ → List ℕ → ℕ
edits word name = levenshtein_row nat_eq (chars word) (chars name) (length (chars name))

-- it is one of these and near enough, and none of them is nearer
abbrev pub IsNearest : {T : Type 0} → (T → List ℕ) → List ℕ → List T → T → Type 0
IsNearest name word among one =
    Contains among one × (edits word (name one) ≤ MOST_EDITS)
    × All (λ other. edits word (name one) ≤ edits word (name other)) among

-- none of these is near enough
abbrev pub AreFar : {T : Type 0} → (T → List ℕ) → List ℕ → List T → Type 0
AreFar name word among = All (λ other. MOST_EDITS < edits word (name other)) among
