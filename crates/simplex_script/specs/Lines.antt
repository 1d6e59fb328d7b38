-- Lines, and their words.
use Rattle.std.specs.Prelude.{ℕ, ◌==◌, Bool, List, [], ◌∷◌, length, codes, nat_eq, Option, None, Some, option_map, if◌then◌else◌}
use Rattle.std.specs.List.{slice_split, starts_with}

-- the parts of a line between blanks, some of which may be empty
abbrev pub parts_of : List ℕ → List (List ℕ)
parts_of line = slice_split (λ c. c == 32) line

-- those of the parts that are not empty
abbrev pub words_in : List (List ℕ) → List (List ℕ)
words_in [] = []
words_in (part ∷ parts) = if length part == 0 then words_in parts else part ∷ words_in parts

-- the words of a line, with blanks between them
abbrev pub words_of : List ℕ → List (List ℕ)
words_of line = words_in (parts_of line)

-- the word, if there is just one
abbrev pub only : List (List ℕ) → Option (List ℕ)
only [] = None
only (word ∷ after) = if length after == 0 then Some word else None

-- two words, if there are just two
abbrev pub pair_of : List (List ℕ) → Option (List ℕ × List ℕ)
pair_of [] = None
pair_of (first ∷ after) = option_map (λ second. (first, second)) (only after)

-- the line begins with two blanks and a bar
abbrev pub is_told : List ℕ → Bool
is_told line = starts_with nat_eq line (codes "  |")

-- the word begins a comment
abbrev pub is_comment : List ℕ → Bool
is_comment word = starts_with nat_eq word (codes "#")
