-- The pieces of a JSON text.
use Rattle.std.specs.Prelude.{ℕ, List, [], ◌∷◌, ◌++◌, codes}
use Rattle.std.specs.List.{flat_map}
use Rattle.hex.specs.Hex.{encode_lower}
use Rattle.simplex_text.specs.Lines.{pieces}

-- a text between quotes
abbrev pub quoted : List ℕ → List ℕ
quoted text = pieces (codes "\"" ∷ text ∷ codes "\"" ∷ [])

-- bytes, two digits each, as a text
abbrev pub hex_text : List ℕ → List ℕ
hex_text bytes = quoted (encode_lower bytes)

-- the items behind the first, each behind the mark
abbrev pub others_text : {T : Type 0} → (T → List ℕ) → List ℕ → List T → List ℕ
others_text text_of mark items = flat_map (λ item. mark ++ text_of item) items

-- a list of such items, with the mark between two of them
abbrev pub list_text : {T : Type 0} → (T → List ℕ) → List ℕ → List T → List ℕ
list_text text_of mark [] = codes "[]"
list_text text_of mark (first ∷ others) = codes "[" ++ (text_of first ++ (others_text text_of mark others ++ codes "]"))
