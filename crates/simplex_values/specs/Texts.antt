-- How values are printed.
use Rattle.std.specs.Prelude.{ℕ, ◌/◌, ◌%◌, List, [], ◌∷◌, ◌++◌, false}
use Rattle.std.specs.List.{flat_map}
use Rattle.std.specs.Fmt.{decimal, digit_glyph}
use Rattle.simplex_values.specs.declared.round.Round.{Round}

-- the epoch and the view, with a dot between
abbrev pub round_text : Round → List ℕ
round_text round = decimal round.epoch ++ 46 ∷ decimal round.view

-- a byte as two digits of base 16, in lower case
unfoldable pub hex_byte : ℕ → List ℕ
hex_byte byte = digit_glyph false (byte / 16) ∷ digit_glyph false (byte % 16) ∷ []

-- bytes, each as two such digits
abbrev pub hex_text : List ℕ → List ℕ
hex_text bytes = flat_map hex_byte bytes
