-- A small script.
use Rattle.std.specs.Prelude.{ℕ, List, [], ◌∷◌}
use Rattle.simplex_twins.specs.Script.{ScriptedRound, scripted}

-- member 3 leads; one half talks with members 0, 1 and 3, the other with 1 and 2
abbrev pub script : List ScriptedRound
script = scripted 3 11 6 ∷ []

abbrev pub four : List ℕ
four = 0 ∷ 1 ∷ 2 ∷ 3 ∷ []
