-- What is scripted: one round for each term, from the first on.
use Rattle.std.specs.Prelude.{ℕ, ◌-◌, List, slice_get, Option}
use Rattle.simplex_values.specs.Terms.{term_index}

-- a scripted round: who leads, and which members talk with the first half of a twin, and with the second
pub record ScriptedRound : Type 0 where
  pub leader : ℕ
  pub primary : ℕ
  pub secondary : ℕ

abbrev pub scripted : ℕ → ℕ → ℕ → ScriptedRound
scripted leader primary secondary = record { leader = leader; primary = primary; secondary = secondary }

-- the place of a view's round in the script: that of its term, from 0, where genesis has the place of view 1
unfoldable pub round_index : ℕ → ℕ → ℕ
round_index length view = term_index length view - 1

-- the scripted round of a view, if there is one
unfoldable pub round_at : List ScriptedRound → ℕ → ℕ → Option ScriptedRound
round_at script length view = slice_get script (round_index length view)
