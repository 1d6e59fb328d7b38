-- Whom the two halves of a twin talk with.
use Rattle.std.specs.Prelude.{ℕ, ◌%◌, List, length, take, drop, Option, Some, None}
use Rattle.simplex_values.specs.Terms.{term_start}
use Rattle.simplex_twins.specs.Masks.{part}
use Rattle.simplex_twins.specs.Script.{ScriptedRound, round_at}

-- whom they talk with in a scripted round, and without one all
abbrev pub parts_in : Option ScriptedRound → List ℕ → List ℕ × List ℕ
parts_in None members = (members, members)
parts_in (Some round) members = (part round.primary members, part round.secondary members)

-- whom they talk with at a view
unfoldable pub partitions : List ScriptedRound → ℕ → ℕ → List ℕ → List ℕ × List ℕ
partitions script length view members = parts_in (round_at script length view) members

-- without a script: the members, cut at the place of the first view of the term, counted round and round
unfoldable pub cut_at : ℕ → ℕ → List ℕ → ℕ
cut_at length_of_term view members = term_start length_of_term view % length members

unfoldable pub view_partitions : ℕ → ℕ → List ℕ → List ℕ × List ℕ
view_partitions length view members =
    (take (cut_at length view members) members, drop (cut_at length view members) members)
