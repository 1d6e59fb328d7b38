-- Behind a script.
use Rattle.std.proofs.Common.{ℕ, ◌≡◌, ◌≤◌, List, length, None}
use Rattle.std.proofs.lemmas.Option.{slice_get_past}
use Rattle.simplex_twins.specs.Script.{ScriptedRound, round_index, round_at}

-- behind the last scripted round there is none
pub behind_the_script : (script : List ScriptedRound) (term view : ℕ) → length script ≤ round_index term view → round_at script term view ≡ None
unfolding round_at
behind_the_script script term view past = slice_get_past script (round_index term view) past
