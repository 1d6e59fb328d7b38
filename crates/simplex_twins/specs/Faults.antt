-- What may be wrong with a script.
use Rattle.std.specs.Prelude.{ℕ, ◌||◌, nat_le, Bool, List, Option, Some, None, if◌then◌else◌}
use Rattle.std.specs.List.{list_any}
use Rattle.simplex_twins.specs.declared.error.TwinsError.{TwinsError}
use Rattle.simplex_twins.specs.declared.error.TwinsError.TheVariants.{LeaderUnseen, BadLeader, BadMask}
use Rattle.simplex_twins.specs.Masks.{has, reaches}
use Rattle.simplex_twins.specs.Script.{ScriptedRound}

-- the first fault of a round among n members: its leader is one of them, its halves talk with none but them, and one of
-- them with the leader
unfoldable pub fault_of : ScriptedRound → ℕ → Option TwinsError
fault_of round n =
    if nat_le n round.leader then Some BadLeader
    else if reaches round.primary n || reaches round.secondary n then Some BadMask
    else if has round.primary round.leader || has round.secondary round.leader then None
    else Some LeaderUnseen

-- whether a script has a leader who is none of n members
unfoldable pub has_bad_leader : List ScriptedRound → ℕ → Bool
has_bad_leader script n = list_any (λ round. nat_le n round.leader) script
