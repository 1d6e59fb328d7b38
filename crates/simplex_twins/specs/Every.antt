-- Every script of a size, in one order.
use Rattle.std.specs.Prelude.{ℕ, ◌<◌, ◌+◌, ◌-◌, ◌^◌, ◌||◌, suc, zero, Bool, List, [], ◌∷◌, ◌++◌, map, filter, length, is_none}
use Rattle.std.specs.List.{flat_map, range_with_len, list_all}
use Rattle.simplex_twins.specs.Masks.{has}
use Rattle.simplex_twins.specs.Script.{ScriptedRound, scripted}
use Rattle.simplex_twins.specs.Faults.{fault_of}

-- whether a half talks with the leader
abbrev pub is_seen : ScriptedRound → Bool
is_seen round = has round.primary round.leader || has round.secondary round.leader

-- the numbers from the first on that are below the second
abbrev pub between : ℕ → ℕ → List ℕ
between from to = range_with_len from (to - from)

-- the rounds among n members with this leader and this mask of the first half, where a half talks with the leader,
-- by the mask of the second half, from this one on
unfoldable pub with_primary : ℕ → ℕ → ℕ → ℕ → List ScriptedRound
with_primary n leader primary from = filter is_seen (map (scripted leader primary) (between from (2 ^ n)))

-- those with this leader, by the mask of the first half, from this one on
unfoldable pub with_leader : ℕ → ℕ → ℕ → List ScriptedRound
with_leader n leader from = flat_map (λ primary. with_primary n leader primary 0) (between from (2 ^ n))

-- those of all leaders, from this one on
unfoldable pub with_leaders : ℕ → ℕ → List ScriptedRound
with_leaders n from = flat_map (λ leader. with_leader n leader 0) (between from n)

-- every round among n members: by leader, then by the mask of the first half, then by that of the second
unfoldable pub every_round : ℕ → List ScriptedRound
every_round n = with_leaders n 0

-- every script of so many rounds among n members: by the first round, then by the second, and so on
unfoldable pub every_script : ℕ → ℕ → List (List ScriptedRound)
every_script n zero = [] ∷ []
every_script n (suc rounds) = flat_map (λ round. map (λ later. round ∷ later) (every_script n rounds)) (every_round n)

-- the rounds behind one in this order
unfoldable pub rounds_after : ℕ → ScriptedRound → List ScriptedRound
rounds_after n round =
    with_primary n round.leader round.primary (round.secondary + 1)
    ++ (with_leader n round.leader (round.primary + 1) ++ with_leaders n (round.leader + 1))

-- the same, and that one too where a half talks with its leader
unfoldable pub rounds_from : ℕ → ScriptedRound → List ScriptedRound
rounds_from n round =
    with_primary n round.leader round.primary round.secondary
    ++ (with_leader n round.leader (round.primary + 1) ++ with_leaders n (round.leader + 1))

-- a round whose leader is one of n members, and whose masks name none but them
pub record IsAmong (n : ℕ) (round : ScriptedRound) : Type 0 where
  pub leader : round.leader < n
  pub primary : round.primary < 2 ^ n
  pub secondary : round.secondary < 2 ^ n

-- the scripts behind one in this order
unfoldable pub scripts_after : ℕ → List ScriptedRound → List (List ScriptedRound)
scripts_after n [] = []
scripts_after n (round ∷ later) =
    map (λ script. round ∷ script) (scripts_after n later)
    ++ flat_map (λ next. map (λ script. next ∷ script) (every_script n (length later))) (rounds_after n round)

-- whether each round is taken among n members
abbrev pub are_good : ℕ → List ScriptedRound → Bool
are_good n script = list_all (λ round. is_none (fault_of round n)) script
