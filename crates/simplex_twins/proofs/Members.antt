-- Leaders of a script are members.
use Rattle.std.proofs.Common.{ℕ, ◌≡◌, ◌≤◌, List, [], ◌∷◌, false, IsTrue, refl, arith}
use Rattle.std.proofs.lemmas.Grind.{common_steps}
use Rattle.std.specs.Prelude.{map}
use Rattle.simplex_twins.specs.Script.{ScriptedRound}
use Rattle.simplex_twins.specs.Faults.{has_bad_leader}
use Rattle.simplex_twins.specs.Leaders.{are_members}

-- where no leader is bad, each is a member
pub leaders_are_members : (script : List ScriptedRound) (n : ℕ) → has_bad_leader script n ≡ false → IsTrue (are_members (map (λ round. round.leader) script) n)
unfolding has_bad_leader
leaders_are_members [] n good = refl
leaders_are_members (round ∷ script) n good = grind (arith, common_steps, leaders_are_members script n)

-- members are members among more of them
pub members_among_more : (leaders : List ℕ) (n more : ℕ) → IsTrue (are_members leaders n) → n ≤ more → IsTrue (are_members leaders more)
members_among_more [] n more each up = refl
members_among_more (leader ∷ leaders) n more each up = grind (arith, common_steps, members_among_more leaders n more)
