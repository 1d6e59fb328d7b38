-- Scripted leaders are members.
use Rattle.std.proofs.Common.{ℕ, suc, zero, ◌<◌, List, [], ◌∷◌, IsTrue, arith}
use Rattle.std.proofs.lemmas.Grind.{common_steps}
use Rattle.std.specs.Prelude.{slice_get, unwrap_or}
use Rattle.simplex_values.specs.declared.round.Round.{Round}
use Rattle.simplex_twins.specs.Script.{round_index}
use Rattle.simplex_twins.specs.Leaders.{scripted_leader, are_members}

member_at : (leaders : List ℕ) (n index otherwise : ℕ) → IsTrue (are_members leaders n) → otherwise < n
    → unwrap_or (slice_get leaders index) otherwise < n
member_at [] n index otherwise each below = below
member_at (leader ∷ leaders) n zero otherwise each below = grind (arith, common_steps)
member_at (leader ∷ leaders) n (suc index) otherwise each below =
    member_at leaders n index otherwise (grind (arith, common_steps)) below

-- who leads is a member, where each scripted leader is, and who leads behind the script
pub scripted_leader-below : (leaders : List ℕ) (length n : ℕ) (elects : Round → ℕ) (round : Round)
    → IsTrue (are_members leaders n) → elects round < n → scripted_leader leaders length elects round < n
unfolding scripted_leader
scripted_leader-below leaders length n elects round each below =
    member_at leaders n (round_index length round.view) (elects round) each below
