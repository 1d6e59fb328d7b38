-- A round of a setup that keeps its limits has no fault for twins.
use Rattle.std.proofs.Common.{◌≡◌, ℕ, ◌<◌, ◌≤◌, ◌/◌, ◌^◌, ◌&&◌, ◌||◌, nat_lt, nat_le, Bool, true, false, List, [], ◌∷◌, map, Some, None, Result, Ok, Err, refl, sym, ap, ◌∙◌, arith, if◌then◌else◌}
use Rattle.std.specs.Prelude.{is_none, IfOk, IfErr, not}
use Rattle.std.specs.List.{list_all, filter_map}
use Rattle.std.specs.Result.{result_ok}
use Rattle.simplex_members.specs.Scripts.{kept, round_in}
use Rattle.std.proofs.lemmas.Grind.{common_steps}
use Rattle.std.proofs.lemmas.Nat.{pow_pos, le-div}
use Rattle.simplex_transcript.specs.declared.setup.SetupRound.{SetupRound}
use Rattle.model_run.specs.Setups.{is_round}
use Rattle.model_run.specs.Twins.{is_in_mask}
use Rattle.simplex_twins.specs.declared.error.TwinsError.{TwinsError}
use Rattle.simplex_twins.specs.declared.error.TwinsError.TheVariants.{LeaderUnseen, BadLeader, BadMask}
use Rattle.std.proofs.Math.Nat.{div-eq_of_lt}
use Rattle.simplex_twins.specs.Masks.{has, reaches}
use Rattle.simplex_twins.specs.Script.{ScriptedRound, scripted}
use Rattle.simplex_twins.specs.Faults.{fault_of}

-- a mask has a place that is not below n, or is below 2^n
over : (mask power : ℕ) → 0 < power → nat_lt 0 (mask / power) ≡ not (nat_lt mask power)
over mask power some = by (nat_lt mask power) refl
  where
    by : (b : Bool) → nat_lt mask power ≡ b → nat_lt 0 (mask / power) ≡ not b
    by true e = let below : mask < power = grind (arith, common_steps, e) in rw (div-eq_of_lt below) refl
    by false e = let above : power ≤ mask = grind (arith, common_steps, e) in let some_left : 1 ≤ mask / power = le-div 1 mask power some (omega (arith, above)) in grind (arith, common_steps, some_left)

-- the tests in the order of either definition
by_tests : (leader primary secondary seen : Bool)
    → is_none (if not leader then Some BadLeader else if not primary || not secondary then Some BadMask else if seen then None else Some LeaderUnseen)
    ≡ (leader && primary && secondary && seen)
by_tests true true true true = refl
by_tests true true true false = refl
by_tests true true false seen = refl
by_tests true false secondary seen = refl
by_tests false primary secondary seen = refl

above : (n leader : ℕ) → nat_le n leader ≡ not (nat_lt leader n)
above n leader = grind (arith, common_steps)

pub round_is_good : (n : ℕ) (r : SetupRound) → is_none (fault_of (scripted r.leader r.primary r.secondary) n) ≡ is_round n r
unfolding fault_of reaches has
round_is_good n r =
    rw (above n r.leader, over r.primary (2 ^ n) (pow_pos n), over r.secondary (2 ^ n) (pow_pos n))
    (by_tests (nat_lt r.leader n) (nat_lt r.primary (2 ^ n)) (nat_lt r.secondary (2 ^ n)) (is_in_mask r.primary r.leader || is_in_mask r.secondary r.leader))

-- so twins take it exactly where it keeps its limits
pub taken_if_good : (n leader : ℕ) (r : SetupRound) (made : Result ScriptedRound TwinsError) → leader ≡ r.leader
    → IfOk made (λ round. (round ≡ scripted leader r.primary r.secondary) × (fault_of round n ≡ None))
    → IfErr made (λ fault. fault_of (scripted leader r.primary r.secondary) n ≡ Some fault)
    → result_ok made ≡ kept n r
taken_if_good n leader r (Ok round) same taken fault =
    let it : round ≡ round_in r = taken.0 ∙ ap (λ l. scripted l r.primary r.secondary) same in
    let good : fault_of (round_in r) n ≡ None = ap (λ made. fault_of made n) (sym it) ∙ taken.1 in
    let is : is_round n r ≡ true = sym (round_is_good n r) ∙ ap is_none good in
    rw is (ap Some it)
taken_if_good n leader r (Err e) same taken fault =
    let bad : fault_of (round_in r) n ≡ Some e = ap (λ l. fault_of (scripted l r.primary r.secondary) n) (sym same) ∙ fault in
    let is : is_round n r ≡ false = sym (round_is_good n r) ∙ ap is_none bad in
    rw is refl

both : (a b : Bool) → (a && b) ≡ true → (a ≡ true) × (b ≡ true)
both true b e = (refl, e)
both false b e = absurd (cc)

-- a script whose rounds keep their limits is whole
pub all_scripted : (n : ℕ) (rounds : List SetupRound) → list_all (is_round n) rounds ≡ true → filter_map (kept n) rounds ≡ map round_in rounds
all_scripted n [] e = refl
all_scripted n (r ∷ rounds) e =
    let first = both (is_round n r) (list_all (is_round n) rounds) e in
    rw first.0 (ap (λ later. round_in r ∷ later) (all_scripted n rounds first.1))
