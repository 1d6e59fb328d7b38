-- Rounds without a fault.
use Rattle.std.proofs.Common.{ℕ, ◌≡◌, ◌<◌, ◌≤◌, ◌+◌, ◌*◌, ◌/◌, ◌^◌, ◌||◌, Bool, true, false, Option, Some, None, nat_le, if◌then◌else◌, refl, arith}
use Rattle.std.proofs.lemmas.Grind.{common_steps}
use Rattle.std.proofs.lemmas.Nat.{pow_pos}
use Rattle.std.proofs.Math.Nat.{div-eq_of_lt, lt-div-mul-add}
use Rattle.simplex_twins.specs.declared.error.TwinsError.TheVariants.{LeaderUnseen, BadLeader, BadMask}
use Rattle.simplex_twins.specs.Masks.{has, reaches}
use Rattle.simplex_twins.specs.Script.{ScriptedRound}
use Rattle.simplex_twins.specs.Faults.{fault_of}
use Rattle.simplex_twins.specs.Every.{is_seen, IsAmong}

reaches-false : (mask n : ℕ) → reaches mask n ≡ false → mask < 2 ^ n
unfolding reaches
reaches-false mask n none =
    let small : mask / 2 ^ n ≤ 0 = grind (arith, common_steps) in
    let above : mask < mask / 2 ^ n * 2 ^ n + 2 ^ n = lt-div-mul-add (pow_pos n) in
    let nil : mask / 2 ^ n ≡ 0 = omega arith in
    omega (arith, rw nil at above)

below-reaches : (mask n : ℕ) → mask < 2 ^ n → reaches mask n ≡ false
unfolding reaches
below-reaches mask n below = let nil : mask / 2 ^ n ≡ 0 = div-eq_of_lt below in rw nil refl

first_of_two : {X : Type 0} (b : Bool) (fault : X) (rest : Option X) → (if b then Some fault else rest) ≡ None → (b ≡ false) × (rest ≡ None)
first_of_two true fault rest none = cc
first_of_two false fault rest none = (refl, none)

last_of_two : {X : Type 0} (b : Bool) (fault : X) → (if b then None else Some fault) ≡ None → b ≡ true
last_of_two true fault none = refl
last_of_two false fault none = cc

neither : (a b : Bool) → a || b ≡ false → (a ≡ false) × (b ≡ false)
neither true b none = cc
neither false b none = (refl, none)

-- a round that is taken among n members has their numbers, and a half talks with its leader
pub good_round : (round : ScriptedRound) (n : ℕ) → fault_of round n ≡ None → IsAmong n round × (is_seen round ≡ true)
unfolding fault_of
good_round round n good =
    let stranger = nat_le n round.leader in
    let wide = reaches round.primary n || reaches round.secondary n in
    let seen = has round.primary round.leader || has round.secondary round.leader in
    let outer = first_of_two stranger BadLeader (if wide then Some BadMask else if seen then None else Some LeaderUnseen) good in
    let inner = first_of_two wide BadMask (if seen then None else Some LeaderUnseen) outer.1 in
    let masks = neither (reaches round.primary n) (reaches round.secondary n) inner.0 in
    let member : nat_le n round.leader ≡ false = outer.0 in
    let below : round.leader < n = grind (arith, common_steps) in
    (record { leader = below; primary = reaches-false round.primary n masks.0; secondary = reaches-false round.secondary n masks.1 }, last_of_two seen LeaderUnseen inner.1)

-- and such a round is taken
pub round_is_good : (round : ScriptedRound) (n : ℕ) → IsAmong n round → is_seen round ≡ true → fault_of round n ≡ None
unfolding fault_of
round_is_good round n among seen =
    let leader : nat_le n round.leader ≡ false = let below : round.leader < n = among.leader in grind (arith, common_steps) in
    rw (leader, below-reaches round.primary n among.primary, below-reaches round.secondary n among.secondary, seen) refl
