-- The round behind a round.
use Rattle.std.proofs.Common.{ℕ, ◌≡◌, ◌<◌, ◌≤◌, ◌^◌, true, false, ◌∷◌, None, ◌∙◌, arith}
use Rattle.std.proofs.Math.Pow.{pow_mono}
use Rattle.simplex_twins.specs.Masks.{raised}
use Rattle.simplex_twins.specs.Script.{ScriptedRound, scripted}
use Rattle.simplex_twins.specs.Faults.{fault_of}
use Rattle.simplex_twins.specs.Every.{is_seen, rounds_after, rounds_from, IsAmong}
use Rattle.simplex_twins.proofs.Walk.{from_seen}
use Rattle.simplex_twins.proofs.Faultless.{good_round, round_is_good}
use Rattle.simplex_twins.proofs.Jump.{raised_rounds}

-- a round that is taken among n members has their numbers
pub good_is_among : (n : ℕ) (round : ScriptedRound) → fault_of round n ≡ None → IsAmong n round
good_is_among n round good = (good_round round n good).0

-- where a half talks with its leader, a round comes first of those from it on
pub seen_is_first : (n : ℕ) (round : ScriptedRound) → IsAmong n round → is_seen round ≡ true → (rounds_from n round ≡ round ∷ rounds_after n round) × (fault_of round n ≡ None)
seen_is_first n round among seen = (from_seen n round.leader round.primary round.secondary among.secondary seen, round_is_good round n among seen)

-- else the round with the next mask that has the leader does
pub raised_is_first : (n : ℕ) (round : ScriptedRound) → IsAmong n round → is_seen round ≡ false → let next = scripted round.leader round.primary (raised round.secondary round.leader) in (rounds_from n round ≡ next ∷ rounds_after n next) × (fault_of next n ≡ None)
raised_is_first n round among unseen =
    let jump = raised_rounds n round.leader round.primary round.secondary among.leader among.secondary unseen in
    let next = scripted round.leader round.primary (raised round.secondary round.leader) in
    let there : IsAmong n next = record { leader = among.leader; primary = among.primary; secondary = jump.1 } in
    let first = seen_is_first n next there jump.2 in
    (jump.0 ∙ first.0, first.1)

-- the next mask that has the leader is one of 64 bits
pub raised_fits : (n : ℕ) (round : ScriptedRound) → n ≤ 64 → IsAmong n round → is_seen round ≡ false → raised round.secondary round.leader < 2 ^ 64
raised_fits n round most among unseen =
    let jump = raised_rounds n round.leader round.primary round.secondary among.leader among.secondary unseen in
    let within : 2 ^ n ≤ 2 ^ 64 = pow_mono most in
    let below : raised round.secondary round.leader < 2 ^ n = jump.1 in
    omega (arith, below, within)
