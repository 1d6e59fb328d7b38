-- Masks of 64 bits.
use Rattle.std.proofs.Common.{ℕ, ◌≡◌, ◌<◌, ◌≤◌, ◌+◌, ◌-◌, ◌/◌, ◌^◌, ap, arith}
use Rattle.std.proofs.Math.Pow.{pow_mono}
use Rattle.std.proofs.lemmas.Nat.Bits.{ones_shr}
use Rattle.std.proofs.lemmas.Nat.{pow_pos}
use Rattle.std.proofs.Math.Nat.{div-eq_of_lt}

-- a mask has no place past its bits
pub no_bits_past : (mask place : ℕ) → mask < 2 ^ 64 → 64 ≤ place → mask / 2 ^ place ≡ 0
no_bits_past mask place small far =
    div-eq_of_lt (let above : 2 ^ 64 ≤ 2 ^ place = pow_mono far in omega arith)

-- the mask that has all places below one
pub last_mask_is : (places : ℕ) → places ≤ 64 → (2 ^ 64 - 1) / 2 ^ (64 - places) + 1 ≡ 2 ^ places
last_mask_is places most =
    let left : 64 - (64 - places) ≡ places = omega arith in
    let shifted : (2 ^ 64 - 1) / 2 ^ (64 - places) ≡ 2 ^ (64 - (64 - places)) - 1 = ones_shr 64 (64 - places) (omega arith) in
    let same : 2 ^ (64 - (64 - places)) ≡ 2 ^ places = ap (λ k. 2 ^ k) left in
    let some : 0 < 2 ^ places = pow_pos places in
    omega (arith, shifted, same, some)
