-- Sums modulo a number.
use Rattle.std.proofs.Common.{◌≡◌, ◌+◌, ◌%◌, ℕ, ◌∙◌}
use Rattle.std.proofs.Math.Nat.{mod-add-mod, add-mod-mod}

-- the sum of the remainders has the sum's remainder
pub sum_modulo : (a b n : ℕ) → (a % n + b % n) % n ≡ (a + b) % n
sum_modulo a b n = mod-add-mod a n (b % n) ∙ add-mod-mod a b n
