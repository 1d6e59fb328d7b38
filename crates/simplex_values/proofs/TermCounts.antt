-- Terms are counted by rounding up.
use Rattle.std.proofs.Common.{◌≡◌, ℕ, ◌+◌, ◌-◌, ◌*◌, ◌/◌, ◌<◌, ◌≤◌, arith}

pub rounded_up : (before length : ℕ) → 0 < length → (before + 1 + (length - 1)) / length ≡ before / length + 1
rounded_up before length h = grind arith

pub rounded_up_zero : (length : ℕ) → 0 < length → (0 + (length - 1)) / length ≡ 0
rounded_up_zero length h = grind arith

pub product_fits : (n length : ℕ) → 0 < length → n / length * length ≤ n
product_fits n length h = grind arith
