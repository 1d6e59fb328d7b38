-- Numbers in digits.
use Rattle.std.specs.Prelude.{ℕ, ◌+◌, ◌-◌, ◌*◌, ◌==◌, ◌^◌, nat_lt, List, [], ◌∷◌, Option, None, Some, option_and_then, if◌then◌else◌}
use Rattle.std.specs.Char.{is_ascii_digit}

-- the number, if it is below 2^64
abbrev pub in_range : ℕ → Option ℕ
in_range number = if nat_lt number (2 ^ 64) then Some number else None

-- one digit more
abbrev pub with_digit : ℕ → ℕ → Option ℕ
with_digit number byte = if is_ascii_digit byte then in_range (10 * number + (byte - 48)) else None

-- the digits behind those of a number
abbrev pub number_behind : ℕ → List ℕ → Option ℕ
number_behind number [] = Some number
number_behind number (byte ∷ bytes) = option_and_then (λ more. number_behind more bytes) (with_digit number byte)

-- a number below 2^64, in digits without a leading zero
abbrev pub number_of : List ℕ → Option ℕ
number_of [] = None
number_of (byte ∷ []) = number_behind 0 (byte ∷ [])
number_of (byte ∷ next ∷ bytes) = if byte == 48 then None else number_behind 0 (byte ∷ next ∷ bytes)
