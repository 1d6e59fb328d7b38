-- Payloads.
use Rattle.std.specs.Prelude.{ℕ, ◌+◌, ◌-◌, ◌*◌, ◌&&◌, nat_le, List, [], ◌∷◌, replicate, Option, None, Some, if◌then◌else◌}

-- what a digit of a byte stands for
abbrev pub half_of : ℕ → Option ℕ
half_of digit =
    if nat_le 48 digit && nat_le digit 57 then Some (digit - 48) else
    if nat_le 97 digit && nat_le digit 102 then Some (digit - 97 + 10) else
    None

-- the byte of two digits
abbrev pub byte_with : Option ℕ → Option ℕ → Option ℕ
byte_with (Some high) (Some low) = Some (16 * high + low)
byte_with _ _ = None

abbrev pub payload_with : Option ℕ → Option (List ℕ)
payload_with (Some byte) = Some (replicate 32 byte)
payload_with None = None

-- 32 times the byte of two digits
abbrev pub payload_of : List ℕ → Option (List ℕ)
payload_of (high ∷ low ∷ []) = payload_with (byte_with (half_of high) (half_of low))
payload_of _ = None
