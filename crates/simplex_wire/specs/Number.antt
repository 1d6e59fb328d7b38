-- Numbers in little-endian base 128, in their shortest form.
use Rattle.std.specs.Prelude.{◌≡◌, ℕ, zero, suc, ◌+◌, ◌-◌, ◌*◌, ◌/◌, ◌%◌, ◌^◌, ◌<◌, ◌≤◌, List, [], ◌∷◌, length, Result, Ok, Err, nat_lt, ◌==◌, if◌then◌else◌}
use Rattle.simplex_wire.specs.declared.error.DecodeError.{DecodeError}
use Rattle.simplex_wire.specs.declared.error.DecodeError.TheVariants.{Fault}
use Rattle.simplex_wire.specs.declared.error.DecodeCause.TheVariants.{Short, LongNumber}
use Rattle.simplex_wire.specs.Format.{◌>>=◌, Format}

-- A number below 128 is one byte. Another is its low seven bits, with 128 added, and then the rest.
-- The first argument bounds the number of bytes: there is at most one more.
unfoldable pub varint_by : ℕ → ℕ → List ℕ
varint_by zero n = n ∷ []
varint_by (suc k) n = if nat_lt n 128 then n ∷ [] else (n % 128 + 128) ∷ varint_by k (n / 128)

-- a number of 64 bits takes ten bytes at most
abbrev pub varint : ℕ → List ℕ
varint n = varint_by 9 n

-- the number whose low byte is b, and whose part above is `high`: 0 there would be a longer form
abbrev pub with_low : ℕ → ℕ → ℕ × List ℕ → Result (ℕ × List ℕ) DecodeError
with_low place b high = if high.0 == 0 then Err (Fault LongNumber place) else Ok (b - 128 + 128 * high.0, high.1)

-- the number of at most `most` at the front, whose fault is at this place
unfoldable pub number_from : ℕ → ℕ → List ℕ → Result (ℕ × List ℕ) DecodeError
number_from place most [] = Err (Fault Short place)
number_from place most (b ∷ rest) =
    if nat_lt b 128
    then (if nat_lt most b then Err (Fault LongNumber place) else Ok (b, rest))
    else (if nat_lt most 128 then Err (Fault LongNumber place)
    else number_from place (most / 128) rest >>= with_low place b)

-- whether each place of seven bits below the first of this bound is full, as in 2 ^ 64 - 1
abbrev pub IsFull : ℕ → ℕ → Type 0
IsFull zero most = most < 128
IsFull (suc k) most = (most % 128 ≡ 127) × IsFull k (most / 128)

-- each place below the first is full, and there are nine of these at most
abbrev pub IsLimit : ℕ → Type 0
IsLimit most = (k : ℕ) × (IsFull k most × (k ≤ 9))

abbrev pub number : ℕ → Format ℕ
number most = record {
  spelling = varint;
  reading = λ left. number_from (left.end - length left.bytes) most left.bytes
      >>= λ n. Ok (n.0, record { end = left.end; bytes = n.1 });
}

abbrev pub number32 : Format ℕ
number32 = number (2 ^ 32 - 1)

abbrev pub number64 : Format ℕ
number64 = number (2 ^ 64 - 1)
