-- Formats: both directions of a message, in one definition.
use Rattle.std.specs.Prelude.{◌≡◌, ℕ, ◌-◌, List, [], ◌∷◌, ◌++◌, length, take, drop, Result, Ok, Err, nat_lt, ◌==◌, if◌then◌else◌}
use Rattle.std.specs.Global.{Vec}
use Rattle.simplex_wire.specs.declared.error.DecodeCause.{DecodeCause}
use Rattle.simplex_wire.specs.declared.error.DecodeCause.TheVariants.{Short, Rest}
use Rattle.simplex_wire.specs.declared.error.DecodeError.{DecodeError}
use Rattle.simplex_wire.specs.declared.error.DecodeError.TheVariants.{Fault, Memory}

infixl 10 ◌>>=◌
abbrev pub ◌>>=◌ : {A B : Type 0} → Result A DecodeError → (A → Result B DecodeError) → Result B DecodeError
(Ok x) >>= f = f x
(Err e) >>= f = Err e

-- what is left to read of a message, and how long the message is
pub record Left : Type 0 where
  pub end : ℕ
  pub bytes : List ℕ

-- a fault at the first of the bytes that are left
abbrev pub fault_at : DecodeCause → Left → DecodeError
fault_at cause left = Fault cause (left.end - length left.bytes)

-- A format: how a value is spelled, and how it is read from the front of what is left. A reading gives
-- the value and what is left after it, or the first fault.
pub record Format (A : Type 0) : Type 0 where
  pub spelling : A → List ℕ
  pub reading : Left → Result (A × Left) DecodeError

-- one after the other
abbrev pub both : {A B : Type 0} → Format A → Format B → Format (A × B)
both f g = record {
  spelling = λ x. f.spelling x.0 ++ g.spelling x.1;
  reading = λ left. f.reading left >>= λ a. g.reading a.1 >>= λ b. Ok ((a.0, b.0), b.1);
}

-- the same bytes, as another type
abbrev pub seen_as : {A B : Type 0} → (A → B) → (B → A) → Format A → Format B
seen_as to from f = record {
  spelling = λ y. f.spelling (from y);
  reading = λ left. f.reading left >>= λ a. Ok (to a.0, a.1);
}

-- n bytes as they stand
abbrev pub raw : ℕ → Format (List ℕ)
raw n = record {
  spelling = λ bytes. bytes;
  reading = λ left. if nat_lt (length left.bytes) n then Err (fault_at Short left)
      else Ok (take n left.bytes, record { end = left.end; bytes = drop n left.bytes });
}

abbrev pub byte_of : Left → List ℕ → Result (ℕ × Left) DecodeError
byte_of left [] = Err (fault_at Short left)
byte_of left (b ∷ rest) = Ok (b, record { end = left.end; bytes = rest })

abbrev pub byte : Format ℕ
byte = record { spelling = λ b. b ∷ []; reading = λ left. byte_of left left.bytes }

-- What a function returned is what reading gives. `after` is what it leaves.
abbrev pub Gives : {A Y : Type 0} → Y → Result A DecodeError → Result (A × Y) DecodeError → Type 0
Gives after (Ok x) read = read ≡ Ok (x, after)
Gives after (Err e) read = read ≡ Err e

-- the same, unless memory ran out
abbrev pub GivesUnlessMemory : {A Y : Type 0} → Y → Result A DecodeError → Result (A × Y) DecodeError → Type 0
GivesUnlessMemory after (Ok x) read = read ≡ Ok (x, after)
GivesUnlessMemory after (Err Memory) read = Unit {0}
GivesUnlessMemory after (Err (Fault cause place)) read = read ≡ Err (Fault cause place)

-- the same of a function that gives a list as a Vec
abbrev pub GivesItemsUnlessMemory : {A Y : Type 0} → Y → Result (Vec A) DecodeError
    → Result (List A × Y) DecodeError → Type 0
GivesItemsUnlessMemory after (Ok x) read = read ≡ Ok (x.items, after)
GivesItemsUnlessMemory after (Err Memory) read = Unit {0}
GivesItemsUnlessMemory after (Err (Fault cause place)) read = read ≡ Err (Fault cause place)

-- the same of a function that gives both, seen by view
abbrev pub GivesBy : {X Y : Type 0} → (X → Y) → Result X DecodeError → Result Y DecodeError → Type 0
GivesBy view (Ok x) read = read ≡ Ok (view x)
GivesBy view (Err e) read = read ≡ Err e

-- the one value that all of the bytes spell, or the first fault
abbrev pub ended : {A : Type 0} → A × Left → Result A DecodeError
ended x = if length x.1.bytes == 0 then Ok x.0 else Err (fault_at Rest x.1)

abbrev pub whole : {A : Type 0} → Format A → List ℕ → Result A DecodeError
whole f bytes = f.reading (record { end = length bytes; bytes = bytes }) >>= ended

-- what was answered is this, unless memory ran out
abbrev pub IsUnlessMemory : {A : Type 0} → Result A DecodeError → Result A DecodeError → Type 0
IsUnlessMemory (Ok x) answer = answer ≡ Ok x
IsUnlessMemory (Err Memory) answer = Unit {0}
IsUnlessMemory (Err (Fault cause place)) answer = answer ≡ Err (Fault cause place)

module _ {A : Type 0} where
  -- of the values that fit, no spelling of one begins another's
  abbrev pub NoneBeginsAnother : (A → Type 0) → Format A → Type 0
  NoneBeginsAnother Fits format =
      (one other : A) (more : List ℕ) → Fits one → Fits other
      → format.spelling other ≡ format.spelling one ++ more → (one ≡ other) × (more ≡ [])
