-- A number that is read is the one that was spelled, and one that was spelled is read again.
use Rattle.std.proofs.Common.{◌≡◌, ℕ, zero, suc, ◌+◌, ◌-◌, ◌*◌, ◌/◌, ◌%◌, ◌^◌, ◌<◌, ◌≤◌, false, cond, ltb, eqb, List, [], ◌∷◌, ◌++◌, Ok, Err, refl, sym, ap, subst, ◌∙◌, arith, inl, inr, lit<, lit≤}
use Rattle.std.proofs.lemmas.Bool.{cases_lt, ltb-false, le-ltb, lt-ltb, ne_eqb, eqb-false}
use Rattle.simplex_wire.specs.declared.error.DecodeError.TheVariants.{Fault}
use Rattle.simplex_wire.specs.declared.error.DecodeCause.TheVariants.{LongNumber}
use Rattle.simplex_wire.specs.Format.{◌>>=◌}
use Rattle.simplex_wire.specs.Number.{varint_by, varint, with_low, number_from, IsFull, IsLimit}
use Rattle.simplex_wire.specs.Fits.{IsBytes}
use Rattle.simplex_wire.proofs.Bytes.{IsBytes-rest, bind_ok, guard_ok, ok_is}

-- ---- bounds

pub limit32 : IsLimit (2 ^ 32 - 1)
limit32 = (4, ((refl, (refl, (refl, (refl, lit< tt)))), lit≤ tt))

pub limit64 : IsLimit (2 ^ 64 - 1)
limit64 = (9, ((refl, (refl, (refl, (refl, (refl, (refl, (refl, (refl, (refl, lit< tt))))))))), lit≤ tt))

pub limit_above : (most : ℕ) → 128 ≤ most → IsLimit most → (most % 128 ≡ 127) × IsLimit (most / 128)
limit_above most h (zero, limit) = absurd (omega (arith, limit.0))
limit_above most h (suc k, limit) = (limit.0.0, (k, (limit.0.1, omega (arith, limit.1))))

-- ---- the spelling

-- room for a number up to a full bound is enough: one byte more changes nothing
varint_by-room : (k most n : ℕ) → IsFull k most → n ≤ most → varint_by k n ≡ varint_by (suc k) n
unfolding varint_by
varint_by-room zero most n full le = let lt : n < 128 = omega arith in rw (lt-ltb n 128 lt) refl
varint_by-room (suc k) most n full le =
    ap (λ (rest : List ℕ). cond (ltb n 128) (n ∷ []) ((n % 128 + 128) ∷ rest)) (varint_by-room k (most / 128) (n / 128) full.1 (omega arith))

-- a small number is one byte, whatever the room
varint_by-small : (k n : ℕ) → n < 128 → varint_by k n ≡ n ∷ []
unfolding varint_by
varint_by-small zero n h = refl
varint_by-small (suc k) n h = rw (lt-ltb n 128 h) refl

-- another begins with its low bits
varint_by-large : (k n : ℕ) → 128 ≤ n → varint_by (suc k) n ≡ (n % 128 + 128) ∷ varint_by k (n / 128)
unfolding varint_by
varint_by-large k n h = rw (le-ltb n 128 h) refl

pub varint-small : (n : ℕ) → n < 128 → varint n ≡ n ∷ []
varint-small n h = varint_by-small 9 n h

pub varint-large : (n : ℕ) → 128 ≤ n → n < 2 ^ 64 → varint n ≡ (n % 128 + 128) ∷ varint (n / 128)
unfolding limit64
varint-large n h fits =
    varint_by-large 8 n h
    ∙ ap (λ (rest : List ℕ). (n % 128 + 128) ∷ rest) (varint_by-room 8 ((2 ^ 64 - 1) / 128) (n / 128) limit64.1.0.1 (omega arith))

-- a number with this low byte and this part above
varint_by-with_low : (k b high : ℕ) → 128 ≤ b → b < 256 → 0 < high → varint_by (suc k) (b - 128 + 128 * high) ≡ b ∷ varint_by k high
varint_by-with_low k b high p q r =
    let low : (b - 128 + 128 * high) % 128 + 128 ≡ b = omega arith in
    let above : (b - 128 + 128 * high) / 128 ≡ high = omega arith in
    varint_by-large k (b - 128 + 128 * high) (omega arith) ∙ rw (low, above) refl

-- ---- reading

-- where a full bound is not small, there is room for a byte, and for the rest up to the bound above
room_above : (most k j : ℕ) → 128 ≤ most → IsFull k most → k ≤ j → (l : ℕ) × (i : ℕ) × (j ≡ suc i) × (most % 128 ≡ 127) × IsFull l (most / 128) × (l ≤ i)
room_above most zero j h full le = absurd (omega arith)
room_above most (suc k) zero h full le = absurd (omega arith)
room_above most (suc k) (suc j) h full le = (k, j, refl, full.0, full.1, omega arith)

abbrev IsTaken : ℕ → ℕ → List ℕ → ℕ × List ℕ → Type 0
IsTaken j most bytes x = (bytes ≡ varint_by j x.0 ++ x.1) × IsBytes x.1 × (x.0 ≤ most)

takes_by : (place most k j : ℕ) (bytes : List ℕ) (n : ℕ) (rest : List ℕ) → IsBytes bytes → IsFull k most → k ≤ j → number_from place most bytes ≡ Ok (n, rest) → IsTaken j most bytes (n, rest)
unfolding number_from
takes_by place most k j [] n rest fits full room e = absurd cc
takes_by place most k j (b ∷ bytes) n rest fits full room e =
    elim (cases_lt b 128) [
      | inl lt ↦
          let g = guard_ok (ltb most b) (Fault LongNumber place) (Ok (b, bytes)) (n, rest) (rw (lt-ltb b 128 lt) at e) in
          let same = ok_is (b, bytes) (n, rest) g.1 in
          let le : b ≤ most = ltb-false _ _ g.0 in
          subst (IsTaken j most (b ∷ bytes)) same (rw (varint_by-small j b lt) refl, IsBytes-rest b bytes fits, le)
      | inr ge ↦
          let g = guard_ok (ltb most 128) (Fault LongNumber place) (number_from place (most / 128) bytes >>= with_low place b) (n, rest) (rw (le-ltb b 128 ge) at e) in
          let above = room_above most k j (ltb-false _ _ g.0) full room in
          let step = bind_ok (number_from place (most / 128) bytes) (with_low place b) (n, rest) g.1 in
          let high = step.0 in
          let t = takes_by place (most / 128) above.0 above.1 bytes high.0 high.1 (IsBytes-rest b bytes fits) above.4 above.5 step.1 in
          let z = guard_ok (eqb high.0 0) (Fault LongNumber place) (Ok (b - 128 + 128 * high.0, high.1)) (n, rest) step.2 in
          let same = ok_is (b - 128 + 128 * high.0, high.1) (n, rest) z.1 in
          let small : b < 256 = fits 0 in
          let nonzero = eqb-false high.0 0 z.0 in let positive : 0 < high.0 = omega arith in
          let le : b - 128 + 128 * high.0 ≤ most = omega (arith, t.2, above.3) in
          let spelled : b ∷ bytes ≡ varint_by (suc above.1) (b - 128 + 128 * high.0) ++ high.1 = rw (varint_by-with_low above.1 b high.0 ge small positive) (ap (λ (r : List ℕ). b ∷ r) t.0) in
          let whole : b ∷ bytes ≡ varint_by j (b - 128 + 128 * high.0) ++ high.1 = subst (λ (i : ℕ). b ∷ bytes ≡ varint_by i (b - 128 + 128 * high.0) ++ high.1) (sym above.2) spelled in
          subst (IsTaken j most (b ∷ bytes)) same (whole, t.1, le)
    ]

pub number_takes : (place most : ℕ) (bytes : List ℕ) (n : ℕ) (rest : List ℕ) → IsBytes bytes → IsLimit most → number_from place most bytes ≡ Ok (n, rest)
    → (bytes ≡ varint n ++ rest) × IsBytes rest × (n ≤ most)
number_takes place most bytes n rest fits limit e = takes_by place most limit.0 9 bytes n rest fits limit.1.0 limit.1.1 e

small_again : (place most j n : ℕ) (rest : List ℕ) → n < 128 → n ≤ most → number_from place most (varint_by j n ++ rest) ≡ Ok (n, rest)
unfolding number_from
small_again place most j n rest lt le = rw (varint_by-small j n lt) (rw (lt-ltb n 128 lt, le-ltb most n le) refl)

again_by : (place most k j n : ℕ) (rest : List ℕ) → IsFull k most → k ≤ j → n ≤ most → number_from place most (varint_by j n ++ rest) ≡ Ok (n, rest)
unfolding number_from
again_by place most zero j n rest full room le = small_again place most j n rest (omega arith) le
again_by place most (suc k) zero n rest full room le = absurd (omega arith)
again_by place most (suc k) (suc j) n rest full room le =
    elim (cases_lt n 128) [
      | inl lt ↦ small_again place most (suc j) n rest lt le
      | inr ge ↦
          let high = again_by place (most / 128) k j (n / 128) rest full.1 (omega arith) (omega arith) in
          let continued : ltb (n % 128 + 128) 128 ≡ false = le-ltb _ _ (omega arith) in
          let roomy : ltb most 128 ≡ false = le-ltb _ _ (omega arith) in
          let positive : eqb (n / 128) 0 ≡ false = ne_eqb _ _ (λ (z : n / 128 ≡ 0). omega arith) in
          let value : n % 128 + 128 - 128 + 128 * (n / 128) ≡ n = omega arith in
          rw (varint_by-large j n ge) (rw (continued, roomy, high, positive, value) refl)
    ]

pub number_again : (place most k n : ℕ) (rest : List ℕ) → IsFull k most × (k ≤ 9) → n ≤ most → number_from place most (varint n ++ rest) ≡ Ok (n, rest)
number_again place most k n rest full le = again_by place most k 9 n rest full.0 full.1 le

-- a number above the bound is too long where it begins, whatever follows
small_long : (place most j n : ℕ) (rest : List ℕ) → n < 128 → most < n → number_from place most (varint_by j n ++ rest) ≡ Err (Fault LongNumber place)
unfolding number_from
small_long place most j n rest lt above = rw (varint_by-small j n lt) (rw (lt-ltb n 128 lt, lt-ltb most n above) refl)

-- where the bound is below 128, a first byte from there on is too long
tiny_long : (place most j n : ℕ) (rest : List ℕ) → most < 128 → 128 ≤ n → number_from place most (varint_by j n ++ rest) ≡ Err (Fault LongNumber place)
unfolding number_from varint_by
tiny_long place most zero n rest tiny ge = rw (le-ltb n 128 ge, lt-ltb most 128 tiny) refl
tiny_long place most (suc j) n rest tiny ge =
    let continued : ltb (n % 128 + 128) 128 ≡ false = le-ltb _ _ (omega arith) in
    rw (le-ltb n 128 ge) (rw (continued, lt-ltb most 128 tiny) refl)

long_by : (place most k j n : ℕ) (rest : List ℕ) → IsFull k most → k ≤ j → most < n → number_from place most (varint_by j n ++ rest) ≡ Err (Fault LongNumber place)
unfolding number_from
long_by place most zero j n rest full room above =
    elim (cases_lt n 128) [
      | inl lt ↦ small_long place most j n rest lt above
      | inr ge ↦ tiny_long place most j n rest full ge
    ]
long_by place most (suc k) zero n rest full room above = absurd (omega arith)
long_by place most (suc k) (suc j) n rest full room above =
    elim (cases_lt n 128) [
      | inl lt ↦ small_long place most (suc j) n rest lt above
      | inr ge ↦
          elim (cases_lt most 128) [
            | inl tiny ↦ tiny_long place most (suc j) n rest tiny ge
            | inr roomy ↦
                let high = long_by place (most / 128) k j (n / 128) rest full.1 (omega arith) (omega arith) in
                let continued : ltb (n % 128 + 128) 128 ≡ false = le-ltb _ _ (omega arith) in
                rw (varint_by-large j n ge) (rw (continued, le-ltb most 128 roomy, high) refl)
          ]
    ]

pub number_long : (place most k n : ℕ) (rest : List ℕ) → IsFull k most × (k ≤ 9) → most < n → number_from place most (varint n ++ rest) ≡ Err (Fault LongNumber place)
number_long place most k n rest full above = long_by place most k 9 n rest full.0 full.1 above
