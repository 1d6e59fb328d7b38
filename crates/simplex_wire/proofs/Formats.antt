-- A format is lawful where what is read is what was spelled, and what is spelled is read.
use Rattle.std.proofs.Common.{◌≡◌, ℕ, ◌-◌, ◌^◌, ◌<◌, ◌≤◌, Bool, true, false, cond, ltb, eqb, List, [], ◌∷◌, ◌++◌, length, take, drop, Result, Ok, Err, refl, sym, ap, subst, ◌∙◌, append_assoc, arith}
use Rattle.std.specs.Prelude.{IfOk}
use Rattle.std.proofs.lemmas.Bool.{ltb-false, le-ltb, eqb-true}
use Rattle.std.proofs.lemmas.List.{take_at, drop_at, take-append-drop, length-append, length-take, append-nil, nil_from_length}
use Rattle.simplex_wire.specs.declared.error.DecodeError.{DecodeError}
use Rattle.simplex_wire.specs.declared.error.DecodeCause.TheVariants.{Short, Rest}
use Rattle.simplex_wire.specs.Format.{◌>>=◌, Left, fault_at, Format, both, seen_as, raw, byte, byte_of, ended, whole, IsUnlessMemory}
use Rattle.simplex_wire.specs.Number.{varint, number_from, IsLimit, number, number32, number64}
use Rattle.simplex_wire.specs.Fits.{IsBytes, IsRaw}
use Rattle.simplex_wire.proofs.Bytes.{IsBytes-drop, IsBytes-take, IsBytes-rest, bind_ok, guard_ok, ok_is, Takes, Takes-then}
use Rattle.simplex_wire.proofs.Numbers.{number_takes, number_again, limit32, limit64}

pub record IsFormat {A : Type 0} (f : Format A) (Fits : A → Type 0) : Type 0 where
  pub takes : (left : Left) (x : A × Left) → IsBytes left.bytes → f.reading left ≡ Ok x → Takes left (f.spelling x.0) x.1 × Fits x.0
  pub again : (end : ℕ) (x : A) (rest : List ℕ) → Fits x → f.reading (record { end = end; bytes = f.spelling x ++ rest }) ≡ Ok (x, record { end = end; bytes = rest })

pub both_is : {A B : Type 0} (f : Format A) (g : Format B) (P : A → Type 0) (Q : B → Type 0) → IsFormat f P → IsFormat g Q → IsFormat (both f g) (λ x. P x.0 × Q x.1)
both_is {A} {B} f g P Q p q = record {
  takes = λ left x fits e.
      let a = bind_ok (f.reading left) (λ a. g.reading a.1 >>= λ b. Ok ((a.0, b.0), b.1)) x e in
      let b = bind_ok (g.reading a.0.1) (λ b. Ok ((a.0.0, b.0), b.1)) x a.2 in
      let t = p.takes left a.0 fits a.1 in
      let u = q.takes a.0.1 b.0 t.0.rest_fits b.1 in
      let made : (A × B) × Left = ((a.0.0, b.0.0), b.0.1) in
      subst (λ (y : (A × B) × Left). Takes left ((both f g).spelling y.0) y.1 × (P y.0.0 × Q y.0.1)) (ok_is made x b.2)
      (Takes-then left (f.spelling a.0.0) a.0.1 (g.spelling b.0.0) b.0.1 t.0 u.0, (t.1, u.1));
  again = λ end x rest fits.
      let regrouped : (f.spelling x.0 ++ g.spelling x.1) ++ rest ≡ f.spelling x.0 ++ (g.spelling x.1 ++ rest) = append_assoc (f.spelling x.0) (g.spelling x.1) rest in
      ap (λ (bytes : List ℕ). (both f g).reading (record { end = end; bytes = bytes })) regrouped
      ∙ rw (p.again end x.0 (g.spelling x.1 ++ rest) fits.0, q.again end x.1 rest fits.1) refl;
}

pub seen_is : {A B : Type 0} (to : A → B) (from : B → A) (f : Format A) (P : A → Type 0) → ((a : A) → from (to a) ≡ a) → ((b : B) → to (from b) ≡ b) → IsFormat f P → IsFormat (seen_as to from f) (λ y. P (from y))
seen_is {A} {B} to from f P there back p = record {
  takes = λ left x fits e.
      let a = bind_ok (f.reading left) (λ a. Ok (to a.0, a.1)) x e in
      let t = p.takes left a.0 fits a.1 in
      let made : B × Left = (to a.0.0, a.0.1) in
      subst (λ (y : B × Left). Takes left (f.spelling (from y.0)) y.1 × P (from y.0)) (ok_is made x a.2)
      (subst (λ (z : A). Takes left (f.spelling z) a.0.1 × P z) (sym (there a.0.0)) t);
  again = λ end y rest fits. rw (p.again end (from y) rest fits, back y) refl;
}

pub raw_is : (n : ℕ) → IsFormat (raw n) (IsRaw n)
raw_is n = record {
  takes = λ left x fits e.
      let after : Left = record { end = left.end; bytes = drop n left.bytes } in
      let g = guard_ok (ltb (length left.bytes) n) (fault_at Short left) (Ok (take n left.bytes, after)) x e in
      let long : n ≤ length left.bytes = ltb-false _ _ g.0 in
      let made : List ℕ × Left = (take n left.bytes, after) in
      subst (λ (y : List ℕ × Left). Takes left y.0 y.1 × IsRaw n y.0) (ok_is made x g.1) (
        record { parts = sym (take-append-drop n left.bytes); end = refl; rest_fits = IsBytes-drop n left.bytes fits },
        record { len = omega (arith, length-take n left.bytes); each = IsBytes-take n left.bytes fits },
      );
  again = λ end x rest fits.
      let long : ltb (length (x ++ rest)) n ≡ false = le-ltb _ _ (omega (arith, length-append x rest, fits.len)) in
      rw (long, take_at x rest n fits.len, drop_at x rest n fits.len) refl;
}

pub number_is : (most : ℕ) → IsLimit most → IsFormat (number most) (λ n. n ≤ most)
number_is most limit = record {
  takes = λ left x fits e.
      let a = bind_ok (number_from (left.end - length left.bytes) most left.bytes) (λ n. Ok (n.0, record { end = left.end; bytes = n.1 })) x e in
      let t = number_takes (left.end - length left.bytes) most left.bytes a.0.0 a.0.1 fits limit a.1 in
      let made : ℕ × Left = (a.0.0, record { end = left.end; bytes = a.0.1 }) in
      subst (λ (y : ℕ × Left). Takes left (varint y.0) y.1 × (y.0 ≤ most)) (ok_is made x a.2)
      (record { parts = t.0; end = refl; rest_fits = t.1 }, t.2);
  again = λ end n rest fits. rw (number_again (end - length (varint n ++ rest)) most limit.0 n rest limit.1 fits) refl;
}

-- the same values by another word
pub fits_as : {A : Type 0} (f : Format A) (P Q : A → Type 0) → ((x : A) → P x → Q x) → ((x : A) → Q x → P x) → IsFormat f P → IsFormat f Q
fits_as f P Q there back p = record {
  takes = λ left x fits e. let t = p.takes left x fits e in (t.0, there x.0 t.1);
  again = λ end x rest fits. p.again end x rest (back x fits);
}

pub number32_is : IsFormat number32 (λ n. n < 2 ^ 32)
number32_is = fits_as number32 (λ n. n ≤ 2 ^ 32 - 1) (λ n. n < 2 ^ 32) (λ n h. omega arith) (λ n h. omega arith) (number_is (2 ^ 32 - 1) limit32)

pub number64_is : IsFormat number64 (λ n. n < 2 ^ 64)
number64_is = fits_as number64 (λ n. n ≤ 2 ^ 64 - 1) (λ n. n < 2 ^ 64) (λ n h. omega arith) (λ n h. omega arith) (number_is (2 ^ 64 - 1) limit64)

-- ---- behind a tag

byte_takes : (left : Left) (bytes : List ℕ) (tag : ℕ × Left) → left.bytes ≡ bytes → byte_of left bytes ≡ Ok tag → (left.bytes ≡ tag.0 ∷ tag.1.bytes) × (tag.1.end ≡ left.end)
byte_takes left [] tag h e = absurd cc
byte_takes left (b ∷ rest) tag h e =
    let made : ℕ × Left = (b, record { end = left.end; bytes = rest }) in
    subst (λ (t : ℕ × Left). (left.bytes ≡ t.0 ∷ t.1.bytes) × (t.1.end ≡ left.end)) (ok_is made tag e) (h, refl)

-- a byte with nothing behind it
pub byte_alone : (left : Left) (b : ℕ × Left) → IsBytes left.bytes → byte.reading left ≡ Ok b → Takes left (b.0 ∷ []) b.1
byte_alone left b fits e =
    let t = byte_takes left left.bytes b refl e in
    record { parts = t.0; end = t.1; rest_fits = λ i. IsBytes-rest b.0 b.1.bytes (subst IsBytes t.0 fits) i }

-- what was read behind a tag, as a variant of V
pub tag_takes : {A V : Type 0} (f : Format A) (P : A → Type 0) (variant : A → V) → IsFormat f P → (left : Left) (tag : ℕ × Left) (x : V × Left)
    → IsBytes left.bytes → byte.reading left ≡ Ok tag → (f.reading tag.1 >>= λ v. Ok (variant v.0, v.1)) ≡ Ok x
    → (a : A) × (x.0 ≡ variant a) × Takes left (tag.0 ∷ f.spelling a) x.1 × P a
tag_takes {A} {V} f P variant p left tag x fits e h =
    let b = byte_takes left left.bytes tag refl e in
    let rest_fits : IsBytes tag.1.bytes = λ i. IsBytes-rest tag.0 tag.1.bytes (subst IsBytes b.0 fits) i in
    let a = bind_ok (f.reading tag.1) (λ v. Ok (variant v.0, v.1)) x h in
    let t = p.takes tag.1 a.0 rest_fits a.1 in
    let same = ok_is (variant a.0.0, a.0.1) x a.2 in
    let at_tag : Takes left (tag.0 ∷ []) tag.1 = record { parts = b.0; end = b.1; rest_fits = rest_fits } in
    let taken = Takes-then left (tag.0 ∷ []) tag.1 (f.spelling a.0.0) a.0.1 at_tag t.0 in
    (a.0.0, sym (ap (λ (y : V × Left). y.0) same), subst (λ (y : V × Left). Takes left (tag.0 ∷ f.spelling a.0.0) y.1) same taken, t.1)

-- ---- whole messages

guard_ended : {A : Type 0} (b : Bool) (d : DecodeError) (x y : A) → cond b (Ok x) (Err d) ≡ Ok y → (b ≡ true) × (x ≡ y)
guard_ended true d x y e = (refl, ok_is x y e)
guard_ended false d x y e = absurd cc

pub whole_takes : {A : Type 0} (f : Format A) (P : A → Type 0) → IsFormat f P → (bytes : List ℕ) (x : A) → IsBytes bytes → whole f bytes ≡ Ok x → (bytes ≡ f.spelling x) × P x
whole_takes {A} f P p bytes x fits e =
    let left : Left = record { end = length bytes; bytes = bytes } in
    let a = bind_ok (f.reading left) ended x e in
    let t = p.takes left a.0 fits a.1 in
    let g = guard_ended (eqb (length a.0.1.bytes) 0) (fault_at Rest a.0.1) a.0.0 x a.2 in
    let nothing : a.0.1.bytes ≡ [] = nil_from_length a.0.1.bytes (eqb-true _ _ g.0) in
    let all : bytes ≡ f.spelling a.0.0 = t.0.parts ∙ ap (λ (r : List ℕ). f.spelling a.0.0 ++ r) nothing ∙ append-nil (f.spelling a.0.0) in
    subst (λ (y : A). (bytes ≡ f.spelling y) × P y) g.1 (all, t.1)

pub whole_again : {A : Type 0} (f : Format A) (P : A → Type 0) → IsFormat f P → (x : A) → P x → whole f (f.spelling x) ≡ Ok x
whole_again f P p x fits =
    let end : ℕ = length (f.spelling x) in
    let read : f.reading (record { end = end; bytes = f.spelling x }) ≡ Ok (x, record { end = end; bytes = [] }) =
    ap (λ (bytes : List ℕ). f.reading (record { end = end; bytes = bytes })) (sym (append-nil (f.spelling x))) ∙ p.again end x [] fits in
    rw read refl

-- no spelling begins another
pub alone : {A : Type 0} (f : Format A) (P : A → Type 0) → IsFormat f P → (x y : A) (more : List ℕ) → P x → P y → f.spelling y ≡ f.spelling x ++ more → (x ≡ y) × (more ≡ [])
alone {A} f P p x y more fx fy e =
    let one = p.again 0 x more fx in
    let other = p.again 0 y [] fy in
    let joined : f.spelling y ++ [] ≡ f.spelling x ++ more = append-nil (f.spelling y) ∙ e in
    let same = ok_is (x, record { end = 0; bytes = more }) (y, record { end = 0; bytes = [] })
    (sym one ∙ ap (λ (bytes : List ℕ). f.reading (record { end = 0; bytes = bytes })) (sym joined) ∙ other) in
    (ap (λ (z : A × Left). z.0) same, ap (λ (z : A × Left). z.1.bytes) same)

-- what an answer that is exact found
pub is_found : {A : Type 0} (f : Format A) (P : A → Type 0) → IsFormat f P → (bytes : List ℕ) (r : Result A DecodeError) → IsBytes bytes → r ≡ whole f bytes → IfOk r (λ x. P x × (bytes ≡ f.spelling x))
is_found f P p bytes (Ok x) fits e = let t = whole_takes f P p bytes x fits (sym e) in (t.1, t.0)
is_found f P p bytes (Err d) fits e = tt

-- the same of an answer that want of memory may take the place of
pub is_found_unless : {A : Type 0} (f : Format A) (P : A → Type 0) → IsFormat f P → (bytes : List ℕ) (r : Result A DecodeError) → IsBytes bytes → IsUnlessMemory r (whole f bytes) → IfOk r (λ x. P x × (bytes ≡ f.spelling x))
is_found_unless f P p bytes (Ok x) fits e = let t = whole_takes f P p bytes x fits e in (t.1, t.0)
is_found_unless f P p bytes (Err d) fits e = tt
