-- The format of resolver messages is lawful.
use Rattle.std.proofs.Common.{◌≡◌, ℕ, zero, suc, ◌-◌, ◌^◌, ◌<◌, ◌≤◌, false, ltb, List, ◌∷◌, ◌++◌, length, Result, Ok, Err, refl, sym, ap, subst, ◌∙◌, append_assoc, arith}
use Rattle.std.specs.Int.{w64, from_be_bytes, to_be_bytes}
use Rattle.std.proofs.lemmas.Bool.{le-ltb}
use Rattle.std.proofs.lemmas.List.{take_at, drop_at, length-append}
use Rattle.std.proofs.lemmas.Nat.{be_bytes_8, from_be_bytes-to_be_bytes_8}
use Rattle.simplex_wire.specs.declared.error.DecodeError.{DecodeError}
use Rattle.simplex_wire.specs.declared.error.DecodeError.TheVariants.{Fault}
use Rattle.simplex_wire.specs.declared.error.DecodeCause.TheVariants.{LongNumber}
use Rattle.simplex_wire.specs.declared.resolver.ResolverMessage.{ResolverMessage}
use Rattle.simplex_wire.specs.declared.resolver.ResolverBody.{ResolverBody}
use Rattle.simplex_wire.specs.declared.resolver.ResolverBody.TheVariants.{Request, Response, Error}
use Rattle.simplex_wire.specs.Format.{Left, raw, byte, whole}
use Rattle.simplex_wire.specs.Number.{varint, number32}
use Rattle.simplex_wire.specs.Fits.{IsBytes}
use Rattle.simplex_wire.specs.ResolverMessage.{wide, counted, body_spelling, body_behind, body, resolver_message, FitsBody, FitsResolverMessage}
use Rattle.simplex_wire.proofs.Bytes.{bind_ok, ok_is, Takes, Takes-then}
use Rattle.simplex_wire.proofs.Numbers.{limit32, number_long}
use Rattle.simplex_wire.proofs.Formats.{IsFormat, both_is, seen_is, raw_is, number32_is, tag_takes, byte_alone}

abbrev long_at : ℕ → Result ResolverMessage DecodeError
long_at place = Err (Fault LongNumber place)

abbrev made_wide : ℕ → Left → Result (ℕ × Left) DecodeError
made_wide n left = Ok (n, left)

wide_at : (end : ℕ) (bytes rest : List ℕ) → length bytes ≡ 8
    → wide.reading (record { end = end; bytes = bytes ++ rest }) ≡ made_wide (from_be_bytes w64 bytes) (record { end = end; bytes = rest })
wide_at end bytes rest len =
    let long : ltb (length (bytes ++ rest)) 8 ≡ false = le-ltb _ _ (omega (arith, length-append bytes rest)) in
    rw (long, take_at bytes rest 8 len, drop_at bytes rest 8 len) refl

pub wide_is : IsFormat wide (λ n. n < 2 ^ 64)
wide_is = record {
  takes = λ left x fits e.
      let a = bind_ok ((raw 8).reading left) (λ a. Ok (from_be_bytes w64 a.0, a.1)) x e in
      let t = (raw_is 8).takes left a.0 fits a.1 in
      let f = t.1.each in
      let made : ℕ × Left = (from_be_bytes w64 a.0.0, a.0.1) in
      subst (λ (y : ℕ × Left). Takes left (to_be_bytes w64 y.0) y.1 × (y.0 < 2 ^ 64)) (ok_is made x a.2) (
        subst (λ (b : List ℕ). Takes left b a.0.1) (sym (be_bytes_8 a.0.0 _ t.1.len t.1.each refl)) t.0,
        omega (arith, f 0, f 1, f 2, f 3, f 4, f 5, f 6, f 7),
      );
  again = λ end n rest fits.
      wide_at end (to_be_bytes w64 n) rest refl
      ∙ ap (λ (k : ℕ). made_wide k (record { end = end; bytes = rest })) (from_be_bytes-to_be_bytes_8 n fits);
}

pub counted_is : IsFormat counted (λ bytes. IsBytes bytes × (length bytes < 2 ^ 32))
counted_is = record {
  takes = λ left x fits e.
      let n = bind_ok (number32.reading left) (λ count. (raw count.0).reading count.1) x e in
      let t = number32_is.takes left n.0 fits n.1 in
      let u = (raw_is n.0.0).takes n.0.1 x t.0.rest_fits n.2 in
      let both = Takes-then left (varint n.0.0) n.0.1 x.0 x.1 t.0 u.0 in
      (subst (λ (k : ℕ). Takes left (varint k ++ x.0) x.1) (sym u.1.len) both, (u.1.each, subst (λ (k : ℕ). k < 2 ^ 32) (sym u.1.len) t.1));
  again = λ end bytes rest fits.
      let regrouped : (varint (length bytes) ++ bytes) ++ rest ≡ varint (length bytes) ++ (bytes ++ rest) = append_assoc (varint (length bytes)) bytes rest in
      ap (λ (all : List ℕ). counted.reading (record { end = end; bytes = all })) regrouped
      ∙ rw (number32_is.again end (length bytes) (bytes ++ rest) fits.1) ((raw_is (length bytes)).again end bytes rest (record { len = refl; each = fits.0 }));
}

body_takes : (left : Left) (b : ℕ) (after : Left) (x : ResolverBody × Left) → IsBytes left.bytes → byte.reading left ≡ Ok (b, after) → body_behind left b after ≡ Ok x
    → Takes left (body_spelling x.0) x.1 × FitsBody x.0
body_takes left zero after x fits tag e =
    let t = tag_takes wide (λ n. n < 2 ^ 64) (λ (view : ℕ). Request view) wide_is left (0, after) x fits tag e in
    rw t.1 (t.2, (t.3, omega arith))
body_takes left (suc zero) after x fits tag e =
    let t = tag_takes counted (λ bytes. IsBytes bytes × (length bytes < 2 ^ 32)) (λ (bytes : List ℕ). Response bytes) counted_is left (1, after) x fits tag e in
    rw t.1 (t.2, t.3)
body_takes left (suc (suc zero)) after x fits tag e =
    let made : ResolverBody × Left = (Error, after) in
    subst (λ (y : ResolverBody × Left). Takes left (body_spelling y.0) y.1 × FitsBody y.0) (ok_is made x e) (byte_alone left (2, after) fits tag, (tt, omega arith))
body_takes left (suc (suc (suc b))) after x fits tag e = absurd cc

body_again : (end : ℕ) (b : ResolverBody) (rest : List ℕ) → FitsBody b → body.reading (record { end = end; bytes = body.spelling b ++ rest }) ≡ Ok (b, record { end = end; bytes = rest })
unfolding body
body_again end (Request view) rest fits = rw (wide_is.again end view rest fits.0) refl
body_again end (Response bytes) rest fits = rw (counted_is.again end bytes rest fits) refl
body_again end Error rest fits = refl

pub body_is : IsFormat body FitsBody
unfolding body
body_is = record {
  takes = λ left x fits e.
      let tag = bind_ok (byte.reading left) (λ tag. body_behind left tag.0 tag.1) x e in
      body_takes left tag.0.0 tag.0.1 x fits tag.1 tag.2;
  again = body_again;
}

pub resolver_message_is : IsFormat resolver_message FitsResolverMessage
unfolding resolver_message
resolver_message_is = seen_is _ _ _ _ (λ a. refl) (λ b. refl) (both_is _ _ _ _ wide_is body_is)

-- ---- responses that are too long

number32_long : (end n : ℕ) (rest : List ℕ) → 2 ^ 32 ≤ n → number32.reading (record { end = end; bytes = varint n ++ rest }) ≡ Err (Fault LongNumber (end - length (varint n ++ rest)))
number32_long end n rest h = rw (number_long (end - length (varint n ++ rest)) (2 ^ 32 - 1) limit32.0 n rest limit32.1 (omega arith)) refl

-- the length stands at byte 9
ninth : (n : ℕ) → suc (suc (suc (suc (suc (suc (suc (suc (suc n)))))))) - n ≡ 9
ninth n = omega arith

pub response_long : (id : ℕ) (bytes : List ℕ) → id < 2 ^ 64 → 2 ^ 32 ≤ length bytes
    → whole resolver_message (resolver_message.spelling (record { id = id; body = Response bytes })) ≡ Err (Fault LongNumber 9)
unfolding resolver_message body
response_long id bytes fits long =
    let text : List ℕ = varint (length bytes) ++ bytes in
    let end : ℕ = length (to_be_bytes w64 id ++ 1 ∷ text) in
    rw (wide_is.again end id (1 ∷ text) fits) (rw (number32_long end (length bytes) bytes long) (ap (λ (place : ℕ). long_at place) (ninth (length text))))
