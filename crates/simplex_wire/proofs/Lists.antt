-- Lists of attestations: the loop that reads them, and their laws.
use Rattle.std.proofs.Common.{◌≡◌, ℕ, zero, suc, ◌+◌, ◌-◌, ◌^◌, ◌<◌, ◌≤◌, true, false, cond, ltb, leb, List, [], ◌∷◌, ◌++◌, length, Result, Ok, Err, refl, sym, ap, subst, ◌∙◌, append_assoc, arith}
use Rattle.std.specs.List.{flat_map, AllByRecursion}
use Rattle.std.proofs.lemmas.Bool.{ltb-false, le-ltb, le-leb, leb-true, and_parts, and_from}
use Rattle.std.proofs.lemmas.List.{append-nil}
use Rattle.std.proofs.lemmas.List.Concat.{flat_map-cons}
use Rattle.simplex_wire.specs.declared.error.DecodeError.{DecodeError}
use Rattle.simplex_wire.specs.declared.error.DecodeError.TheVariants.{Fault, Memory}
use Rattle.simplex_wire.specs.declared.error.DecodeCause.TheVariants.{Order}
use Rattle.simplex_wire.specs.declared.attestation.Attestation.{Attestation}
use Rattle.simplex_wire.specs.Format.{◌>>=◌, Left, fault_at, raw, GivesItemsUnlessMemory}
use Rattle.simplex_wire.specs.Number.{varint, number32}
use Rattle.simplex_wire.specs.Signatures.{rises_from, IsSignatures}
use Rattle.simplex_wire.specs.Fits.{IsBytes, FitsAttestation, FitsSignatures}
use Rattle.simplex_wire.specs.Message.{attestation, attestation_from, attestations_from, signatures}
use Rattle.simplex_wire.proofs.Bytes.{bind_ok, guard_ok, ok_is, Takes, Takes-then}
use Rattle.simplex_wire.proofs.Formats.{IsFormat, raw_is, number32_is}
use Rattle.simplex_wire.proofs.Messages.{attestation_is}

-- ---- the loop

-- what was read before, and what is still read
abbrev pub with_front : List Attestation → Result (List Attestation × Left) DecodeError → Result (List Attestation × Left) DecodeError
with_front front read = read >>= λ x. Ok (front ++ x.0, x.1)

regroup : (front : List Attestation) (a : Attestation) (read : Result (List Attestation × Left) DecodeError) → with_front front (read >>= λ x. Ok (a ∷ x.0, x.1)) ≡ with_front (front ++ a ∷ []) read
regroup front a (Ok x) = ap (λ (list : List Attestation). Ok (list, x.1)) (simp append_assoc)
regroup front a (Err e) = refl

pub goes_on : (front : List Attestation) (count i least : ℕ) (left : Left) (a : Attestation) (after : Left) (total : Result (List Attestation × Left) DecodeError) → i < count → attestation_from least left ≡ Ok (a, after)
    → with_front front (attestations_from (count - i) least left) ≡ total → with_front (front ++ a ∷ []) (attestations_from (count - (i + 1)) (a.signer + 1) after) ≡ total
unfolding attestations_from
goes_on front count i least left a after total lt h so_far =
    let k : count - i ≡ suc (count - (i + 1)) = omega arith in
    let one : with_front front (attestations_from (count - i) least left) ≡ with_front (front ++ a ∷ []) (attestations_from (count - (i + 1)) (a.signer + 1) after) = rw (k, h) (regroup front a (attestations_from (count - (i + 1)) (a.signer + 1) after)) in
    sym one ∙ so_far

pub ends : (e : DecodeError) (front : List Attestation) (count i least : ℕ) (left after : Left) (total : Result (List Attestation × Left) DecodeError) → i < count → attestation_from least left ≡ Err e
    → with_front front (attestations_from (count - i) least left) ≡ total → GivesItemsUnlessMemory {A = Attestation} after (Err e) total
unfolding attestations_from
ends Memory front count i least left after total lt h so_far = tt
ends (Fault cause place) front count i least left after total lt h so_far =
    let k : count - i ≡ suc (count - (i + 1)) = omega arith in
    let one : with_front front (attestations_from (count - i) least left) ≡ Err (Fault cause place) = rw (k, h) refl in
    sym so_far ∙ one

pub is_done : (front : List Attestation) (count i least : ℕ) (left : Left) (total : Result (List Attestation × Left) DecodeError) → count ≤ i → with_front front (attestations_from (count - i) least left) ≡ total → total ≡ Ok (front, left)
unfolding attestations_from
is_done front count i least left total le so_far =
    let k : count - i ≡ 0 = omega arith in
    let one : with_front front (attestations_from (count - i) least left) ≡ Ok (front, left) = rw k (ap (λ (list : List Attestation). Ok (list, left)) (append-nil front)) in
    sym so_far ∙ one

-- ---- one attestation

-- the two steps of an attestation in a list
steps : (least : ℕ) (left : Left) (x : Attestation × Left) → attestation_from least left ≡ Ok x
    → (least ≤ x.0.signer) × (attestation.reading left ≡ Ok x)
unfolding attestation_from attestation
steps least left x e =
    let a = bind_ok (number32.reading left) (λ signer. cond (ltb signer.0 least) (Err (fault_at Order left)) ((raw 32).reading signer.1 >>= λ s. Ok (record { signer = signer.0; signature = s.0 }, s.1))) x e in
    let g = guard_ok (ltb a.0.0 least) (fault_at Order left) ((raw 32).reading a.0.1 >>= λ s. Ok (record { signer = a.0.0; signature = s.0 }, s.1)) x a.2 in
    let b = bind_ok ((raw 32).reading a.0.1) (λ s. Ok (record { signer = a.0.0; signature = s.0 }, s.1)) x g.1 in
    let made : Attestation × Left = (record { signer = a.0.0; signature = b.0.0 }, b.0.1) in
    let same = ok_is made x b.2 in
    (subst (λ (y : Attestation × Left). least ≤ y.0.signer) {x = made} same (ltb-false _ _ g.0), rw (a.1, b.1) (ap (λ (y : Attestation × Left). Ok y) {x = made} same))

from_again : (least end : ℕ) (a : Attestation) (rest : List ℕ) → FitsAttestation a → least ≤ a.signer
    → attestation_from least (record { end = end; bytes = attestation.spelling a ++ rest }) ≡ Ok (a, record { end = end; bytes = rest })
unfolding attestation_from attestation
from_again least end a rest fits le =
    let regrouped : (varint a.signer ++ a.signature) ++ rest ≡ varint a.signer ++ (a.signature ++ rest) = append_assoc (varint a.signer) a.signature rest in
    let above : ltb a.signer least ≡ false = le-ltb _ _ le in
    ap (λ (bytes : List ℕ). attestation_from least (record { end = end; bytes = bytes })) regrouped
    ∙ rw (number32_is.again end a.signer (a.signature ++ rest) fits.0) (rw (above, (raw_is 32).again end a.signature rest fits.1) refl)

-- ---- lists

-- what was read is in order, and counted
pub is_ordered : (n least : ℕ) (left : Left) (x : List Attestation × Left) → attestations_from n least left ≡ Ok x → (rises_from least x.0 ≡ true) × (length x.0 ≡ n)
unfolding attestations_from
is_ordered zero least left x e = subst (λ (y : List Attestation × Left). (rises_from least y.0 ≡ true) × (length y.0 ≡ 0)) (ok_is ([], left) x e) (refl, refl)
is_ordered (suc n) least left x e =
    let a = bind_ok (attestation_from least left) (λ first. attestations_from n (first.0.signer + 1) first.1 >>= λ others. Ok (first.0 ∷ others.0, others.1)) x e in
    let b = bind_ok (attestations_from n (a.0.0.signer + 1) a.0.1) (λ others. Ok (a.0.0 ∷ others.0, others.1)) x a.2 in
    let rest = is_ordered n (a.0.0.signer + 1) a.0.1 b.0 b.1 in
    let made : List Attestation × Left = (a.0.0 ∷ b.0.0, b.0.1) in
    subst (λ (y : List Attestation × Left). (rises_from least y.0 ≡ true) × (length y.0 ≡ suc n)) (ok_is made x b.2) (and_from (leb least a.0.0.signer) (rises_from (a.0.0.signer + 1) b.0.0) (le-leb least a.0.0.signer (steps least left a.0 a.1).0) rest.0, ap suc rest.1)

list_takes : (n least : ℕ) (left : Left) (x : List Attestation × Left) → IsBytes left.bytes → attestations_from n least left ≡ Ok x → Takes left (flat_map attestation.spelling x.0) x.1 × AllByRecursion FitsAttestation x.0
unfolding attestations_from
list_takes zero least left x fits e =
    subst (λ (y : List Attestation × Left). Takes left (flat_map attestation.spelling y.0) y.1 × AllByRecursion FitsAttestation y.0) (ok_is ([], left) x e) (record { parts = refl; end = refl; rest_fits = fits }, tt)
list_takes (suc n) least left x fits e =
    let a = bind_ok (attestation_from least left) (λ first. attestations_from n (first.0.signer + 1) first.1 >>= λ others. Ok (first.0 ∷ others.0, others.1)) x e in
    let b = bind_ok (attestations_from n (a.0.0.signer + 1) a.0.1) (λ others. Ok (a.0.0 ∷ others.0, others.1)) x a.2 in
    let first = attestation_is.takes left a.0 fits (steps least left a.0 a.1).1 in
    let second = list_takes n (a.0.0.signer + 1) a.0.1 b.0 first.0.rest_fits b.1 in
    let taken = Takes-then left (attestation.spelling a.0.0) a.0.1 (flat_map attestation.spelling b.0.0) b.0.1 first.0 second.0 in
    let made : List Attestation × Left = (a.0.0 ∷ b.0.0, b.0.1) in
    subst (λ (y : List Attestation × Left). Takes left (flat_map attestation.spelling y.0) y.1 × AllByRecursion FitsAttestation y.0) (ok_is made x b.2) (rw flat_map-cons taken, (first.1, second.1))

list_again : (least end : ℕ) (list : List Attestation) (rest : List ℕ) → rises_from least list ≡ true → AllByRecursion FitsAttestation list
    → attestations_from (length list) least (record { end = end; bytes = flat_map attestation.spelling list ++ rest }) ≡ Ok (list, record { end = end; bytes = rest })
unfolding attestations_from
list_again least end [] rest rises fits = refl
list_again least end (a ∷ others) rest rises fits =
    let parts = and_parts (leb least a.signer) (rises_from (a.signer + 1) others) rises in
    let regrouped : flat_map attestation.spelling (a ∷ others) ++ rest ≡ attestation.spelling a ++ (flat_map attestation.spelling others ++ rest) =
    ap (λ (x : List ℕ). x ++ rest) (flat_map-cons attestation.spelling a others) ∙ append_assoc (attestation.spelling a) (flat_map attestation.spelling others) rest in
    ap (λ (bytes : List ℕ). attestations_from (suc (length others)) least (record { end = end; bytes = bytes })) regrouped
    ∙ rw (from_again least end a (flat_map attestation.spelling others ++ rest) fits.0 (leb-true least a.signer parts.0), list_again (a.signer + 1) end others rest parts.1 fits.1) refl

pub signatures_is : IsFormat signatures FitsSignatures
unfolding signatures
signatures_is = record {
  takes = λ left x fits e.
      let a = bind_ok (number32.reading left) (λ count. attestations_from count.0 0 count.1) x e in
      let t = number32_is.takes left a.0 fits a.1 in
      let order = is_ordered a.0.0 0 a.0.1 x a.2 in
      let u = list_takes a.0.0 0 a.0.1 x t.0.rest_fits a.2 in
      let taken : Takes left (varint a.0.0 ++ flat_map attestation.spelling x.0) x.1 = Takes-then left (varint a.0.0) a.0.1 (flat_map attestation.spelling x.0) x.1 t.0 u.0 in
      (rw order.1 taken, (record { rises = order.0; count = rw order.1 t.1 }, u.1));
  again = λ end list rest fits.
      let regrouped : (varint (length list) ++ flat_map attestation.spelling list) ++ rest ≡ varint (length list) ++ (flat_map attestation.spelling list ++ rest) = append_assoc (varint (length list)) (flat_map attestation.spelling list) rest in
      ap (λ (bytes : List ℕ). signatures.reading (record { end = end; bytes = bytes })) regrouped
      ∙ rw (number32_is.again end (length list) (flat_map attestation.spelling list ++ rest) fits.0.count, list_again 0 end list rest fits.0.rises fits.1) refl;
}

-- what the loop read may be made into signatures
pub are_signatures : (n : ℕ) (left : Left) (list : List Attestation) (after : Left) → n < 2 ^ 32 → attestations_from n 0 left ≡ Ok (list, after) → IsSignatures list
are_signatures n left list after lt e = let o = is_ordered n 0 left (list, after) e in record { rises = o.0; count = rw o.1 lt }
