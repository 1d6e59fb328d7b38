-- What a crash leaves while the end of a file is mended.
use Rattle.std.proofs.Common.{◌≡◌, ℕ, zero, suc, ◌≤◌, inl, inr, Bool, true, List, [], ◌∷◌, ◌++◌, length, take, drop, Option, Some, refl, sym, ap, subst, ◌∙◌, arith, length-append}
use Rattle.std.proofs.lemmas.Bool.{cases_eq}
use Rattle.std.proofs.lemmas.Bool.Decides.{nat_tests}
use Rattle.std.proofs.lemmas.List.{append-nil, take_at}
use Rattle.simplex_wire.specs.Number.{number_from}
use Rattle.simplex_wire.specs.declared.artifact.Artifact.{Artifact}
use Rattle.simplex_disk.specs.Calls.{Call, Write, Cut, Sync, bytes_of, cut_to, written, Torn, TornIn, content, MayLeave}
use Rattle.simplex_disk.specs.Chain.{Block, chain, records_of, open_blocks, total, block, opened_by}
use Rattle.simplex_disk.specs.Left.{HasChain, IsSolid, LeavesSolid, IsMendable}
use Rattle.simplex_disk.proofs.Bytes.{torn_behind, written_behind}
use Rattle.simplex_disk.proofs.Calls.{content-write, left-write, content-sync, left-sync, content-cut, left-cut}
use Rattle.simplex_disk.proofs.Chain.{chain-append, length-chain, records-open}
use Rattle.simplex_disk.proofs.Chains.{torn_some}

-- One byte is no record.
pub opened-short : (n : ℕ) (t : List ℕ) → length t ≤ 1 → opened_by n t ≡ []
unfolding opened_by block number_from
opened-short zero t short = refl
opened-short (suc n) [] short = refl
opened-short (suc n) (b ∷ []) short = elim (cases_eq b 1) [
  | inl one ↦ grind (arith, nat_tests)
  | inr other ↦ grind (arith, nat_tests)
]
opened-short (suc n) (b ∷ c ∷ rest) short = absurd (omega (arith, short))

front : List Artifact → List ℕ
front S = chain (open_blocks S) []

length-front : (S : List Artifact) → length (front S) ≡ total S
unfolding front
length-front S = omega (arith, length-chain (open_blocks S) [], ap total (records-open S))

behind : (S : List Artifact) (t : List ℕ) → chain (open_blocks S) t ≡ front S ++ t
unfolding front
behind S t = sym (chain-append (open_blocks S) [] t)

pub LeavesSolid-start : (n : ℕ) (S : List Artifact) (len : ℕ) (H : List Call) → IsMendable n S len H → LeavesSolid n S H
LeavesSolid-start n S len H m = λ x now. (m.bytes, m.only x now ∙ m.reads, m.solid)

cut_front : (S : List Artifact) (len : ℕ) (c : List ℕ) → len ≡ total S → IsSolid S c → take len c ≡ chain (open_blocks S) []
unfolding front
cut_front S len c size solid = ap (λ (l : List ℕ). take len l) (solid.1 ∙ behind S solid.0) ∙ take_at (front S) solid.0 len (omega (arith, length-front S, size))

empty_solid : (S : List Artifact) → IsSolid S (chain (open_blocks S) [])
empty_solid S = ([], refl, λ k. opened-short k [] (omega arith))

pub LeavesSolid-cut : (n : ℕ) (S : List Artifact) (len : ℕ) (done : Bool) (H : List Call) → IsMendable n S len H → LeavesSolid n S (Cut n len done ∷ H)
LeavesSolid-cut n S len done H m = λ x now.
    let y = left-cut n len done H x now in
    let was : y.0 ≡ Some m.bytes = m.only y.0 y.1 ∙ m.reads in
    elim y.2 [
      | inl same ↦ (m.bytes, same ∙ was, m.solid)
      | inr cut ↦ (chain (open_blocks S) [], cut ∙ ap (λ (o : Option (List ℕ)). cut_to len o) was ∙ ap (λ (l : List ℕ). Some l) (cut_front S len m.bytes m.size m.solid), empty_solid S)
    ]

-- The file is cut behind its records, on the disk.
pub record IsCut (n : ℕ) (S : List Artifact) (H : List Call) : Type 0 where
  pub content : content n H ≡ Some (chain (open_blocks S) [])
  pub left : (x : Option (List ℕ)) → MayLeave n H x → x ≡ Some (chain (open_blocks S) [])

pub IsCut-sync : (n : ℕ) (S : List Artifact) (len : ℕ) (H : List Call) → IsMendable n S len H → IsCut n S (Sync n ∷ Cut n len true ∷ H)
IsCut-sync n S len H m =
    let cut : content n (Cut n len true ∷ H) ≡ Some (chain (open_blocks S) []) =
    content-cut n len H ∙ ap (λ (o : Option (List ℕ)). cut_to len o) m.reads ∙ ap (λ (l : List ℕ). Some l) (cut_front S len m.bytes m.size m.solid) in
    record { content = content-sync n (Cut n len true ∷ H) ∙ cut; left = λ x now. left-sync n (Cut n len true ∷ H) x now ∙ cut }

pub IsCut-solid : (n : ℕ) (S : List Artifact) (H : List Call) → IsCut n S H → LeavesSolid n S H
IsCut-solid n S H cut = λ x now. (chain (open_blocks S) [], cut.left x now, empty_solid S)

pub LeavesSolid-gate : (n : ℕ) (S : List Artifact) (len : ℕ) (bytes : List ℕ) (H : List Call) → len ≡ total S → IsCut n S H → LeavesSolid n S (Write n len 1 bytes ∷ H)
unfolding front
LeavesSolid-gate n S len bytes H size cut = λ x now.
    let y = left-write n len 1 bytes H x now in
    let new = torn_some len 1 (front S) x (subst (λ (o : Option (List ℕ)). TornIn len 1 o x) (cut.left y.0 y.1) y.2) in
    let torn = subst (λ (l : List ℕ). Torn len 1 l new.0) (sym (append-nil (front S))) new.2 in
    let end = torn_behind (front S) [] len 1 new.0 (omega (arith, length-front S, size)) torn in
    let short : length end.0 ≤ 1 = omega (arith, new.2.no_longer, length-front S, size, ap length end.1, length-append (front S) end.0) in
    (new.0, new.1, (end.0, end.1 ∙ sym (behind S end.0), λ k. opened-short k end.0 short))

pub HasChain-gate_behind : (n : ℕ) (S : List Artifact) (len range : ℕ) (H : List Call) → len ≡ total S → IsCut n S H → HasChain n S [] (Write n len range (0 ∷ []) ∷ H)
unfolding front chain records_of
HasChain-gate_behind n S len range H size cut =
    let made : written len (0 ∷ []) (front S) ≡ front S ++ 0 ∷ drop 1 [] =
    ap (λ (l : List ℕ). written len (0 ∷ []) l) (sym (append-nil (front S))) ∙ written_behind (front S) [] (0 ∷ []) len (omega (arith, length-front S, size)) in (
      written len (0 ∷ []) (front S),
      content-write n len range (0 ∷ []) H ∙ ap (λ (o : Option (List ℕ)). Some (written len (0 ∷ []) (bytes_of o))) cut.content,
      record { waiting = []; records = refl; rest = drop 1 []; whole = made ∙ sym (behind S (0 ∷ drop 1 [])) },
    )

pub IsCut-long : (n : ℕ) (S : List Artifact) (len : ℕ) (H : List Call) → len ≡ total S → IsCut n S H → len ≤ length (bytes_of (content n H))
unfolding front
IsCut-long n S len H size cut = omega (arith, size, length-front S, ap (λ (o : Option (List ℕ)). length (bytes_of o)) cut.content)

pub HasChain-solid : (n : ℕ) (S : List Artifact) (H : List Call) → HasChain n S [] H → LeavesSolid n S (Sync n ∷ H)
unfolding opened_by chain records_of
HasChain-solid n S H h = λ x now.
    let none = no_blocks h.2.waiting h.2.records in
    (h.0, left-sync n H x now ∙ h.1, (0 ∷ h.2.rest, h.2.whole ∙ ap (λ (l : List Block). chain (open_blocks S) (chain l (0 ∷ h.2.rest))) none, λ k. shut k h.2.rest))
  where
    no_blocks : (blocks : List Block) → records_of blocks ≡ [] → blocks ≡ []
    no_blocks [] is = refl
    no_blocks (b ∷ blocks) is = absurd cc

    shut : (k : ℕ) (t : List ℕ) → opened_by k (0 ∷ t) ≡ []
    shut zero t = refl
    shut (suc k) t = refl
