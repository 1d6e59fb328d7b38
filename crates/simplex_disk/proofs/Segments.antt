-- What calls make of a segment.
use Rattle.std.proofs.Common.{◌≡◌, ℕ, suc, ◌+◌, ◌-◌, ◌≤◌, List, [], ◌∷◌, ◌++◌, length, take, drop, Option, Some, Result, Ok, Err, refl, sym, ap, subst, ◌∙◌, arith, length-append}
use Rattle.std.specs.List.{AllByRecursion}
use Rattle.std.specs.Result.{OnOk, OnErr, IfOk}
use Rattle.std.proofs.lemmas.List.{take_at, drop_at}
use Rattle.simplex_wire.specs.declared.artifact.Artifact.{Artifact}
use Rattle.simplex_journal.specs.Memory.{Lists}
use Rattle.simplex_disk.specs.declared.segment.Segment.{Segment}
use Rattle.simplex_disk.specs.Calls.{Call, Write, bytes_of}
use Rattle.simplex_disk.specs.Chain.{Block, Reads, record_bytes, records_of, open_blocks, chain, total, places, walked, IsChain}
use Rattle.simplex_disk.specs.Left.{Stands, HasChain}
use Rattle.simplex_disk.specs.Segments.{IsKept, lists_in}
use Rattle.simplex_disk.proofs.Chain.{total-append, length-total, records-open, records-join, chain-join, walked-chain}
use Rattle.simplex_disk.proofs.Chains.{HasChain-appended, HasChain-behind, LeavesFront-behind, LeavesFront-more}
use Rattle.simplex_disk.proofs.Gates.{length-places}

pub AllByRecursion-join : (xs ys : List Artifact) → AllByRecursion Reads xs → AllByRecursion Reads ys → AllByRecursion Reads (xs ++ ys)
AllByRecursion-join [] ys h k = k
AllByRecursion-join (x ∷ xs) ys h k = (h.0, AllByRecursion-join xs ys h.1 k)

pub places-push : (first : ℕ) (P : List Artifact) (a : Artifact) → places first (P ++ a ∷ []) ≡ places first P ++ (first + total P) ∷ []
unfolding places total
places-push first [] a = ap (λ (k : ℕ). k ∷ []) (let e : first ≡ first + 0 = omega arith in e)
places-push first (x ∷ P) a =
    ap (λ (l : List ℕ). first ∷ l) (places-push (first + suc (length (record_bytes x))) P a
    ∙ ap (λ (k : ℕ). places (first + suc (length (record_bytes x))) P ++ k ∷ []) (let e : first + suc (length (record_bytes x)) + total P ≡ first + suc (length (record_bytes x) + total P) = omega arith in e))

-- ---- a write behind the last gate

pub Stands-appended : (n : ℕ) (S P : List Artifact) (a : Artifact) (place range : ℕ) (bytes : List ℕ) (H : List Call) → place ≡ total S + total P + 1 → bytes ≡ record_bytes a ++ 0 ∷ []
    → Stands n S P H → Stands n S (P ++ a ∷ []) (Write n place range bytes ∷ H)
Stands-appended n S P a place range bytes H at is h = record {
  content = subst (λ (l : List ℕ). HasChain n S (P ++ a ∷ []) (Write n place range l ∷ H)) (sym is) (HasChain-appended n S P a place range H at h.content);
  left = LeavesFront-more n S P a _ (LeavesFront-behind n S P place range bytes H (omega (arith, at)) h.left);
}

pub Stands-behind : (n : ℕ) (S P : List Artifact) (place range : ℕ) (bytes : List ℕ) (H : List Call) → place ≡ total S + total P + 1 → length bytes ≤ range
    → Stands n S P H → Stands n S P (Write n place range bytes ∷ H)
Stands-behind n S P place range bytes H at few h = record {
  content = HasChain-behind n S P place range bytes H at few h.content;
  left = LeavesFront-behind n S P place range bytes H (omega (arith, at)) h.left;
}

-- One more record is kept.
pub IsKept-appended : (old new : Segment) (S P : List Artifact) (a : Artifact) → IsKept old S P → Reads a
    → new.synced ≡ old.synced → new.gates.items ≡ old.gates.items ++ (old.end - 1) ∷ [] → new.end ≡ old.end + length (record_bytes a ++ 0 ∷ []) → IsKept new S (P ++ a ∷ [])
unfolding total
IsKept-appended old new S P a is reads synced gates end = record {
  synced_reads = is.synced_reads;
  pending_reads = AllByRecursion-join P (a ∷ []) is.pending_reads (reads, tt);
  count = is.count ∙ sym synced;
  gates =
      let place : old.end - 1 ≡ total S + total P = omega (arith, is.end) in
      gates ∙ ap (λ (l : List ℕ). l ++ (old.end - 1) ∷ []) is.gates ∙ ap (λ (k : ℕ). places (total S) P ++ k ∷ []) place ∙ sym (places-push (total S) P a);
  end = omega (arith, end, is.end, length-append (record_bytes a) (0 ∷ []), total-append P (a ∷ []));
}

-- What is kept is as it was.
pub IsKept-same : (old new : Segment) (S P : List Artifact) → IsKept old S P → new.synced ≡ old.synced → new.gates.items ≡ old.gates.items → new.end ≡ old.end → IsKept new S P
IsKept-same old new S P is synced gates end = record {
  synced_reads = is.synced_reads;
  pending_reads = is.pending_reads;
  count = is.count ∙ sym synced;
  gates = gates ∙ is.gates;
  end = end ∙ is.end;
}

-- All its records are synced.
pub IsKept-synced : (old new : Segment) (S P : List Artifact) → IsKept old S P → new.synced ≡ old.synced + length old.gates.items → new.gates.items ≡ [] → new.end ≡ old.end
    → IsKept new (S ++ P) []
unfolding total places
IsKept-synced old new S P is synced gates end = record {
  synced_reads = AllByRecursion-join S P is.synced_reads is.pending_reads;
  pending_reads = tt;
  count = omega (arith, synced, is.count, length-append S P, ap length is.gates, length-places (total S) P);
  gates = gates;
  end = omega (arith, end, is.end, total-append S P);
}

-- How many records there are fits a u64.
pub IsKept-few : (s : Segment) (S P : List Artifact) → IsKept s S P → s.synced + length s.gates.items + 1 ≤ s.end
IsKept-few s S P is = omega (arith, is.count, ap length is.gates, length-places (total S) P, is.end, length-total S, length-total P)

-- No record is kept.
pub IsKept-empty : (s : Segment) → s.end ≡ 1 → s.synced ≡ 0 → s.gates.items ≡ [] → IsKept s [] []
unfolding total places
IsKept-empty s end synced gates = record {
  synced_reads = tt;
  pending_reads = tt;
  count = omega (arith, synced);
  gates = gates;
  end = omega (arith, end);
}

-- ---- the records that are read

length-records : (blocks : List Block) → length (records_of blocks) ≡ length blocks
unfolding records_of
length-records [] = refl
length-records (b ∷ blocks) = omega (arith, length-records blocks)

-- What is kept of the file reads its records.
pub lists_are : (s : Segment) (S P : List Artifact) (file : Option (List ℕ)) (bytes : List ℕ) → file ≡ Some bytes → IsChain S P bytes → IsKept s S P → lists_in file s ≡ record { synced = S; pending = P }
unfolding lists_in
lists_are s S P file bytes there w is =
    let blocks = open_blocks S ++ w.waiting in
    let records : records_of blocks ≡ S ++ P = records-join (open_blocks S) w.waiting ∙ ap (λ (l : List Artifact). l ++ records_of w.waiting) (records-open S) ∙ ap (λ (l : List Artifact). S ++ l) w.records in
    let size : s.synced + length s.gates.items ≡ length blocks =
    omega (arith, is.count, ap length is.gates, length-places (total S) P, length-records blocks, ap length records, length-append S P) in
    let same : bytes_of file ≡ chain blocks (0 ∷ w.rest) = ap bytes_of there ∙ w.whole ∙ sym (chain-join (open_blocks S) w.waiting (0 ∷ w.rest)) in
    let all : AllByRecursion Reads (records_of blocks) = subst (λ (l : List Artifact). AllByRecursion Reads l) (sym records) (AllByRecursion-join S P is.synced_reads is.pending_reads) in
    let read : walked (s.synced + length s.gates.items) (bytes_of file) ≡ S ++ P =
    ap (λ (k : ℕ). walked k (bytes_of file)) size ∙ ap (λ (l : List ℕ). walked (length blocks) l) same ∙ walked-chain blocks (0 ∷ w.rest) all ∙ records in
    ap (λ (l : List Artifact). let r : Lists = record { synced = take s.synced l; pending = drop s.synced l } in r) read
    ∙ (let front : take s.synced (S ++ P) ≡ S = take_at S P s.synced is.count in
    let back : drop s.synced (S ++ P) ≡ P = drop_at S P s.synced is.count in cc)

-- ---- answers

pub on_err : {T E P : Type 0} (r : Result T E) → P → OnErr r P
on_err (Ok x) h = tt
on_err (Err e) h = h

pub on_ok : {T E P : Type 0} (r : Result T E) → P → OnOk r P
on_ok (Ok x) h = h
on_ok (Err e) h = tt

pub ok_of : {T E P : Type 0} (r : Result T E) (x : T) → r ≡ Ok x → OnOk r P → P
ok_of {T} {E} {P} r x is h = subst (λ (q : Result T E). OnOk q P) is h

pub err_of : {T E P : Type 0} (r : Result T E) (e : E) → r ≡ Err e → OnErr r P → P
err_of {T} {E} {P} r e is h = subst (λ (q : Result T E). OnErr q P) is h

pub ok_with : {T E : Type 0} (P : T → Type 0) (r : Result T E) (x : T) → r ≡ Ok x → IfOk r P → P x
ok_with {T} {E} P r x is h = subst (λ (q : Result T E). IfOk q P) is h

pub on_weaker : {T E P Q : Type 0} (r : Result T E) → (P → Q) → OnOk r P → OnOk r Q
on_weaker (Ok x) f h = f h
on_weaker (Err e) f h = tt

pub err_with : {T E P Q : Type 0} (r : Result T E) → (P → Q) → OnErr r P → OnErr r Q
err_with (Ok x) f h = tt
err_with (Err e) f h = f h
