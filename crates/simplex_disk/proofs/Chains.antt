-- What each call of the journal makes of its file, and of what a crash may leave of it.
use Rattle.std.proofs.Common.{◌≡◌, ◌⊎◌, ℕ, zero, suc, ◌+◌, ◌≤◌, List, [], ◌∷◌, ◌++◌, length, take, drop, Option, None, Some, refl, sym, ap, subst, ◌∙◌, arith, length-append, length-drop, inl, inr, Bool, true}
use Rattle.simplex_wire.specs.declared.artifact.Artifact.{Artifact}
use Rattle.simplex_disk.specs.Calls.{Call, Write, Cut, Sync, bytes_of, cut_to, written, Torn, TornIn, content}
use Rattle.simplex_disk.specs.Chain.{Block, record_bytes, chain, records_of, open_blocks, total, IsFront}
use Rattle.simplex_disk.specs.Left.{LeavesFront, LeavesChain, HasChain, Stands, IsUnmade, IsClosed, LeavesClosed, IsShut, IsAbsent}
use Rattle.simplex_disk.proofs.Bytes.{torn_written}
use Rattle.simplex_disk.proofs.Calls.{content-write, left-write, content-sync, left-sync, content-cut, content-cut_or, left-cut}
use Rattle.simplex_disk.proofs.Chain.{nil_records, length-chain, records-open, IsChain-behind, IsFront-behind, IsChain-gate, IsChain-opened, IsChain-appended, IsChain-weaker, IsChain-front, IsFront-more}

pub torn_some : (place range : ℕ) (c : List ℕ) (x : Option (List ℕ)) → TornIn place range (Some c) x → (c' : List ℕ) × (x ≡ Some c') × Torn place range c c'
torn_some place range c None h = absurd h
torn_some place range c (Some c') h = (c', refl, h)

-- The file's chain ends within it.
pub HasChain-long : (n : ℕ) (S P : List Artifact) (H : List Call) → HasChain n S P H → total S + total P + 1 ≤ length (bytes_of (content n H))
HasChain-long n S P H h =
    let is = h.2 in
    let tail = chain is.waiting (0 ∷ is.rest) in
    let size : length h.0 ≡ total S + total P + (length is.rest + 1) =
    omega (arith, ap length is.whole, length-chain (open_blocks S) tail, length-chain is.waiting (0 ∷ is.rest), ap total (records-open S), ap total is.records) in
    let same : length (bytes_of (content n H)) ≡ length h.0 = ap (λ (x : Option (List ℕ)). length (bytes_of x)) h.1 in
    omega (arith, size, same)

-- ---- a write behind the last gate

pub LeavesFront-behind : (n : ℕ) (S P : List Artifact) (place range : ℕ) (bytes : List ℕ) (H : List Call) → total S + total P + 1 ≤ place
    → LeavesFront n S P H → LeavesFront n S P (Write n place range bytes ∷ H)
LeavesFront-behind n S P place range bytes H far left = λ x now.
    let y = left-write n place range bytes H x now in
    let was = left y.0 y.1 in
    let new = torn_some place range was.0 x (subst (λ (o : Option (List ℕ)). TornIn place range o x) was.1 y.2) in
    (new.0, new.1, IsFront-behind S P place range was.0 new.0 far new.2 was.2)

pub HasChain-appended : (n : ℕ) (S P : List Artifact) (a : Artifact) (place range : ℕ) (H : List Call) → place ≡ total S + total P + 1
    → HasChain n S P H → HasChain n S (P ++ a ∷ []) (Write n place range (record_bytes a ++ 0 ∷ []) ∷ H)
HasChain-appended n S P a place range H at h =
    let bytes = record_bytes a ++ 0 ∷ [] in (
      written place bytes h.0,
      content-write n place range bytes H ∙ ap (λ (o : Option (List ℕ)). Some (written place bytes (bytes_of o))) h.1,
      IsChain-appended S P a place h.0 at h.2,
    )

pub HasChain-behind : (n : ℕ) (S P : List Artifact) (place range : ℕ) (bytes : List ℕ) (H : List Call) → place ≡ total S + total P + 1 → length bytes ≤ range
    → HasChain n S P H → HasChain n S P (Write n place range bytes ∷ H)
HasChain-behind n S P place range bytes H at few h =
    let long = HasChain-long n S P H h in
    let same : length (bytes_of (content n H)) ≡ length h.0 = ap (λ (x : Option (List ℕ)). length (bytes_of x)) h.1 in (
      written place bytes h.0,
      content-write n place range bytes H ∙ ap (λ (o : Option (List ℕ)). Some (written place bytes (bytes_of o))) h.1,
      IsChain-behind S P place range h.0 (written place bytes h.0) (omega (arith, at)) (torn_written place range bytes h.0 few (omega (arith, long, same, at))) h.2,
    )

-- ---- a write of a gate

pub LeavesChain-gate : (n : ℕ) (S front : List Artifact) (a : Artifact) (back : List Artifact) (place : ℕ) (bytes : List ℕ) (H : List Call) → place ≡ total S + total front
    → LeavesChain n S (front ++ a ∷ back) H → LeavesChain n S (front ++ a ∷ back) (Write n place 1 bytes ∷ H)
LeavesChain-gate n S front a back place bytes H at left = λ x now.
    let y = left-write n place 1 bytes H x now in
    let was = left y.0 y.1 in
    let new = torn_some place 1 was.0 x (subst (λ (o : Option (List ℕ)). TornIn place 1 o x) was.1 y.2) in
    (new.0, new.1, IsChain-gate S front a back place was.0 new.0 at new.2 was.2)

pub HasChain-opened : (n : ℕ) (S : List Artifact) (a : Artifact) (back : List Artifact) (place range : ℕ) (H : List Call) → place ≡ total S
    → HasChain n S (a ∷ back) H → HasChain n (S ++ a ∷ []) back (Write n place range (1 ∷ []) ∷ H)
HasChain-opened n S a back place range H at h = (
  written place (1 ∷ []) h.0,
  content-write n place range (1 ∷ []) H ∙ ap (λ (o : Option (List ℕ)). Some (written place (1 ∷ []) (bytes_of o))) h.1,
  IsChain-opened S a back place h.0 at h.2,
)

pub HasChain-gate : (n : ℕ) (S : List Artifact) (a : Artifact) (back : List Artifact) (place : ℕ) (bytes : List ℕ) (H : List Call) → place ≡ total S → length bytes ≤ 1
    → HasChain n S (a ∷ back) H → HasChain n S (a ∷ back) (Write n place 1 bytes ∷ H)
unfolding total
HasChain-gate n S a back place bytes H at few h =
    let long = HasChain-long n S (a ∷ back) H h in
    let same : length (bytes_of (content n H)) ≡ length h.0 = ap (λ (x : Option (List ℕ)). length (bytes_of x)) h.1 in (
      written place bytes h.0,
      content-write n place 1 bytes H ∙ ap (λ (o : Option (List ℕ)). Some (written place bytes (bytes_of o))) h.1,
      IsChain-gate S [] a back place h.0 (written place bytes h.0) (omega (arith, at)) (torn_written place 1 bytes h.0 few (omega (arith, long, same, at))) h.2,
    )

-- ---- a sync

pub HasChain-sync : (n : ℕ) (S P : List Artifact) (H : List Call) → HasChain n S P H → HasChain n S P (Sync n ∷ H)
HasChain-sync n S P H h = (h.0, content-sync n H ∙ h.1, h.2)

pub LeavesChain-sync : (n : ℕ) (S P : List Artifact) (H : List Call) → HasChain n S P H → LeavesChain n S P (Sync n ∷ H)
LeavesChain-sync n S P H h = λ x now. (h.0, left-sync n H x now ∙ h.1, h.2)

-- ---- what follows from what

pub LeavesChain-front : (n : ℕ) (S P : List Artifact) (H : List Call) → LeavesChain n S P H → LeavesFront n S P H
LeavesChain-front n S P H left = λ x now.
    let was = left x now in
    (was.0, was.1, IsChain-front S P was.0 was.2)

pub LeavesFront-more : (n : ℕ) (S P : List Artifact) (a : Artifact) (H : List Call) → LeavesFront n S P H → LeavesFront n S (P ++ a ∷ []) H
LeavesFront-more n S P a H left = λ x now.
    let was = left x now in
    (was.0, was.1, IsFront-more S P a was.0 was.2)

pub HasChain-weaker : (n : ℕ) (S front back : List Artifact) (H : List Call) → HasChain n (S ++ front) back H → HasChain n S (front ++ back) H
HasChain-weaker n S front back H h = (h.0, h.1, IsChain-weaker S front back h.0 h.2)

-- ---- a new file

torn_short : (bytes : List ℕ) (y x : Option (List ℕ)) → length (bytes_of y) ≤ 1 → TornIn 0 1 y x → length (bytes_of x) ≤ 1
torn_short bytes None None few torn = few
torn_short bytes None (Some c) few torn = omega (arith, torn.no_longer)
torn_short bytes (Some c) None few torn = absurd torn
torn_short bytes (Some c) (Some d) few torn = omega (arith, torn.no_longer, few)

pub IsUnmade-write : (n : ℕ) (bytes : List ℕ) (H : List Call) → length bytes ≤ 1 → IsUnmade n H → IsUnmade n (Write n 0 1 bytes ∷ H)
IsUnmade-write n bytes H few h =
    let c = bytes_of (content n H) in
    record {
      content =
          let size : length (written 0 bytes c) ≤ 1 =
          omega (arith, length-append bytes (drop (0 + length bytes) c), length-drop (0 + length bytes) c, h.content, few) in
          subst (λ (o : Option (List ℕ)). length (bytes_of o) ≤ 1) (sym (content-write n 0 1 bytes H)) size;
      left = λ x now.
          let y = left-write n 0 1 bytes H x now in
          torn_short bytes y.0 x (h.left y.0 y.1) y.2;
    }

pub IsUnmade-sync : (n : ℕ) (H : List Call) → IsUnmade n H → IsUnmade n (Sync n ∷ H)
IsUnmade-sync n H h = record {
  content = subst (λ (o : Option (List ℕ)). length (bytes_of o) ≤ 1) (sym (content-sync n H)) h.content;
  left = λ x now. subst (λ (o : Option (List ℕ)). length (bytes_of o) ≤ 1) (sym (left-sync n H x now)) h.content;
}

pub HasChain-new : (n : ℕ) (H : List Call) → HasChain n [] [] (Write n 0 1 (0 ∷ []) ∷ H)
unfolding chain records_of open_blocks
HasChain-new n H =
    let c = bytes_of (content n H) in
    (written 0 (0 ∷ []) c, content-write n 0 1 (0 ∷ []) H, record { waiting = []; records = refl; rest = drop 1 c; whole = refl })

cut_short : (x : Option (List ℕ)) → length (bytes_of (cut_to 0 x)) ≤ 1
cut_short None = omega arith
cut_short (Some bytes) = omega arith

closed_cut : (done : Bool) (x y : Option (List ℕ)) → (x ≡ y) ⊎ (x ≡ cut_to 0 y) → IsClosed (bytes_of y) → IsClosed (bytes_of x)
closed_cut done x y (inl same) closed = subst (λ (o : Option (List ℕ)). IsClosed (bytes_of o)) (sym same) closed
closed_cut done x y (inr cut) closed = inl (subst (λ (o : Option (List ℕ)). length (bytes_of o) ≤ 1) (sym cut) (cut_short y))

pub IsShut-cut : (n : ℕ) (done : Bool) (H : List Call) → IsShut n H → IsShut n (Cut n 0 done ∷ H)
IsShut-cut n done H shut = record {
  content = closed_cut done _ (content n H) (content-cut_or n 0 done H) shut.content;
  left = λ x now.
      let y = left-cut n 0 done H x now in
      closed_cut done x y.0 y.2 (shut.left y.0 y.1);
}

-- A file that is not there has no record.
pub closed_none : (x : Option (List ℕ)) → x ≡ None → IsClosed (bytes_of x)
closed_none x none = subst (λ (o : Option (List ℕ)). IsClosed (bytes_of o)) (sym none) (inl (omega arith))

pub IsAbsent-shut : (n : ℕ) (H : List Call) → IsAbsent n H → IsShut n H
IsAbsent-shut n H absent = record { content = closed_none (content n H) absent.content; left = λ x now. closed_none x (absent.left x now) }

-- A sync leaves what a read gives.
pub IsAbsent-sync : (n : ℕ) (H : List Call) → IsAbsent n H → IsAbsent n (Sync n ∷ H)
IsAbsent-sync n H absent = record { content = content-sync n H ∙ absent.content; left = λ x now. left-sync n H x now ∙ absent.content }

pub IsUnmade-cut : (n : ℕ) (H : List Call) → IsUnmade n (Sync n ∷ Cut n 0 true ∷ H)
IsUnmade-cut n H =
    let short : length (bytes_of (content n (Cut n 0 true ∷ H))) ≤ 1 = subst (λ (o : Option (List ℕ)). length (bytes_of o) ≤ 1) (sym (content-cut n 0 H)) (cut_short (content n H)) in
    record {
      content = subst (λ (o : Option (List ℕ)). length (bytes_of o) ≤ 1) (sym (content-sync n (Cut n 0 true ∷ H))) short;
      left = λ x now. subst (λ (o : Option (List ℕ)). length (bytes_of o) ≤ 1) (sym (left-sync n (Cut n 0 true ∷ H) x now)) short;
    }

pub IsUnmade-shut : (n : ℕ) (H : List Call) → IsUnmade n H → IsShut n H
IsUnmade-shut n H h = record { content = inl h.content; left = λ x now. inl (h.left x now) }

take_none : (k : ℕ) → take {A = Artifact} k [] ≡ []
take_none zero = refl
take_none (suc k) = refl

-- Bytes with no record but behind a closed gate.
closed_front : (bytes : List ℕ) (P : List Artifact) → P ≡ [] → IsFront [] P bytes → IsClosed bytes
unfolding chain open_blocks records_of
closed_front bytes P none front =
    let is = front.chain in
    let nothing : take front.whole P ≡ [] = ap (λ (l : List Artifact). take front.whole l) none ∙ take_none front.whole in
    let empty : is.waiting ≡ [] = nil_records is.waiting (is.records ∙ nothing) in
    inr (is.rest, is.whole ∙ ap (λ (l : List Block). chain l (0 ∷ is.rest)) empty)

-- A file with no record.
pub Stands-shut : (n : ℕ) (H : List Call) → Stands n [] [] H → IsShut n H
Stands-shut n H h = record {
  content = subst (λ (o : Option (List ℕ)). IsClosed (bytes_of o)) (sym h.content.1) (closed_front h.content.0 [] refl (IsChain-front [] [] h.content.0 h.content.2));
  left = λ x now.
      let was = h.left x now in
      subst (λ (o : Option (List ℕ)). IsClosed (bytes_of o)) (sym was.1) (closed_front was.0 [] refl was.2);
}

pub LeavesFront-closed : (n : ℕ) (H : List Call) → LeavesFront n [] [] H → LeavesClosed n H
LeavesFront-closed n H left = λ x now.
    let was = left x now in
    subst (λ (o : Option (List ℕ)). IsClosed (bytes_of o)) (sym was.1) (closed_front was.0 [] refl was.2)
