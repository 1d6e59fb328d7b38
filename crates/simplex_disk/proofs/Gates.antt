-- One gate more is opened.
use Rattle.std.proofs.Common.{◌≡◌, ℕ, zero, suc, ◌+◌, ◌≤◌, ◌<◌, List, [], ◌∷◌, ◌++◌, length, get_or, take, drop, refl, sym, ap, subst, ◌∙◌, arith, append_assoc}
use Rattle.std.proofs.lemmas.List.{append-nil, take-append-drop, take_all, drop_all}
use Rattle.simplex_wire.specs.declared.artifact.Artifact.{Artifact}
use Rattle.simplex_disk.specs.Calls.{Call, Write, bytes_of, content}
use Rattle.simplex_disk.specs.Chain.{record_bytes, total, places}
use Rattle.simplex_disk.specs.Gates.{Waits, OpensSome}
use Rattle.simplex_disk.specs.Left.{HasChain, LeavesChain}
use Rattle.simplex_disk.proofs.Chain.{total-append}
use Rattle.simplex_disk.proofs.Chains.{HasChain-long, HasChain-opened, HasChain-gate, HasChain-weaker, LeavesChain-gate}

pub length-places : (first : ℕ) (P : List Artifact) → length (places first P) ≡ length P
unfolding places
length-places first [] = refl
length-places first (a ∷ P) = omega (arith, length-places (first + suc (length (record_bytes a))) P)

pub places-at : (first i d : ℕ) (P : List Artifact) → i < length P → get_or (places first P) i d ≡ first + total (take i P)
unfolding places total
places-at first i d [] lt = absurd (omega arith)
places-at first zero d (a ∷ P) lt = omega arith
places-at first (suc i) d (a ∷ P) lt = places-at (first + suc (length (record_bytes a))) i d P (omega arith) ∙ omega arith

-- a record in its place
pub record At (P : List Artifact) (i : ℕ) : Type 0 where
  pub here : Artifact
  pub rest : drop i P ≡ here ∷ drop (i + 1) P
  pub front : take (i + 1) P ≡ take i P ++ here ∷ []

pub at : (P : List Artifact) (i : ℕ) → i < length P → At P i
at [] i lt = absurd (omega arith)
at (a ∷ P) zero lt = record { here = a; rest = refl; front = refl }
at (a ∷ P) (suc i) lt =
    let more = at P i (omega arith) in
    let same : suc i + 1 ≡ suc (i + 1) = omega arith in
    record {
      here = more.here;
      rest = more.rest ∙ ap (λ (k : ℕ). more.here ∷ drop k (a ∷ P)) (sym same);
      front = ap (λ (k : ℕ). take k (a ∷ P)) same ∙ ap (λ (l : List Artifact). a ∷ l) more.front;
    }

module _ (n : ℕ) (S P : List Artifact) (i place : ℕ) (H : List Call) (p : At P i) (is : place ≡ total S + total (take i P)) where
  size : place ≡ total (S ++ take i P)
  size = omega (arith, is, total-append S (take i P))

  pub step_ok : (range : ℕ) → HasChain n (S ++ take i P) (drop i P) H → HasChain n (S ++ take (i + 1) P) (drop (i + 1) P) (Write n place range (1 ∷ []) ∷ H)
  step_ok range h =
      let opened = HasChain-opened n (S ++ take i P) p.here (drop (i + 1) P) place range H size (subst (λ (l : List Artifact). HasChain n (S ++ take i P) l H) p.rest h) in
      let joined : (S ++ take i P) ++ p.here ∷ [] ≡ S ++ take (i + 1) P = append_assoc S (take i P) (p.here ∷ []) ∙ ap (λ (l : List Artifact). S ++ l) (sym p.front) in
      subst (λ (l : List Artifact). HasChain n l (drop (i + 1) P) (Write n place range (1 ∷ []) ∷ H)) joined opened

  parted : P ≡ take i P ++ p.here ∷ drop (i + 1) P
  parted = sym (take-append-drop i P) ∙ ap (λ (l : List Artifact). take i P ++ l) p.rest

  pub step_left : (bytes : List ℕ) → LeavesChain n S P H → LeavesChain n S P (Write n place 1 bytes ∷ H)
  step_left bytes left =
      subst (λ (l : List Artifact). LeavesChain n S l (Write n place 1 bytes ∷ H)) (sym parted)
      (LeavesChain-gate n S (take i P) p.here (drop (i + 1) P) place bytes H is (subst (λ (l : List Artifact). LeavesChain n S l H) parted left))

  pub step_long : HasChain n (S ++ take i P) (drop i P) H → place ≤ length (bytes_of (content n H))
  step_long h = omega (arith, size, HasChain-long n (S ++ take i P) (drop i P) H h)

  pub step_failed : (left : List ℕ) → length left ≤ 1 → HasChain n (S ++ take i P) (drop i P) H → HasChain n S P (Write n place 1 left ∷ H)
  step_failed left few h =
      let new = HasChain-gate n (S ++ take i P) p.here (drop (i + 1) P) place left H size few (subst (λ (l : List Artifact). HasChain n (S ++ take i P) l H) p.rest h) in
      subst (λ (l : List Artifact). HasChain n S l (Write n place 1 left ∷ H)) (sym parted) (HasChain-weaker n S (take i P) (p.here ∷ drop (i + 1) P) _ new)

pub opens_none : (n : ℕ) (S P : List Artifact) (H : List Call) → HasChain n S P H → OpensSome n S P 0 H
opens_none n S P H has = subst (λ (l : List Artifact). HasChain n l P H) (sym (append-nil S)) has

-- So far the records stand.
pub OpensSome-stays : (n : ℕ) (S P : List Artifact) (i : ℕ) (H : List Call) → OpensSome n S P i H → HasChain n S P H
OpensSome-stays n S P i H o = subst (λ (l : List Artifact). HasChain n S l H) (take-append-drop i P) (HasChain-weaker n S (take i P) (drop i P) H o)

-- All gates are open.
pub OpensSome-all : (n : ℕ) (S P : List Artifact) (i : ℕ) (H : List Call) → length P ≤ i → OpensSome n S P i H → HasChain n (S ++ P) [] H
OpensSome-all n S P i H all o =
    subst (λ (l : List Artifact). HasChain n (S ++ P) l H) (drop_all i P all)
    (subst (λ (l : List Artifact). HasChain n (S ++ l) (drop i P) H) (take_all i P all) o)

-- Which gate is at hand.
pub record Gate (n : ℕ) (S P : List Artifact) (gates : List ℕ) (i : ℕ) : Type 0 where
  pub record_at : At P i
  pub place : get_or gates i 0 ≡ total S + total (take i P)

pub gate_at : (n : ℕ) (S P : List Artifact) (gates : List ℕ) (i : ℕ) (H : List Call) → Waits n S P gates H → i < length gates → Gate n S P gates i
gate_at n S P gates i H w lt =
    let within : i < length P = omega (arith, lt, ap length w.places, length-places (total S) P) in
    record { record_at = at P i within; place = ap (λ (l : List ℕ). get_or l i 0) w.places ∙ places-at (total S) i 0 P within }

pub long_enough : (n : ℕ) (S P : List Artifact) (gates : List ℕ) (H : List Call) → Waits n S P gates H → length P ≡ length gates
long_enough n S P gates H w = omega (arith, ap length w.places, length-places (total S) P)
