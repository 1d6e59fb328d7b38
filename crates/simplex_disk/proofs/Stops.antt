-- What a stop makes of a file, gate by gate.
use Rattle.std.proofs.Common.{◌≡◌, ◌<◌, ◌≤◌, ◌+◌, min, ℕ, zero, suc, List, [], ◌∷◌, ◌++◌, length, get_or, take, drop, Option, Some, refl, sym, ap, subst, ◌∙◌, arith, append_assoc, length-append}
use Rattle.std.proofs.lemmas.List.{append-nil, take_all, drop_all, take_min, length-take}
use Rattle.std.specs.List.{AllByRecursion}
use Rattle.simplex_wire.specs.declared.artifact.Artifact.{Artifact}
use Rattle.simplex_disk.specs.declared.segment.Segment.{Segment}
use Rattle.simplex_disk.specs.Calls.{Call, Leave, bytes_of, content, written}
use Rattle.simplex_disk.specs.Chain.{Block, Reads, IsChain, record_bytes, records_of, chain, open_blocks, total, places}
use Rattle.simplex_disk.specs.Left.{HasChain, LeavesChain}
use Rattle.simplex_disk.specs.Segments.{IsKept, IsSegment}
use Rattle.simplex_disk.specs.Opening.{IsSettledAt}
use Rattle.simplex_disk.specs.Stopping.{WaitsFirst, OpensFirst, IsStopped}
use Rattle.simplex_disk.proofs.Bytes.{written_behind}
use Rattle.simplex_disk.proofs.Calls.{content-leave, left-leave}
use Rattle.simplex_disk.proofs.Chain.{IsChain-opened, parts, nil_records, chain-append, length-chain, records-open, total-append, total-take}
use Rattle.simplex_disk.proofs.Chains.{HasChain-long, LeavesChain-front}
use Rattle.simplex_disk.proofs.Gates.{at, length-places, places-at}
use Rattle.simplex_disk.proofs.Segments.{AllByRecursion-join}

pub settled-leave : (n place byte : ℕ) (H : List Call) → IsSettledAt n (Leave n place byte ∷ H)
settled-leave n place byte H = λ x now. left-leave n place byte H x now

-- ---- a gate that is opened

HasChain-left : (n : ℕ) (S : List Artifact) (a : Artifact) (back : List Artifact) (place : ℕ) (H : List Call) → place ≡ total S
    → HasChain n S (a ∷ back) H → HasChain n (S ++ a ∷ []) back (Leave n place 1 ∷ H)
HasChain-left n S a back place H at h = (
  written place (1 ∷ []) h.0,
  content-leave n place 1 H ∙ ap (λ (o : Option (List ℕ)). Some (written place (1 ∷ []) (bytes_of o))) h.1,
  IsChain-opened S a back place h.0 at h.2,
)

-- ---- a gate that is closed

IsChain-closed : (synced : List Artifact) (a : Artifact) (back : List Artifact) (place : ℕ) (c : List ℕ) → place ≡ total synced
    → IsChain synced (a ∷ back) c → IsChain synced [] (written place (0 ∷ []) c)
unfolding chain open_blocks records_of
IsChain-closed synced a back place c at is =
    let p = parts is.waiting [] a back is.records in
    let none : p.before ≡ [] = nil_records p.before p.records_before in
    let front = chain (open_blocks synced) [] in
    let tail = record_bytes p.here.artifact ++ chain p.behind (0 ∷ is.rest) in
    let size : length front ≡ place = omega (arith, length-chain (open_blocks synced) [], ap total (records-open synced), at) in
    let whole : c ≡ front ++ p.here.gate ∷ tail =
    is.whole ∙ ap (λ (l : List Block). chain (open_blocks synced) (chain l (0 ∷ is.rest))) p.whole
    ∙ ap (λ (l : List Block). chain (open_blocks synced) (chain (l ++ p.here ∷ p.behind) (0 ∷ is.rest))) none
    ∙ sym (chain-append (open_blocks synced) [] (p.here.gate ∷ tail)) in
    let made : written place (0 ∷ []) c ≡ front ++ 0 ∷ tail =
    ap (λ (l : List ℕ). written place (0 ∷ []) l) whole ∙ written_behind front (p.here.gate ∷ tail) (0 ∷ []) place (sym size) in
    record { waiting = []; records = refl; rest = tail; whole = made ∙ chain-append (open_blocks synced) [] (0 ∷ tail) }

HasChain-closed : (n : ℕ) (S : List Artifact) (a : Artifact) (back : List Artifact) (place : ℕ) (H : List Call) → place ≡ total S
    → HasChain n S (a ∷ back) H → HasChain n S [] (Leave n place 0 ∷ H)
HasChain-closed n S a back place H at h = (
  written place (0 ∷ []) h.0,
  content-leave n place 0 H ∙ ap (λ (o : Option (List ℕ)). Some (written place (0 ∷ []) (bytes_of o))) h.1,
  IsChain-closed S a back place h.0 at h.2,
)

-- ---- the gates of a file

get_or-first : (k i : ℕ) (xs : List ℕ) → i < k → get_or (take k xs) i 0 ≡ get_or xs i 0
get_or-first zero i xs lt = absurd (omega arith)
get_or-first (suc k) i [] lt = refl
get_or-first (suc k) zero (x ∷ xs) lt = refl
get_or-first (suc k) (suc i) (x ∷ xs) lt = get_or-first k i xs (omega arith)

-- where the gate is
gate_place : (n : ℕ) (S P : List Artifact) (gates : List ℕ) (i : ℕ) (H : List Call) → WaitsFirst n S P gates H → i < length gates → get_or gates i 0 ≡ total S + total (take i P)
gate_place n S P gates i H w lt =
    ap (λ (l : List ℕ). get_or l i 0) w.places ∙ get_or-first (length gates) i (places (total S) P) lt ∙ places-at (total S) i 0 P (omega (arith, lt, w.few))

pub opens_start : (n : ℕ) (S P : List Artifact) (gates : List ℕ) (H : List Call) → WaitsFirst n S P gates H → OpensFirst n S P 0 H
opens_start n S P gates H w = record { content = subst (λ (l : List Artifact). HasChain n l P H) (sym (append-nil S)) w.content; settled = w.settled }

module _ (n : ℕ) (S P : List Artifact) (gates : List ℕ) (i : ℕ) (H0 H : List Call) (w : WaitsFirst n S P gates H0) (lt : i < length gates) (o : OpensFirst n S P i H) where
  pub gate_long : get_or gates i 0 < length (bytes_of (content n H))
  gate_long = omega (arith, gate_place n S P gates i H0 w lt, total-append S (take i P), HasChain-long n (S ++ take i P) (drop i P) H o.content)

  pub gate_opened : OpensFirst n S P (i + 1) (Leave n (get_or gates i 0) 1 ∷ H)
  gate_opened =
      let p = at P i (omega (arith, lt, w.few)) in
      let place : get_or gates i 0 ≡ total (S ++ take i P) = omega (arith, gate_place n S P gates i H0 w lt, total-append S (take i P)) in
      let opened = HasChain-left n (S ++ take i P) p.here (drop (i + 1) P) (get_or gates i 0) H place (subst (λ (l : List Artifact). HasChain n (S ++ take i P) l H) p.rest o.content) in
      let joined : (S ++ take i P) ++ p.here ∷ [] ≡ S ++ take (i + 1) P = append_assoc S (take i P) (p.here ∷ []) ∙ ap (λ (l : List Artifact). S ++ l) (sym p.front) in
      record {
        content = subst (λ (l : List Artifact). HasChain n l (drop (i + 1) P) (Leave n (get_or gates i 0) 1 ∷ H)) joined opened;
        settled = settled-leave n (get_or gates i 0) 1 H;
      }

-- ---- the next gate

module _ (n : ℕ) (S P : List Artifact) (gates : List ℕ) (k : ℕ) (H : List Call) (o : OpensFirst n S P k H) (is : gates ≡ places (total S) P) where
  module _ (place : ℕ) (there : place ≡ get_or gates k 0) (lt : k < length gates) where
    within : k < length P
    within = omega (arith, lt, ap length is, length-places (total S) P)

    place_is : place ≡ total S + total (take k P)
    place_is = there ∙ ap (λ (l : List ℕ). get_or l k 0) is ∙ places-at (total S) k 0 P within

    pub next_long : place < length (bytes_of (content n H))
    next_long = omega (arith, place_is, total-append S (take k P), HasChain-long n (S ++ take k P) (drop k P) H o.content)

    pub next_closed : IsStopped n (S ++ take k P) (Leave n place 0 ∷ H)
    next_closed =
        let p = at P k within in
        record {
          content = HasChain-closed n (S ++ take k P) p.here (drop (k + 1) P) place H (omega (arith, place_is, total-append S (take k P))) (subst (λ (l : List Artifact). HasChain n (S ++ take k P) l H) p.rest o.content);
          settled = settled-leave n place 0 H;
        }

    pub next_end : place + 1 ≡ total S + total (take k P) + 1
    next_end = omega (arith, place_is)

    pub next_small : (end : ℕ) → end ≡ total S + total P + 1 → place + 1 ≤ end
    next_small end last = omega (arith, place_is, last, total-take k P)

  module _ (none : length gates ≤ k) where
    all_of : length P ≤ k
    all_of = omega (arith, none, ap length is, length-places (total S) P)

    pub no_next : IsStopped n (S ++ take k P) H
    no_next = record { content = subst (λ (l : List Artifact). HasChain n (S ++ take k P) l H) (drop_all k P all_of) o.content; settled = o.settled }

    pub no_end : (end : ℕ) → end ≡ total S + total P + 1 → end ≡ total S + total (take k P) + 1
    no_end end last = last ∙ ap (λ (l : List Artifact). total S + total l + 1) (sym (take_all k P all_of))

-- ---- what is kept

all_first : (k : ℕ) (xs : List Artifact) → AllByRecursion Reads xs → AllByRecursion Reads (take k xs)
all_first zero xs h = tt
all_first (suc k) [] h = tt
all_first (suc k) (x ∷ xs) h = (h.0, all_first k xs h.1)

pub kept_first : (k : ℕ) (P : List Artifact) (gates : List ℕ) (first : ℕ) → gates ≡ places first P → k ≤ length gates → (front : List ℕ) → front ≡ take k gates → front ≡ take (length front) (places first P)
kept_first k P gates first is few front cut =
    let size : length front ≡ k = ap length cut ∙ omega (arith, length-take k gates, few) in
    cut ∙ ap (λ (l : List ℕ). take k l) is ∙ ap (λ (j : ℕ). take j (places first P)) (sym size)

pub least_take : (keep : ℕ) (P : List Artifact) → take (min keep (length P)) P ≡ take keep P
least_take keep P = take_min keep P

pub IsSegment-stopped : (n : ℕ) (old new : Segment) (S P : List Artifact) (k : ℕ) (H : List Call) → IsKept old S P → IsStopped n (S ++ take k P) H → k ≤ length P
    → new.synced ≡ old.synced + k → new.gates.items ≡ [] → new.end ≡ total S + total (take k P) + 1 → IsSegment n new (S ++ take k P) [] H
unfolding total places
IsSegment-stopped n old new S P k H is stopped few synced gates end =
    let left : LeavesChain n (S ++ take k P) [] H = λ x now. (stopped.content.0, stopped.settled x now ∙ stopped.content.1, stopped.content.2) in
    record {
      stands = record { content = stopped.content; left = LeavesChain-front n (S ++ take k P) [] H left };
      kept = record {
        synced_reads = AllByRecursion-join S (take k P) is.synced_reads (all_first k P is.pending_reads);
        pending_reads = tt;
        count = omega (arith, synced, is.count, length-append S (take k P), length-take k P, few);
        gates = gates;
        end = omega (arith, end, total-append S (take k P));
      };
    }
