-- The files are opened, one by one.
use Rattle.std.proofs.Common.{◌≡◌, ◌≢◌, ◌⊎◌, ℕ, zero, suc, ◌+◌, ◌≤◌, ◌<◌, true, false, eqb, List, [], ◌∷◌, ◌++◌, length, get_or, take, Option, None, Some, refl, sym, ap, subst, ◌∙◌, arith, inl, inr}
use Rattle.std.specs.List.{list_any}
use Rattle.std.specs.List.Sorted.{IsStrictlySortedBy}
use Rattle.std.specs.Option.{is_some}
use Rattle.std.specs.Ordering.{nat_cmp}
use Rattle.std.specs.declared.cmp.Ordering.TheVariants.{Less}
use Rattle.std.specs.Map.{lookup}
use Rattle.std.specs.BTreeMap.{is_at, insert_entry}
use Rattle.std.proofs.lemmas.Bool.{cases_eq}
use Rattle.std.proofs.lemmas.Bool.Decides.{nat_tests}
use Rattle.std.proofs.lemmas.Grind.{common_steps}
use Rattle.std.proofs.lemmas.List.{take_all, append-nil}
use Rattle.std.proofs.lemmas.Map.Keys.{Less-from_sorted}
use Rattle.simplex_wire.specs.declared.artifact.Artifact.{Artifact}
use Rattle.simplex_journal.specs.Memory.{Lists, section_of}
use Rattle.simplex_disk.specs.declared.segment.Segment.{Segment}
use Rattle.simplex_disk.specs.Answers.{IsListing}
use Rattle.simplex_disk.specs.Calls.{Call, MayLeave, content}
use Rattle.simplex_disk.specs.Chain.{opened, total, places}
use Rattle.simplex_disk.specs.Left.{IsMendable, LeavesSolid}
use Rattle.simplex_disk.specs.Moments.{Each, Always, AlwaysOf}
use Rattle.simplex_disk.specs.Segments.{IsKept, IsSegment}
use Rattle.simplex_disk.specs.Index.{StandsAt, IsIndexed, sections_at, section_numbered}
use Rattle.simplex_disk.specs.Opening.{BeginsWith, IsSettledAt, IsSettled, LeavesRead, ReadsSame, LeavesSame, section_read, AreRead}
use Rattle.simplex_disk.proofs.Chain.{opened-front}
use Rattle.simplex_disk.proofs.Lookups.{lookup-insert_same, lookup-insert_other}
use Rattle.simplex_disk.proofs.Moments.{Untouched, always_all, untouched}
use Rattle.simplex_disk.proofs.Measures.{begins_opened}
use Rattle.simplex_disk.proofs.Whole.{not_none}
use Rattle.simplex_disk.proofs.Entries.{numbered-none, numbered-some, segment_lists}

-- ---- one file

pub mendable : (n : ℕ) (records : List Artifact) (len : ℕ) (bytes : List ℕ) (H : List Call) → content n H ≡ Some bytes → IsSettledAt n H → BeginsWith records bytes → len ≡ total records
    → IsMendable n records len H
mendable n records len bytes H reads settled begins size = record { bytes = bytes; reads = reads; solid = (begins.end, begins.whole, begins.no_more); only = settled; size = size }

pub IsKept-opened : (s : Segment) (records : List Artifact) (bytes : List ℕ) → BeginsWith records bytes → s.end ≡ total records + 1 → length records ≡ s.synced → s.gates.items ≡ [] → IsKept s records []
unfolding total places
IsKept-opened s records bytes begins end count gates = record {
  synced_reads = begins.reads;
  pending_reads = tt;
  count = count;
  gates = gates;
  end = omega (arith, end);
}

pub solid_read : (n : ℕ) (records : List Artifact) (bytes : List ℕ) → BeginsWith records bytes → (H : List Call) → LeavesSolid n records H → LeavesRead n bytes H
solid_read n records bytes begins H left = λ x now.
    let was = left x now in
    let same : BeginsWith records was.0 = record { reads = begins.reads; end = was.2.0; whole = was.2.1; no_more = was.2.2 } in
    (was.0, was.1, begins_opened records was.0 same ∙ sym (begins_opened records bytes begins))

-- before any call
pub settled_read : (n : ℕ) (H : List Call) → IsSettledAt n H → (bytes : List ℕ) → content n H ≡ Some bytes → LeavesRead n bytes H
settled_read n H settled bytes there = λ x now. (bytes, settled x now ∙ there, refl)

-- ---- all files

some_is : (o : Option Segment) (v w : Segment) → o ≡ Some v → o ≡ Some w → v ≡ w
some_is o v w a b = cc (a, b)

less_of : (a b : ℕ) → nat_cmp a b ≡ Less → a < b
less_of a b h = grind (arith, nat_tests)

any_more : (numbers : List ℕ) (i m : ℕ) → i < length numbers → (get_or numbers i 0 ≡ m → ⊥) → list_any (λ number. eqb number m) (take i numbers) ≡ false
    → list_any (λ number. eqb number m) (take (i + 1) numbers) ≡ false
any_more [] i m lt other none = absurd (omega arith)
any_more (x ∷ xs) zero m lt other none = grind (arith, nat_tests)
any_more (x ∷ xs) (suc i) m lt other none =
    let more = any_more xs i m (omega arith) other in
    let e : suc i + 1 ≡ suc (i + 1) = omega arith in
    rw e (grind (arith, nat_tests, common_steps, more))

-- The first i files are open: H0 is the moment of the first call.
pub record AreOpen (H0 : List Call) (numbers : List ℕ) (i : ℕ) (es : List (ℕ × Segment)) (H : List Call) : Type 0 where
  pub done : (m : ℕ) (v : Segment) → lookup (is_at (nat_cmp m)) es ≡ Some v → (bytes : List ℕ) × (content m H0 ≡ Some bytes) × IsSegment m v (opened bytes) [] H
  pub reads : (m : ℕ) → lookup (is_at (nat_cmp m)) es ≡ None → content m H ≡ content m H0
  pub leaves : (m : ℕ) → lookup (is_at (nat_cmp m)) es ≡ None → (x : Option (List ℕ)) → MayLeave m H x → MayLeave m H0 x
  pub few : (m : ℕ) (v : Segment) → lookup (is_at (nat_cmp m)) es ≡ Some v → (k : ℕ) → i ≤ k → k < length numbers → m < get_or numbers k 0
  pub all : (m : ℕ) → lookup (is_at (nat_cmp m)) es ≡ None → list_any (λ number. eqb number m) (take i numbers) ≡ false

pub open_none : (H0 : List Call) (numbers : List ℕ) (es : List (ℕ × Segment)) → es ≡ [] → AreOpen H0 numbers 0 es H0
open_none H0 numbers es none = subst (λ (l : List (ℕ × Segment)). AreOpen H0 numbers 0 l H0) (sym none) (record {
  done = λ m v some. absurd cc;
  reads = λ m absent. refl;
  leaves = λ m absent x now. now;
  few = λ m v some. absurd cc;
  all = λ m absent. refl;
})

found_or : (o : Option Segment) → (o ≡ None) ⊎ ((v : Segment) × (o ≡ Some v))
found_or None = inl refl
found_or (Some v) = inr (v, refl)

same_read : (m : ℕ) (H0 H : List Call) (x : Option (List ℕ)) (v : Segment) (bytes : List ℕ) → content m H0 ≡ Some bytes → IsSegment m v (opened bytes) [] H → MayLeave m H x → ReadsSame (content m H0) x
same_read m H0 H x v bytes is seg now =
    let was = seg.stands.left x now in
    let read = opened-front (opened bytes) [] was.0 seg.kept.synced_reads tt was.2 in
    let none : take {A = Artifact} read.0 [] ≡ [] = nothing read.0 in
    subst (λ (o : Option (List ℕ)). ReadsSame o x) (sym is) (was.0, was.1, read.1 ∙ ap (λ (l : List Artifact). opened bytes ++ l) none ∙ append-nil (opened bytes))
  where
    nothing : (k : ℕ) → take {A = Artifact} k [] ≡ []
    nothing zero = refl
    nothing (suc k) = refl

reads_itself : (o x : Option (List ℕ)) → x ≡ o → ReadsSame o x
reads_itself None x is = is
reads_itself (Some bytes) x is = (bytes, is, refl)

-- What a crash leaves of a file reads as at first.
pub open_left : (H0 : List Call) (numbers : List ℕ) (i : ℕ) (es : List (ℕ × Segment)) (H : List Call) → IsSettled H0 → AreOpen H0 numbers i es H
    → (m : ℕ) (x : Option (List ℕ)) → MayLeave m H x → ReadsSame (content m H0) x
open_left H0 numbers i es H settled o m x now = elim (found_or (lookup (is_at (nat_cmp m)) es)) [
  | inl none ↦ reads_itself (content m H0) x (settled.only m x (o.leaves m none x now))
  | inr some ↦
      let d = o.done m some.0 some.1 in
      same_read m H0 H x some.0 d.0 d.1 d.2 now
]

pub open_same : (H0 : List Call) (numbers : List ℕ) (i : ℕ) (es : List (ℕ × Segment)) (H : List Call) → IsSettled H0 → AreOpen H0 numbers i es H → LeavesSame H0 H
open_same H0 numbers i es H settled o = record { each = open_left H0 numbers i es H settled o }

pub settled_same : (H0 : List Call) → IsSettled H0 → LeavesSame H0 H0
settled_same H0 settled = record { each = λ m x now. reads_itself (content m H0) x (settled.only m x now) }

pub no_moments : (H0 : List Call) → IsSettled H0 → Always (LeavesSame H0) H0 H0
unfolding Each
no_moments H0 settled = record { made = []; goes_on = refl; each = settled_same H0 settled }

-- the file at hand
module _ (H0 : List Call) (numbers : List ℕ) (i : ℕ) (es : List (ℕ × Segment)) (H : List Call) (settled : IsSettled H0) (o : AreOpen H0 numbers i es H) (n : ℕ) (at : n ≡ get_or numbers i 0) (lt : i < length numbers) where
  pub not_yet : lookup (is_at (nat_cmp n)) es ≡ None
  not_yet = elim (found_or (lookup (is_at (nat_cmp n)) es)) [
    | inl none ↦ none
    | inr some ↦
        let less = o.few n some.0 some.1 i (omega arith) lt in
        absurd (omega (arith, less, at))
  ]

  pub settled_here : IsSettledAt n H
  settled_here = λ x now. settled.only n x (o.leaves n not_yet x now) ∙ sym (o.reads n not_yet)

  module _ (bytes : List ℕ) (there : content n H0 ≡ Some bytes) where
    pub reads_here : content n H ≡ Some bytes
    reads_here = o.reads n not_yet ∙ there

    module _ (H1 : List Call) (h : AlwaysOf n (LeavesRead n bytes) H H1) where
      pub moments_here : Always (LeavesSame H0) H H1
      moments_here = always_all n (LeavesRead n bytes) (LeavesSame H0) H H1
          (λ l left u. record {
            each = λ m x now. elim (cases_eq m n) [
              | inl same ↦
                  let here : MayLeave n l x = subst (λ (k : ℕ). MayLeave k l x) same now in
                  subst (λ (k : ℕ). ReadsSame (content k H0) x) (sym same) (subst (λ (p : Option (List ℕ)). ReadsSame p x) (sym there) (left x here))
              | inr other ↦ open_left H0 numbers i es H settled o m x (u.left m other x now)
            ];
          }) h

      pub one_more : (s : Segment) → IsKept s (opened bytes) [] → IsSegment n s (opened bytes) [] H1 → IsStrictlySortedBy nat_cmp numbers → (new : List (ℕ × Segment)) → new ≡ insert_entry nat_cmp es n s → AreOpen H0 numbers (i + 1) new H1
      one_more s kept seg sorted new is = subst (λ (l : List (ℕ × Segment)). AreOpen H0 numbers (i + 1) l H1) (sym is) (record {
        done = λ m v some. elim (cases_eq m n) [
          | inl same ↦ subst (λ (k : ℕ). (bytes : List ℕ) × (content k H0 ≡ Some bytes) × IsSegment k v (opened bytes) [] H1) (sym same)
              (let v_is : v ≡ s = some_is _ v s (subst (λ (k : ℕ). lookup (is_at (nat_cmp k)) (insert_entry nat_cmp es n s) ≡ Some v) same some) (lookup-insert_same n es s) in
              (bytes, there, subst (λ (w : Segment). IsSegment n w (opened bytes) [] H1) (sym v_is) seg))
          | inr other ↦
              let d = o.done m v (sym (lookup-insert_other n m es s other) ∙ some) in
              (d.0, d.1, segment_other m other v d.0 d.2)
        ];
        reads = λ m none. elim (cases_eq m n) [
          | inl same ↦ absurd (there_now m same none)
          | inr other ↦ u.content m other ∙ o.reads m (sym (lookup-insert_other n m es s other) ∙ none)
        ];
        leaves = λ m none x now. elim (cases_eq m n) [
          | inl same ↦ absurd (there_now m same none)
          | inr other ↦ o.leaves m (sym (lookup-insert_other n m es s other) ∙ none) x (u.left m other x now)
        ];
        few = λ m v some k from lt_k. elim (cases_eq m n) [
          | inl same ↦
              let less = less_of (get_or numbers i 0) (get_or numbers k 0) (Less-from_sorted nat_cmp numbers i k 0 sorted (omega (arith, from)) lt_k) in
              omega (arith, less, same, at)
          | inr other ↦ o.few m v (sym (lookup-insert_other n m es s other) ∙ some) k (omega (arith, from)) lt_k
        ];
        all = λ m none. elim (cases_eq m n) [
          | inl same ↦ absurd (there_now m same none)
          | inr other ↦ any_more numbers i m lt (λ q. other (sym q ∙ sym at)) (o.all m (sym (lookup-insert_other n m es s other) ∙ none))
        ];
      })
        where
          u : Untouched n H H1
          u = untouched n (LeavesRead n bytes) H H1 h

          there_now : (m : ℕ) → m ≡ n → lookup (is_at (nat_cmp m)) (insert_entry nat_cmp es n s) ≡ None → ⊥
          there_now m same none = not_none _ s (lookup-insert_same n es s) (subst (λ (k : ℕ). lookup (is_at (nat_cmp k)) (insert_entry nat_cmp es n s) ≡ None) same none)

          segment_other : (m : ℕ) → m ≢ n → (v : Segment) (bs : List ℕ) → IsSegment m v (opened bs) [] H → IsSegment m v (opened bs) [] H1
          segment_other m other v bs is = record {
            stands = record {
              content = (is.stands.content.0, u.content m other ∙ is.stands.content.1, is.stands.content.2);
              left = λ x now. is.stands.left x (u.left m other x now);
            };
            kept = is.kept;
          }

-- ---- a file that is listed is there

pub listed_there : (files : ℕ → Option (List ℕ)) (numbers : List ℕ) (i : ℕ) → IsListing files numbers → i < length numbers → (there : Option (List ℕ)) → there ≡ files (get_or numbers i 0) → (bytes : List ℕ) × (there ≡ Some bytes)
listed_there files numbers i listing lt there is = some_of there (ap is_some is ∙ listing.all (get_or numbers i 0) ∙ any_at numbers i lt)
  where
    any_at : (xs : List ℕ) (i : ℕ) → i < length xs → list_any (λ number. eqb number (get_or xs i 0)) xs ≡ true
    any_at [] i lt = absurd (omega arith)
    any_at (x ∷ xs) zero lt = grind (arith, nat_tests)
    any_at (x ∷ xs) (suc i) lt = let more = any_at xs i (omega arith) in grind (arith, nat_tests, common_steps)

    some_of : (o : Option (List ℕ)) → is_some o ≡ true → (bytes : List ℕ) × (o ≡ Some bytes)
    some_of None is = absurd cc
    some_of (Some bytes) is = (bytes, refl)

-- ---- all are open

any_all : (files : ℕ → Option (List ℕ)) (numbers : List ℕ) (i m : ℕ) → IsListing files numbers → length numbers ≤ i → list_any (λ number. eqb number m) (take i numbers) ≡ false → files m ≡ None
any_all files numbers i m listing all none =
    nothing (files m) (listing.all m ∙ ap (λ (l : List ℕ). list_any (λ number. eqb number m) l) (sym (take_all i numbers all)) ∙ none)
  where
    nothing : (o : Option (List ℕ)) → is_some o ≡ false → o ≡ None
    nothing None is = refl
    nothing (Some x) is = absurd cc

module _ (H0 : List Call) (files : ℕ → Option (List ℕ)) (numbers : List ℕ) (i : ℕ) (es : List (ℕ × Segment)) (H : List Call) (settled : IsSettled H0) (o : AreOpen H0 numbers i es H)
    (listing : IsListing files numbers) (read : (n : ℕ) → content n H0 ≡ files n) (all : length numbers ≤ i) where
  absent_of : (m : ℕ) → lookup (is_at (nat_cmp m)) es ≡ None → content m H0 ≡ None
  absent_of m none = read m ∙ any_all files numbers i m listing all (o.all m none)

  stands_of : (m : ℕ) (v : Option Segment) → lookup (is_at (nat_cmp m)) es ≡ v → StandsAt m H v
  stands_of m None none =
      let nothing : content m H ≡ None = o.reads m none ∙ absent_of m none in
      record {
        content = nothing;
        left = λ x now. settled.only m x (o.leaves m none x now) ∙ absent_of m none;
      }
  stands_of m (Some v) some =
      let d = o.done m v some in
      (opened d.0, [], d.2)

  pub all_indexed : IsIndexed es None H
  all_indexed = record { at = λ m stays. stands_of m (lookup (is_at (nat_cmp m)) es) refl; gone = λ m leaves. absurd leaves; back = λ m leaves. absurd leaves }

  read_of : (m : ℕ) (v : Option Segment) → lookup (is_at (nat_cmp m)) es ≡ v → section_numbered m (sections_at H es) ≡ section_read m (content m H0)
  read_of m None none = numbered-none (λ k. content k H) m es none ∙ ap (λ (x : Option (List ℕ)). section_read m x) (sym (absent_of m none))
  read_of m (Some v) some =
      let d = o.done m v some in
      numbered-some (λ k. content k H) m es v some
      ∙ ap (λ (l : Lists). Some (section_of (m, l))) (segment_lists m v (opened d.0) [] H d.2)
      ∙ ap (λ (x : Option (List ℕ)). section_read m x) (sym d.1)

  pub all_read : AreRead (λ n. content n H0) (sections_at H es)
  all_read = record { each = λ m. read_of m (lookup (is_at (nat_cmp m)) es) refl }
