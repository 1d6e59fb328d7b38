-- The first section is dropped.
use Rattle.std.proofs.Common.{◌≡◌, ◌≢◌, ◌<◌, ◌≤◌, ◌+◌, ◌-◌, ℕ, zero, suc, true, List, [], ◌∷◌, length, Option, None, Some, Result, Ok, Err, refl, sym, ap, subst, ◌∙◌, arith, inl, inr}
use Rattle.std.specs.Result.{MatchResult}
use Rattle.std.specs.Ordering.{nat_cmp}
use Rattle.std.specs.Cmp.{unsigned_tied}
use Rattle.std.specs.Map.{lookup, remove_entry, keys_of}
use Rattle.std.specs.List.Sorted.{IsStrictlySortedBy}
use Rattle.std.specs.BTreeMap.{is_at}
use Rattle.std.proofs.lemmas.Bool.{cases_eq, cases_lt}
use Rattle.std.specs.declared.cmp.Ordering.TheVariants.{Less}
use Rattle.std.proofs.lemmas.Map.Keys.{sorted_tail}
use Rattle.std.proofs.lemmas.Bool.Decides.{nat_tests}
use Rattle.std.proofs.lemmas.Grind.{common_steps}
use Rattle.simplex_wire.specs.declared.artifact.Artifact.{Artifact}
use Rattle.simplex_journal.specs.Journal.{Section, pruned, pruned_first}
use Rattle.simplex_journal.specs.Memory.{Lists, section_of, sections_of}
use Rattle.simplex_journal.proofs.Entries.{pruned_first-zero, pruned_first-all, length-sections_of}
use Rattle.simplex_disk.specs.declared.segment.Segment.{Segment}
use Rattle.simplex_disk.specs.Calls.{Call, Remove, Sync, content}
use Rattle.simplex_disk.specs.Chain.{IsFront}
use Rattle.simplex_disk.specs.Left.{IsAbsent, LeavesFront}
use Rattle.simplex_disk.specs.Moments.{Each, Always, AlwaysOf}
use Rattle.simplex_disk.specs.Segments.{IsSegment}
use Rattle.simplex_disk.specs.Index.{read_entries, sections_in, sections_at, StandsAt, IsIndexed, IsLeaving, section_numbered, IsLeft, MayBeBack, LeavesJournal}
use Rattle.simplex_disk.specs.Pruning.{LeavesPruned, LeavesGone, HasNoneBelow, BeginsAt, behind_first}
use Rattle.simplex_disk.proofs.Backs.{none_left}
use Rattle.simplex_disk.proofs.Calls.{left-remove, left-sync, content-remove}
use Rattle.simplex_disk.proofs.Chain.{opened-front}
use Rattle.simplex_disk.proofs.Moments.{Untouched, always_all, untouched, now_of}
use Rattle.simplex_disk.proofs.Entries.{read-none, left_now, numbered-none, numbered-some, segment_lists, at_left, left_other, stands_other}

-- ---- one file

pub front_gone : (n : ℕ) (S P : List Artifact) (H : List Call) → LeavesFront n S P H → LeavesGone n S P H
front_gone n S P H left = λ x now. inr (left x now)

pub removed_gone : (n : ℕ) (S P : List Artifact) (done : _) (H : List Call) → LeavesFront n S P H → LeavesGone n S P (Remove n done ∷ H)
removed_gone n S P done H left = λ x now. elim (left-remove n done H x now) [ inl before ↦ inr (left x before) | inr none ↦ inl none ]

pub synced_gone : (n : ℕ) (S P : List Artifact) (H : List Call) → LeavesGone n S P (Sync n ∷ Remove n true ∷ H)
synced_gone n S P H = λ x now. inl (left-sync n (Remove n true ∷ H) x now ∙ content-remove n H)

-- ---- the first entry

first_is : (e : ℕ × Segment) (es : List (ℕ × Segment)) (n : ℕ) → e.0 ≡ n → remove_entry (is_at (nat_cmp n)) (e ∷ es) ≡ es
first_is e es n is = grind (arith, common_steps, unsigned_tied n e.0)

pub removed_first : (es : List (ℕ × Segment)) (n : ℕ) → BeginsAt n es → remove_entry (is_at (nat_cmp n)) es ≡ behind_first es
removed_first [] n at = absurd at
removed_first (e ∷ es) n at = first_is e es n at

pub first_found : (e : ℕ × Segment) (es : List (ℕ × Segment)) (n : ℕ) → e.0 ≡ n → lookup (is_at (nat_cmp n)) (e ∷ es) ≡ Some e.1
first_found e es n is = grind (arith, common_steps, unsigned_tied n e.0)

pub other_found : (e : ℕ × Segment) (es : List (ℕ × Segment)) (n m : ℕ) → e.0 ≡ n → m ≢ n → lookup (is_at (nat_cmp m)) (e ∷ es) ≡ lookup (is_at (nat_cmp m)) es
other_found e es n m is other = grind (arith, common_steps, unsigned_tied m e.0)

others_found : (es : List (ℕ × Segment)) (n m : ℕ) → BeginsAt n es → m ≢ n → lookup (is_at (nat_cmp m)) (behind_first es) ≡ lookup (is_at (nat_cmp m)) es
others_found [] n m at other = absurd at
others_found (e ∷ es) n m at other = sym (other_found e es n m at other)

pub some_first : (es : List (ℕ × Segment)) (n : ℕ) → BeginsAt n es → (v : Segment) × (lookup (is_at (nat_cmp n)) es ≡ Some v)
some_first [] n at = absurd at
some_first (e ∷ es) n at = (e.1, first_found e es n at)

first_sections : (F : ℕ → Option (List ℕ)) (es : List (ℕ × Segment)) (n least : ℕ) → BeginsAt n es → n < least → pruned_first 1 least (sections_in F es) ≡ sections_in F (behind_first es)
unfolding pruned_first sections_of read_entries
first_sections F [] n least at below = absurd at
first_sections F (e ∷ es) n least at below =
    let zero_more = pruned_first-zero least (sections_in F es) in
    let less : e.0 < least = omega (arith, at, below) in
    grind (arith, common_steps, nat_tests)

pub segment_first : (n : ℕ) (es : List (ℕ × Segment)) (H0 : List Call) (v : Segment) → IsIndexed es None H0 → lookup (is_at (nat_cmp n)) es ≡ Some v → (S P : List Artifact) × IsSegment n v S P H0
segment_first n es H0 v indexed found = subst (λ (o : Option Segment). StandsAt n H0 o) found (indexed.at n (λ h. h))

-- the first section and its file
module _ (n least : ℕ) (es : List (ℕ × Segment)) (at : BeginsAt n es) (below : n < least) (H0 : List Call) (indexed : IsIndexed es None H0)
    (v : Segment) (found : lookup (is_at (nat_cmp n)) es ≡ Some v) (S P : List Artifact) (seg : IsSegment n v S P H0)
    (new : List (ℕ × Segment)) (is : new ≡ behind_first es) (absent : lookup (is_at (nat_cmp n)) new ≡ None) where
  others : (m : ℕ) → m ≢ n → lookup (is_at (nat_cmp m)) new ≡ lookup (is_at (nat_cmp m)) es
  others m other = ap (λ (l : List (ℕ × Segment)). lookup (is_at (nat_cmp m)) l) is ∙ others_found es n m at other

  stands_new : (m : ℕ) → m ≢ n → StandsAt m H0 (lookup (is_at (nat_cmp m)) new)
  stands_new m other = subst (λ (o : Option Segment). StandsAt m H0 o) (sym (others m other)) (indexed.at m (λ h. h))

  dropped_is : pruned_first 1 least (sections_at H0 es) ≡ sections_at H0 new
  dropped_is = first_sections (λ m. content m H0) es n least at below ∙ ap (λ (l : List (ℕ × Segment)). sections_at H0 l) (sym is)

  -- of the file that is removed an image is left
  image_here : (l : List Call) (x : Option (List ℕ)) (bytes : List ℕ) → x ≡ Some bytes → IsFront S P bytes → IsLeft (section_numbered n (sections_at H0 es)) x
  image_here l x bytes there front =
      let read = opened-front S P bytes seg.kept.synced_reads seg.kept.pending_reads front in
      let lists : section_numbered n (sections_at H0 es) ≡ Some (record { number = n; synced = S; pending = P }) =
      numbered-some (λ m. content m H0) n es v found ∙ ap (λ (k : Lists). Some (section_of (n, k))) (segment_lists n v S P H0 seg) in
      subst (λ (s : Option Section). IsLeft s x) (sym lists) (bytes, there, read.0, read.1)

  image_left : (l : List Call) → LeavesGone n S P l → Untouched n H0 l → LeavesPruned least (sections_at H0 es) None H0 l
  image_left l gone u = record {
    each = λ image may. elim (gone (image n) (may n)) [
      | inl none ↦ (
        1,
        λ m stays. elim (cases_eq m n) [
          | inl same ↦
              let nothing : section_numbered n (sections_at H0 new) ≡ None = numbered-none (λ k. content k H0) n new absent in
              let here : IsLeft (section_numbered n (pruned_first 1 least (sections_at H0 es))) (image n) =
              subst (λ (o : Option Section). IsLeft o (image n)) (sym (ap (λ (q : List Section). section_numbered n q) dropped_is ∙ nothing)) (none_left (image n) none) in
              subst (λ (k : ℕ). IsLeft (section_numbered k (pruned_first 1 least (sections_at H0 es))) (image k)) (sym same) here
          | inr other ↦
              let left : IsLeft (section_numbered m (sections_at H0 new)) (image m) =
              at_left m new H0 l (lookup (is_at (nat_cmp m)) new) refl (left_other n m H0 l (lookup (is_at (nat_cmp m)) new) u other (stands_new m other)) (image m) (may m) in
              subst (λ (q : List Section). IsLeft (section_numbered m q) (image m)) (sym dropped_is) left
        ],
        λ m leaves. absurd leaves,
      )
      | inr front ↦ (
        0,
        λ m stays.
            let left : IsLeft (section_numbered m (sections_at H0 es)) (image m) = elim (cases_eq m n) [
              | inl same ↦ subst (λ (k : ℕ). IsLeft (section_numbered k (sections_at H0 es)) (image k)) (sym same) (image_here l (image n) front.0 front.1 front.2)
              | inr other ↦ at_left m es H0 l (lookup (is_at (nat_cmp m)) es) refl (left_other n m H0 l (lookup (is_at (nat_cmp m)) es) u other (indexed.at m (λ h. h))) (image m) (may m)
            ] in
            subst (λ (q : List Section). IsLeft (section_numbered m q) (image m)) (sym (pruned_first-zero least (sections_at H0 es))) left,
        λ m leaves. absurd leaves,
      )
    ];
  }

  module _ (H : List Call) (h : AlwaysOf n (LeavesGone n S P) H0 H) where
    pub moments_dropped : Always (LeavesPruned least (sections_at H0 es) None H0) H0 H
    moments_dropped = always_all n (LeavesGone n S P) (LeavesPruned least (sections_at H0 es) None H0) H0 H image_left h

    pub sections_dropped : sections_at H new ≡ pruned_first 1 least (sections_at H0 es)
    sections_dropped = ap sections_of (read-none n (λ m. content m H0) (λ m. content m H) new (untouched n (LeavesGone n S P) H0 H h).content absent) ∙ sym dropped_is

    -- the section whose file may be back
    back_here : MayBeBack (record { number = n; synced = S; pending = P }) H
    back_here = λ x now. elim (now_of n (LeavesGone n S P) H0 H h x now) [
      | inl none ↦ inl (none_left x none)
      | inr front ↦ let read = opened-front S P front.0 seg.kept.synced_reads seg.kept.pending_reads front.2 in inr (front.0, front.1, read.0, read.1)
    ]

    pub leaving_dropped : IsIndexed new (Some n) H
    leaving_dropped = record {
      at = λ m stays. stands_other n m H0 H (lookup (is_at (nat_cmp m)) new) (untouched n (LeavesGone n S P) H0 H h) (λ same. stays (sym same)) (stands_new m (λ same. stays (sym same)));
      gone = λ m leaves. subst (λ (k : ℕ). lookup (is_at (nat_cmp k)) new ≡ None) leaves absent;
      back = λ m leaves. (record { number = n; synced = S; pending = P }, leaves, back_here);
    }

    pub indexed_dropped : IsAbsent n H → IsIndexed new None H
    indexed_dropped gone = record {
      at = λ m stays. elim (cases_eq m n) [
        | inl same ↦ subst (λ (k : ℕ). StandsAt k H (lookup (is_at (nat_cmp k)) new)) (sym same) (subst (λ (o : Option Segment). StandsAt n H o) (sym absent) gone)
        | inr other ↦ stands_other n m H0 H (lookup (is_at (nat_cmp m)) new) (untouched n (LeavesGone n S P) H0 H h) other (stands_new m other)
      ];
      gone = λ m leaves. absurd leaves;
      back = λ m leaves. absurd leaves;
    }

-- ---- sections that are dropped in two steps

pub pruned_first-more : (j k least : ℕ) (xs : List Section) → pruned_first j least (pruned_first k least xs) ≡ pruned_first (k + j) least xs
unfolding pruned_first
pruned_first-more j k least [] = refl
pruned_first-more j zero least (s ∷ rest) =
    ap (λ (xs : List Section). pruned_first j least xs) (pruned_first-zero least (s ∷ rest)) ∙ ap (λ (n : ℕ). pruned_first n least (s ∷ rest)) (let e : j ≡ 0 + j = omega arith in e)
pruned_first-more j (suc k) least (s ∷ rest) = elim (cases_lt s.number least) [
  | inl below ↦
      let more = pruned_first-more j k least rest in
      let e : suc k + j - 1 ≡ k + j = omega arith in
      grind (arith, common_steps, nat_tests)
  | inr above ↦
      let more = pruned_first-more j (suc k) least rest in
      grind (arith, common_steps, nat_tests)
]

-- ---- the moments of more prunes

pub pruned_on : (k least : ℕ) (s0 s1 : List Section) (H0 H1 l : List Call) → s1 ≡ pruned_first k least s0 → LeavesPruned least s1 None H1 l → LeavesPruned least s0 None H0 l
pruned_on k least s0 s1 H0 H1 l is left = record {
  each = λ image may.
      let e = left.each image may in (
        k + e.0,
        λ m stays. subst (λ (q : List Section). IsLeft (section_numbered m q) (image m)) (ap (λ (q : List Section). pruned_first e.0 least q) is ∙ pruned_first-more e.0 k least s0) (e.1 m stays),
        λ m leaves. absurd leaves,
      );
}

pub pruned_start : (least : ℕ) (es : List (ℕ × Segment)) (H : List Call) → IsIndexed es None H → Always (LeavesPruned least (sections_at H es) None H) H H
unfolding Each
pruned_start least es H indexed = record {
  made = [];
  goes_on = refl;
  each = record {
    each = λ image may. (
      0,
      λ m stays. subst (λ (q : List Section). IsLeft (section_numbered m q) (image m)) (sym (pruned_first-zero least (sections_at H es)))
          (at_left m es H H (lookup (is_at (nat_cmp m)) es) refl (left_now m H (lookup (is_at (nat_cmp m)) es) (indexed.at m stays)) (image m) (may m)),
      λ m leaves. absurd leaves,
    );
  };
}

above_next : (least : ℕ) (e : ℕ × Segment) (es : List (ℕ × Segment)) → IsStrictlySortedBy nat_cmp (keys_of (e ∷ es)) → least ≤ e.0 → HasNoneBelow least es
unfolding IsStrictlySortedBy
above_next least e [] sorted none = tt
above_next least e (f ∷ es) sorted none =
    let less : nat_cmp e.0 f.0 ≡ Less = sorted.0.0 in
    grind (arith, nat_tests)

-- no section is below the least number
pub none_below_in : (count least : ℕ) (F : ℕ → Option (List ℕ)) (es : List (ℕ × Segment)) → IsStrictlySortedBy nat_cmp (keys_of es) → HasNoneBelow least es → pruned_first count least (sections_in F es) ≡ sections_in F es
unfolding pruned_first sections_of read_entries
none_below_in count least F [] sorted none = refl
none_below_in count least F (e ∷ es) sorted none =
    let more = none_below_in count least F es (sorted_tail nat_cmp e.0 (keys_of es) sorted) (above_next least e es sorted none) in
    grind (arith, common_steps, nat_tests)

pub none_below : (count least : ℕ) (H : List Call) (es : List (ℕ × Segment)) → IsStrictlySortedBy nat_cmp (keys_of es) → HasNoneBelow least es → pruned_first count least (sections_at H es) ≡ sections_at H es
none_below count least H es sorted none = none_below_in count least (λ n. content n H) es sorted none

-- what a crash leaves of a journal is so of one under pruning
pub pruned_none : (least : ℕ) (s : List Section) (leaving : Option ℕ) (H0 l : List Call) → LeavesJournal s leaving H0 l → LeavesPruned least s leaving H0 l
pruned_none least s leaving H0 l left = record {
  each = λ image may. (
    0,
    λ m stays. subst (λ (q : List Section). IsLeft (section_numbered m q) (image m)) (sym (pruned_first-zero least s)) (left.each m (image m) stays (may m)),
    λ m leaves. elim (left.back m leaves (image m) (may m)) [ inl none ↦ inl none | inr before ↦ inr (refl, before) ],
  );
}

-- A section that is not there is not there among fewer.
numbered_fewer : (n count least : ℕ) (xs : List Section) → section_numbered n xs ≡ None → section_numbered n (pruned_first count least xs) ≡ None
unfolding section_numbered pruned_first
numbered_fewer n count least [] none = refl
numbered_fewer n count least (x ∷ xs) none =
    let fewer = numbered_fewer n (count - 1) least xs in
    let same = numbered_fewer n count least xs in
    grind (arith, common_steps, nat_tests)

-- The removal that was left over was finished before, so that no record is read in its file.
pub pruned_but : (least : ℕ) (s0 s1 : List Section) (leaving : Option ℕ) (H0 H1 l : List Call) → s1 ≡ s0 → ((n : ℕ) → IsLeaving leaving n → section_numbered n s0 ≡ None)
    → LeavesPruned least s1 None H1 l → LeavesPruned least s0 leaving H0 l
pruned_but least s0 s1 leaving H0 H1 l is gone left = record {
  each = λ image may.
      let e = left.each image may in
      let here : (m : ℕ) → IsLeft (section_numbered m (pruned_first e.0 least s0)) (image m) = λ m. subst (λ (q : List Section). IsLeft (section_numbered m (pruned_first e.0 least q)) (image m)) is (e.1 m (λ h. h)) in
      (e.0, λ m stays. here m, λ m leaves. inl (subst (λ (o : Option Section). IsLeft o (image m)) (numbered_fewer m e.0 least s0 (gone m leaves)) (here m)));
}

length-read : (F : ℕ → Option (List ℕ)) (es : List (ℕ × Segment)) → length (read_entries F es) ≡ length es
unfolding read_entries
length-read F [] = refl
length-read F (e ∷ es) = omega (arith, length-read F es)

pub all_pruned : (count least : ℕ) (H : List Call) (es : List (ℕ × Segment)) → length es ≤ count → pruned_first count least (sections_at H es) ≡ pruned least (sections_at H es)
all_pruned count least H es enough =
    pruned_first-all count least (sections_at H es) (omega (arith, enough, length-sections_of (read_entries (λ n. content n H) es), length-read (λ n. content n H) es))

pub pruned_or : {T E : Type 0} (r : Result T E) (least : ℕ) (s0 s1 s2 : List Section) (leaving : Option ℕ) (Named : ℕ → Type 0) (Also : E → ℕ → Type 0) → s1 ≡ s0
    → ((e : E) (d : ℕ) → Named d → Also e d)
    → MatchResult r (λ _. (leaving ≡ None) × (s2 ≡ pruned least s1)) (λ _. (d : ℕ) × (s2 ≡ pruned_first d least s1) × Named d)
    → MatchResult r (λ _. s2 ≡ pruned least s0) (λ e. (d : ℕ) × (s2 ≡ pruned_first d least s0) × Also e d)
pruned_or (Ok x) least s0 s1 s2 leaving Named Also is also h = h.1 ∙ ap (λ (q : List Section). pruned least q) is
pruned_or (Err e) least s0 s1 s2 leaving Named Also is also h = (h.0, h.1 ∙ ap (λ (q : List Section). pruned_first h.0 least q) is, also e h.0 h.2)

-- Where none below the least number is kept any more, all of these were dropped.
pub all_left : (i least : ℕ) (H0 H : List Call) (es0 es : List (ℕ × Segment)) → IsStrictlySortedBy nat_cmp (keys_of es) → HasNoneBelow least es
    → sections_at H es ≡ pruned_first i least (sections_at H0 es0) → sections_at H es ≡ pruned least (sections_at H0 es0)
all_left i least H0 H es0 es sorted none is =
    let j = length es0 in
    sym (none_below j least H es sorted none)
    ∙ ap (λ (q : List Section). pruned_first j least q) is
    ∙ pruned_first-more j i least (sections_at H0 es0)
    ∙ all_pruned (i + j) least H0 es0 (omega arith)

-- What is pruned is there no more.
pub numbered_pruned : (n least : ℕ) (xs : List Section) → n < least → section_numbered n (pruned least xs) ≡ None
unfolding section_numbered pruned
numbered_pruned n least [] below = refl
numbered_pruned n least (x ∷ xs) below = let more = numbered_pruned n least xs below in elim (cases_lt x.number least) [
  | inl less ↦ grind (arith, common_steps, nat_tests)
  | inr above ↦ grind (arith, common_steps, nat_tests)
]
