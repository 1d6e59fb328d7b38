-- What a call of one file makes of the whole.
use Rattle.std.proofs.Common.{◌≡◌, ◌≢◌, ◌⊎◌, ℕ, List, [], ◌∷◌, ◌++◌, Option, None, Some, Result, Ok, Err, refl, sym, ap, subst, ◌∙◌, inl, inr}
use Rattle.std.specs.Result.{OnOk, OnErr}
use Rattle.std.specs.List.Sorted.{IsStrictlySortedBy}
use Rattle.std.specs.Ordering.{nat_cmp}
use Rattle.std.specs.Map.{lookup, set_value, keys_of}
use Rattle.std.specs.BTreeMap.{is_at, insert_entry}
use Rattle.std.proofs.lemmas.Bool.{cases_eq}
use Rattle.std.proofs.lemmas.Map.Steps.{set_value_same}
use Rattle.simplex_wire.specs.declared.artifact.Artifact.{Artifact}
use Rattle.simplex_journal.specs.Journal.{Section, appended, synced_at}
use Rattle.simplex_journal.specs.Memory.{Lists, sections_of}
use Rattle.simplex_journal.proofs.Entries.{appended_lists, synced_lists, appended-some, appended-none, synced_at-some, synced_at-none}
use Rattle.simplex_disk.specs.declared.segment.Segment.{Segment}
use Rattle.simplex_disk.specs.Calls.{Call, Sync, MayLeave, bytes_of, content}
use Rattle.simplex_disk.specs.Left.{IsAbsent, IsShut, LeavesClosed, LeavesFront}
use Rattle.simplex_disk.specs.Moments.{Each, Always, AlwaysOf, Then}
use Rattle.simplex_disk.specs.Segments.{IsSegment, lists_in}
use Rattle.simplex_disk.specs.Goes.{Changes, LeavesNoMore}
use Rattle.simplex_disk.specs.Index.{read_entries, sections_at, StandsAt, IsIndexed, IsLeaving, LeavesJournal, IsLeft, section_numbered}
use Rattle.simplex_disk.proofs.Lookups.{lookup-set_same, lookup-set_other, lookup-insert_same, lookup-insert_other}
use Rattle.simplex_disk.proofs.Moments.{Untouched, always_all, untouched, none_of, always_now, always_join, always_weaker}
use Rattle.simplex_disk.proofs.Steps.{sync_so_far}
use Rattle.simplex_disk.proofs.Chains.{IsAbsent-sync, IsAbsent-shut}
use Rattle.simplex_disk.proofs.Entries.{keys-read, lookup-read, lookup-read_none, read-none, read-set, read-insert, LeavesAt, LeavesJournal-one, LeavesJournal-now, IsIndexed-to, numbered-none, segment_lists, stands_other, closed_opened}
use Rattle.simplex_disk.proofs.Backs.{old_sync}

pub not_none : {V : Type 0} (o : Option V) (v : V) → o ≡ Some v → o ≡ None → ⊥
not_none {V} o v some none = let P : Option V → Type 0 = shows in subst P (sym some ∙ none) tt
  where
    shows : Option V → Type 0
    shows None = ⊥
    shows (Some v) = Unit {0}

-- The same file is leaving as before.
pub IsIndexed-but : (n : ℕ) (es new : List (ℕ × Segment)) (leaving : Option ℕ) (H0 H : List Call) → IsIndexed es leaving H0 → Untouched n H0 H → ¬ IsLeaving leaving n
    → ((m : ℕ) → m ≢ n → lookup (is_at (nat_cmp m)) new ≡ lookup (is_at (nat_cmp m)) es) → StandsAt n H (lookup (is_at (nat_cmp n)) new) → IsIndexed new leaving H
IsIndexed-but n es new leaving H0 H indexed u stays others here =
    IsIndexed-to n es new leaving leaving H0 H indexed u others (λ _. here) (λ leaves. absurd (stays leaves)) (λ m other leaves. leaves) (λ m other leaves. leaves) (λ leaves. absurd (stays leaves))

module _ (n : ℕ) (es : List (ℕ × Segment)) (leaving : Option ℕ) (H0 : List Call) (indexed : IsIndexed es leaving H0) where
  -- nothing was called
  pub moments_no : Always (LeavesJournal (sections_at H0 es) leaving H0) H0 H0
  unfolding Each
  moments_no = record { made = []; goes_on = refl; each = LeavesJournal-now es leaving H0 indexed }

  -- a sync of a file of which nothing is kept
  pub sync_absent : {T E : Type 0} → lookup (is_at (nat_cmp n)) es ≡ None → MayLeave n H0 (content n H0) → (was : List (ℕ × Segment)) → was ≡ es → (r : Result T E) (Old New : List Call → Type 0) → Old H0
      → OnOk r ((calls : List Call) → Old calls → New (Sync n ∷ calls)) → OnErr r ((calls : List Call) → Old calls → New calls)
      → Then New (Always (LeavesJournal (sections_at H0 es) leaving H0) H0) (λ now. IsIndexed was leaving now × Changes r (synced_at n) (sections_at H0 es) (sections_at now was))
  unfolding Each
  sync_absent none may was same (Ok x) Old New st ok err =
      let H = Sync n ∷ H0 in
      let h = sync_so_far n (λ l. Unit {0}) H0 H0 (none_of n (λ l. Unit {0}) H0 tt) tt in
      let u = untouched n (λ l. Unit {0}) H0 H h in
      let absent : ¬ IsLeaving leaving n → IsAbsent n H = λ stays. IsAbsent-sync n H0 (subst (λ (o : Option Segment). StandsAt n H0 o) none (indexed.at n stays)) in
      let now : IsIndexed es leaving H =
      IsIndexed-to n es es leaving leaving H0 H indexed u (λ m other. refl) (λ stays. subst (λ (o : Option Segment). StandsAt n H o) (sym none) (absent stays)) (λ leaves. none) (λ m other leaves. leaves) (λ m other leaves. leaves) (λ leaves. (old_sync n H0 may, leaves)) in
      let read : sections_at H es ≡ sections_at H0 es = ap sections_of (read-none n (λ m. content m H0) (λ m. content m H) es u.content none) in
      record {
        now = H;
        stands = ok H0 st;
        held = record {
          made = Sync n ∷ [];
          goes_on = refl;
          each = (
            LeavesJournal-one n es leaving H0 H indexed u (λ stays. subst (λ (o : Option Segment). LeavesAt n H0 H o) (sym none) (IsAbsent-shut n H (absent stays)).left) (λ leaves. old_sync n H0 may),
            LeavesJournal-now es leaving H0 indexed,
          );
        };
        holds = (
          subst (λ (l : List (ℕ × Segment)). IsIndexed l leaving H) (sym same) now,
          ap (λ (l : List (ℕ × Segment)). sections_at H l) same ∙ read ∙ sym (synced_at-none n (read_entries (λ m. content m H0) es) (lookup-read_none (λ m. content m H0) n es none)),
        );
      }
  sync_absent none may was same (Err e) Old New st ok err = record {
    now = H0;
    stands = err H0 st;
    held = moments_no;
    holds = (subst (λ (l : List (ℕ × Segment)). IsIndexed l leaving H0) (sym same) indexed, ap (λ (l : List (ℕ × Segment)). sections_at H0 l) same);
  }

  -- ---- where nothing is kept of the file

  module _ (stays : ¬ IsLeaving leaving n) (none : lookup (is_at (nat_cmp n)) es ≡ None) where
    pub shut_of : IsShut n H0
    shut_of = IsAbsent-shut n H0 (subst (λ (o : Option Segment). StandsAt n H0 o) none (indexed.at n stays))

    module _ (H : List Call) (h : AlwaysOf n (LeavesClosed n) H0 H) where
      pub moments_new : Always (LeavesJournal (sections_at H0 es) leaving H0) H0 H
      moments_new = always_all n (LeavesClosed n) (LeavesJournal (sections_at H0 es) leaving H0) H0 H
          (λ l closed u. LeavesJournal-one n es leaving H0 l indexed u (λ _. subst (λ (o : Option Segment). LeavesAt n H0 l o) (sym none) closed) (λ leaves. absurd (stays leaves))) h

      pub same_none : sections_at H es ≡ sections_at H0 es
      same_none = ap sections_of (read-none n (λ m. content m H0) (λ m. content m H) es (untouched n (LeavesClosed n) H0 H h).content none)

      module _ (new : List (ℕ × Segment)) (w : Segment) (is : new ≡ insert_entry nat_cmp es n w) where
        -- it is made, with some records
        pub indexed_new : (S P : List Artifact) → IsSegment n w S P H → IsIndexed new leaving H
        indexed_new S P seg = subst (λ (l : List (ℕ × Segment)). IsIndexed l leaving H) (sym is)
            (IsIndexed-but n es (insert_entry nat_cmp es n w) leaving H0 H indexed (untouched n (LeavesClosed n) H0 H h) stays (λ m other. lookup-insert_other n m es w other)
            (subst (λ (o : Option Segment). StandsAt n H o) (sym (lookup-insert_same n es w)) (S, P, seg)))

        pub appended_new : (a : Artifact) → IsSegment n w [] (a ∷ []) H → sections_at H new ≡ appended n a (sections_at H0 es)
        appended_new a seg =
            ap (λ (l : List (ℕ × Segment)). sections_at H l) is
            ∙ ap sections_of (read-insert n (λ m. content m H0) (λ m. content m H) es w (untouched n (LeavesClosed n) H0 H h).content none)
            ∙ ap (λ (l : Lists). sections_of (insert_entry nat_cmp (read_entries (λ m. content m H0) es) n l)) (segment_lists n w [] (a ∷ []) H seg)
            ∙ appended-none n a (read_entries (λ m. content m H0) es) (lookup-read_none (λ m. content m H0) n es none)

  -- ---- where the file is one of a section

  module _ (v : Segment) (found : lookup (is_at (nat_cmp n)) es ≡ Some v) where
    pub stays_of : ¬ IsLeaving leaving n
    stays_of = λ leaves. not_none _ v found (indexed.gone n leaves)

    pub segment_of : (S P : List Artifact) × IsSegment n v S P H0
    segment_of = subst (λ (o : Option Segment). StandsAt n H0 o) found (indexed.at n stays_of)

    module _ (H : List Call) (S P : List Artifact) (seg : IsSegment n v S P H0) (h : AlwaysOf n (LeavesFront n S P) H0 H) where
      pub moments_there : Always (LeavesJournal (sections_at H0 es) leaving H0) H0 H
      moments_there = always_all n (LeavesFront n S P) (LeavesJournal (sections_at H0 es) leaving H0) H0 H
          (λ l left u. LeavesJournal-one n es leaving H0 l indexed u (λ _. subst (λ (o : Option Segment). LeavesAt n H0 l o) (sym found) (S, P, seg, left)) (λ leaves. absurd (stays_of leaves))) h

      module _ (new : List (ℕ × Segment)) (w : Segment) (is : new ≡ set_value (is_at (nat_cmp n)) es w) where
        pub indexed_there : (S' P' : List Artifact) → IsSegment n w S' P' H → IsIndexed new leaving H
        indexed_there S' P' now = subst (λ (l : List (ℕ × Segment)). IsIndexed l leaving H) (sym is)
            (IsIndexed-but n es (set_value (is_at (nat_cmp n)) es w) leaving H0 H indexed (untouched n (LeavesFront n S P) H0 H h) stays_of (λ m other. lookup-set_other n m es w other)
            (subst (λ (o : Option Segment). StandsAt n H o) (sym (lookup-set_same n es v w found)) (S', P', now)))

        module _ (sorted : IsStrictlySortedBy nat_cmp (keys_of es)) where
          sections_there : (S' P' : List Artifact) → IsSegment n w S' P' H
              → sections_at H new ≡ sections_of (set_value (is_at (nat_cmp n)) (read_entries (λ m. content m H0) es) (record { synced = S'; pending = P' }))
          sections_there S' P' now =
              ap (λ (l : List (ℕ × Segment)). sections_at H l) is
              ∙ ap sections_of (read-set n (λ m. content m H0) (λ m. content m H) es v w (untouched n (LeavesFront n S P) H0 H h).content sorted found)
              ∙ ap (λ (l : Lists). sections_of (set_value (is_at (nat_cmp n)) (read_entries (λ m. content m H0) es) l)) (segment_lists n w S' P' H now)

          pub appended_there : (a : Artifact) → IsSegment n w S (P ++ a ∷ []) H → sections_at H new ≡ appended n a (sections_at H0 es)
          appended_there a now =
              sections_there S (P ++ a ∷ []) now
              ∙ ap (λ (l : Lists). sections_of (set_value (is_at (nat_cmp n)) (read_entries (λ m. content m H0) es) (appended_lists a l))) (sym (segment_lists n v S P H0 seg))
              ∙ appended-some n a (read_entries (λ m. content m H0) es) (lists_in (content n H0) v) (subst (λ (l : List ℕ). IsStrictlySortedBy nat_cmp l) (sym (keys-read (λ m. content m H0) es)) sorted) (lookup-read (λ m. content m H0) n es v found)

          pub synced_there : IsSegment n w (S ++ P) [] H → sections_at H new ≡ synced_at n (sections_at H0 es)
          synced_there now =
              sections_there (S ++ P) [] now
              ∙ ap (λ (l : Lists). sections_of (set_value (is_at (nat_cmp n)) (read_entries (λ m. content m H0) es) (synced_lists l))) (sym (segment_lists n v S P H0 seg))
              ∙ synced_at-some n (read_entries (λ m. content m H0) es) (lists_in (content n H0) v) (lookup-read (λ m. content m H0) n es v found)

          pub same_there : IsSegment n w S P H → sections_at H new ≡ sections_at H0 es
          same_there now =
              sections_there S P now
              ∙ ap (λ (l : Lists). sections_of (set_value (is_at (nat_cmp n)) (read_entries (λ m. content m H0) es) l)) (sym (segment_lists n v S P H0 seg))
              ∙ ap sections_of (set_value_same (is_at (nat_cmp n)) (read_entries (λ m. content m H0) es) (lists_in (content n H0) v) (lookup-read (λ m. content m H0) n es v found))

          -- a record was appended, or not
          pub appended_or : {T E : Type 0} (r : Result T E) (a : Artifact) → OnOk r (IsSegment n w S (P ++ a ∷ []) H) → OnErr r (IsSegment n w S P H)
              → IsIndexed new leaving H × Changes r (appended n a) (sections_at H0 es) (sections_at H new)
          appended_or (Ok x) a ok err = (indexed_there S (P ++ a ∷ []) ok, appended_there a ok)
          appended_or (Err e) a ok err = (indexed_there S P err, same_there err)

-- The file of a section was made in part: a later call removes it.
pub indexed_making : (n : ℕ) (es : List (ℕ × Segment)) (H0 : List Call) → IsIndexed es None H0 → lookup (is_at (nat_cmp n)) es ≡ None
    → (H : List Call) → AlwaysOf n (LeavesClosed n) H0 H → IsShut n H → IsIndexed es (Some n) H
indexed_making n es H0 indexed none H h now = record {
  at = λ m stays. stands_other n m H0 H (lookup (is_at (nat_cmp m)) es) (untouched n (LeavesClosed n) H0 H h) (λ same. stays (sym same)) (indexed.at m (λ leaves. leaves));
  gone = λ m leaves. subst (λ (k : ℕ). lookup (is_at (nat_cmp k)) es ≡ None) leaves none;
  back = λ m leaves. (record { number = n; synced = []; pending = [] }, leaves, λ x may. inl (closed_opened (bytes_of x) (now.left x may)));
}

leaves_or : (leaving : Option ℕ) (n : ℕ) → IsLeaving leaving n ⊎ ¬ IsLeaving leaving n
leaves_or None n = inr (λ h. h)
leaves_or (Some m) n = elim (cases_eq m n) [ inl same ↦ inl same | inr other ↦ inr other ]

-- The moments of two parts, of which the first only let a file be no longer leaving.
module _ (es : List (ℕ × Segment)) (l0 l1 : Option ℕ) (H0 H1 H2 : List Call) (less : LeavesNoMore l0 l1) (gone : (n : ℕ) → IsLeaving l0 n → lookup (is_at (nat_cmp n)) es ≡ None)
    (first : Always (LeavesJournal (sections_at H0 es) l0 H0) H0 H1) (same : sections_at H1 es ≡ sections_at H0 es) where
  -- what was left by the second part, from before the first
  join_left : (l : List Call) → LeavesJournal (sections_at H1 es) l1 H1 l → LeavesJournal (sections_at H0 es) l0 H0 l
  join_left l left = record {
    each = λ n x stays now. subst (λ (s : List Section). IsLeft (section_numbered n s) x) same (left.each n x (λ leaves. stays (less n leaves)) now);
    back = λ n leaves x now. elim (leaves_or l1 n) [
      | inl still ↦ elim (left.back n still x now) [
        | inl none ↦ inl none
        | inr before ↦ (always_now _ H0 H1 first).back n leaves x before
      ]
      | inr stays ↦ inl (subst (λ (o : Option Section). IsLeft o x) (numbered-none (λ m. content m H1) n es (gone n leaves)) (left.each n x stays now))
    ];
  }

  pub goes_join : Always (LeavesJournal (sections_at H1 es) l1 H1) H1 H2 → Always (LeavesJournal (sections_at H0 es) l0 H0) H0 H2
  goes_join second =
      let P = LeavesJournal (sections_at H0 es) l0 H0 in
      always_join P H0 H1 H2 first (always_weaker (LeavesJournal (sections_at H1 es) l1 H1) P join_left H1 H2 second)
