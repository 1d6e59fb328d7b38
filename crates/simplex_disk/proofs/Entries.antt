-- Entries, and what they are read as.
use Rattle.std.proofs.Common.{◌≡◌, ◌≢◌, ℕ, List, [], ◌∷◌, Option, None, Some, refl, sym, ap, subst, ◌∙◌, arith, inl, inr}
use Rattle.std.specs.List.{AllByRecursion}
use Rattle.std.specs.List.Sorted.{IsStrictlySortedBy}
use Rattle.std.specs.Ordering.{nat_cmp}
use Rattle.std.specs.Cmp.{unsigned_tied}
use Rattle.std.specs.Map.{lookup, set_value, keys_of}
use Rattle.std.specs.BTreeMap.{is_at, insert_entry}
use Rattle.std.specs.declared.cmp.Ordering.TheVariants.{Less}
use Rattle.std.proofs.lemmas.Bool.{cases_order, cases_eq}
use Rattle.std.proofs.lemmas.Bool.Decides.{nat_tests}
use Rattle.std.proofs.lemmas.Grind.{common_steps}
use Rattle.std.proofs.lemmas.Map.Keys.{sorted_tail}
use Rattle.simplex_wire.specs.declared.artifact.Artifact.{Artifact}
use Rattle.simplex_journal.specs.Journal.{Section}
use Rattle.simplex_journal.specs.Memory.{Lists, section_of, sections_of}
use Rattle.simplex_disk.specs.declared.segment.Segment.{Segment}
use Rattle.simplex_disk.specs.Calls.{Call, MayLeave, bytes_of, content}
use Rattle.simplex_disk.specs.Chain.{opened, opened_by, block}
use Rattle.simplex_wire.specs.Number.{number_from}
use Rattle.simplex_disk.specs.Left.{LeavesFront, IsClosed}
use Rattle.simplex_disk.specs.Segments.{IsSegment, lists_in}
use Rattle.simplex_disk.specs.Index.{read_entries, sections_in, sections_at, StandsAt, IsLeaving, IsIndexed, section_numbered, IsLeft, LeavesOld, LeavesJournal}
use Rattle.simplex_disk.proofs.Backs.{back_on}
use Rattle.simplex_disk.proofs.Chain.{opened-front}
use Rattle.simplex_disk.proofs.Chains.{closed_none}
use Rattle.simplex_disk.proofs.Moments.{Untouched}
use Rattle.simplex_disk.proofs.Segments.{lists_are}

-- ---- what the entries are read as

pub keys-read : (F : ℕ → Option (List ℕ)) (es : List (ℕ × Segment)) → keys_of (read_entries F es) ≡ keys_of es
unfolding read_entries
keys-read F [] = refl
keys-read F (e ∷ es) = ap (λ (l : List ℕ). e.0 ∷ l) (keys-read F es)

pub lookup-read : (F : ℕ → Option (List ℕ)) (n : ℕ) (es : List (ℕ × Segment)) (v : Segment) → lookup (is_at (nat_cmp n)) es ≡ Some v → lookup (is_at (nat_cmp n)) (read_entries F es) ≡ Some (lists_in (F n) v)
unfolding read_entries
lookup-read F n [] v h = cc
lookup-read F n (e ∷ es) v h = grind (arith, common_steps, unsigned_tied n e.0, lookup-read F n es v)

pub lookup-read_none : (F : ℕ → Option (List ℕ)) (n : ℕ) (es : List (ℕ × Segment)) → lookup (is_at (nat_cmp n)) es ≡ None → lookup (is_at (nat_cmp n)) (read_entries F es) ≡ None
unfolding read_entries
lookup-read_none F n [] h = refl
lookup-read_none F n (e ∷ es) h = grind (arith, common_steps, unsigned_tied n e.0, lookup-read_none F n es)

-- Files that read the same have the same records.
pub read-same : (F G : ℕ → Option (List ℕ)) (es : List (ℕ × Segment)) → ((m : ℕ) → G m ≡ F m) → read_entries G es ≡ read_entries F es
unfolding read_entries
read-same F G [] same = refl
read-same F G (e ∷ es) same =
    ap (λ (x : Option (List ℕ)). (e.0, lists_in x e.1) ∷ read_entries G es) (same e.0) ∙ ap (λ (l : List (ℕ × Lists)). (e.0, lists_in (F e.0) e.1) ∷ l) (read-same F G es same)

-- Where only a file of which nothing is kept was called, all is read as before.
pub read-none : (n : ℕ) (F G : ℕ → Option (List ℕ)) (es : List (ℕ × Segment)) → ((m : ℕ) → m ≢ n → G m ≡ F m) → lookup (is_at (nat_cmp n)) es ≡ None → read_entries G es ≡ read_entries F es
unfolding read_entries
read-none n F G [] u h = refl
read-none n F G (e ∷ es) u h =
    elim (cases_eq n e.0) [
      | inl same ↦ absurd (grind (arith, common_steps, unsigned_tied n e.0))
      | inr differs ↦
          let other : e.0 ≢ n = λ (q : e.0 ≡ n). differs (sym q) in
          let rest : lookup (is_at (nat_cmp n)) es ≡ None = grind (arith, common_steps, unsigned_tied n e.0) in
          let more = read-none n F G es u rest in
          ap (λ (x : Option (List ℕ)). (e.0, lists_in x e.1) ∷ read_entries G es) (u e.0 other) ∙ ap (λ (l : List (ℕ × Lists)). (e.0, lists_in (F e.0) e.1) ∷ l) more
    ]

above_none : (k : ℕ) (fs : List (ℕ × Segment)) → AllByRecursion (λ j. nat_cmp k j ≡ Less) (keys_of fs) → lookup (is_at (nat_cmp k)) fs ≡ None
above_none k [] h = refl
above_none k (f ∷ fs) h = rw h.0 (above_none k fs h.1)

pub none_behind : (k : ℕ) (f : ℕ × Segment) (fs : List (ℕ × Segment)) → IsStrictlySortedBy nat_cmp (keys_of (f ∷ fs)) → k ≡ f.0 → lookup (is_at (nat_cmp k)) fs ≡ None
unfolding IsStrictlySortedBy
none_behind k f fs s same = rw same (above_none f.0 fs s.0)

-- Where one file was called, and what is kept of it was changed.
pub read-set : (n : ℕ) (F G : ℕ → Option (List ℕ)) (es : List (ℕ × Segment)) (v w : Segment) → ((m : ℕ) → m ≢ n → G m ≡ F m) → IsStrictlySortedBy nat_cmp (keys_of es) → lookup (is_at (nat_cmp n)) es ≡ Some v
    → read_entries G (set_value (is_at (nat_cmp n)) es w) ≡ set_value (is_at (nat_cmp n)) (read_entries F es) (lists_in (G n) w)
unfolding read_entries
read-set n F G [] v w u sorted h = cc
read-set n F G (e ∷ es) v w u sorted h =
    elim (cases_eq n e.0) [
      | inl same ↦
          let behind = read-none n F G es u (none_behind n e es sorted same) in
          grind (arith, common_steps, unsigned_tied n e.0, behind)
      | inr differs ↦
          let other : e.0 ≢ n = λ (q : e.0 ≡ n). differs (sym q) in
          let rest : lookup (is_at (nat_cmp n)) es ≡ Some v = grind (arith, common_steps, unsigned_tied n e.0) in
          let here = u e.0 other in
          let more = read-set n F G es v w u (sorted_tail nat_cmp e.0 (keys_of es) sorted) rest in
          grind (arith, common_steps, unsigned_tied n e.0, here, more)
    ]

-- Where one file was made.
pub read-insert : (n : ℕ) (F G : ℕ → Option (List ℕ)) (es : List (ℕ × Segment)) (w : Segment) → ((m : ℕ) → m ≢ n → G m ≡ F m) → lookup (is_at (nat_cmp n)) es ≡ None
    → read_entries G (insert_entry nat_cmp es n w) ≡ insert_entry nat_cmp (read_entries F es) n (lists_in (G n) w)
unfolding read_entries
read-insert n F G [] w u h = refl
read-insert n F G (e ∷ es) w u h =
    let behind = read-none n F G (e ∷ es) u h in
    elim (cases_order n e.0) [
      | inl same ↦ absurd (grind (arith, common_steps, unsigned_tied n e.0))
      | inr (inl below) ↦ grind (arith, common_steps, nat_tests, behind)
      | inr (inr above) ↦
          let other : e.0 ≢ n = λ (q : e.0 ≡ n). omega arith in
          let rest : lookup (is_at (nat_cmp n)) es ≡ None = grind (arith, common_steps, unsigned_tied n e.0) in
          let here = u e.0 other in
          let more = read-insert n F G es w u rest in
          grind (arith, common_steps, nat_tests, here, more)
    ]

-- ---- sections by number

pub numbered-none : (F : ℕ → Option (List ℕ)) (n : ℕ) (es : List (ℕ × Segment)) → lookup (is_at (nat_cmp n)) es ≡ None → section_numbered n (sections_in F es) ≡ None
unfolding read_entries sections_of section_numbered
numbered-none F n [] h = refl
numbered-none F n (e ∷ es) h = grind (arith, common_steps, nat_tests, unsigned_tied n e.0, numbered-none F n es)

pub numbered-some : (F : ℕ → Option (List ℕ)) (n : ℕ) (es : List (ℕ × Segment)) (v : Segment) → lookup (is_at (nat_cmp n)) es ≡ Some v → section_numbered n (sections_in F es) ≡ Some (section_of (n, lists_in (F n) v))
unfolding read_entries sections_of section_numbered
numbered-some F n [] v h = cc
numbered-some F n (e ∷ es) v h = grind (arith, common_steps, nat_tests, unsigned_tied n e.0, numbered-some F n es v)

-- A section that is not there is kept nowhere.
pub numbered-none_back : (F : ℕ → Option (List ℕ)) (n : ℕ) (es : List (ℕ × Segment)) → section_numbered n (sections_in F es) ≡ None → lookup (is_at (nat_cmp n)) es ≡ None
numbered-none_back F n es none = by (lookup (is_at (nat_cmp n)) es) refl
  where
    by : (o : Option Segment) → lookup (is_at (nat_cmp n)) es ≡ o → o ≡ None
    by None is = refl
    by (Some v) is = let some = numbered-some F n es v is in absurd cc

-- ---- what a crash leaves

pub closed_opened : (c : List ℕ) → IsClosed c → opened c ≡ []
unfolding opened_by block number_from
closed_opened [] closed = refl
closed_opened (b ∷ []) closed = elim (cases_eq b 1) [
  | inl one ↦ grind (arith, nat_tests)
  | inr other ↦ grind (arith, nat_tests)
]
closed_opened (b ∷ c ∷ rest) (inl short) = absurd (omega (arith, short))
closed_opened (b ∷ c ∷ rest) (inr shut) =
    let zero_gate : b ≡ 0 = cc (shut.1) in
    grind (arith, nat_tests)

-- what is left of a file at a later moment
abbrev pub LeavesAt : ℕ → List Call → List Call → Option Segment → Type 0
LeavesAt n H0 H None = (x : Option (List ℕ)) → MayLeave n H x → IsClosed (bytes_of x)
LeavesAt n H0 H (Some segment) = (S P : List Artifact) × IsSegment n segment S P H0 × LeavesFront n S P H

-- the records of a segment
pub segment_lists : (n : ℕ) (s : Segment) (S P : List Artifact) (H : List Call) → IsSegment n s S P H → lists_in (content n H) s ≡ record { synced = S; pending = P }
segment_lists n s S P H is = lists_are s S P (content n H) is.stands.content.0 is.stands.content.1 is.stands.content.2 is.kept

pub at_left : (n : ℕ) (es : List (ℕ × Segment)) (H0 H : List Call) (o : Option Segment) → lookup (is_at (nat_cmp n)) es ≡ o → LeavesAt n H0 H o
    → (x : Option (List ℕ)) → MayLeave n H x → IsLeft (section_numbered n (sections_at H0 es)) x
at_left n es H0 H None is h x now = subst (λ (s : Option Section). IsLeft s x) (sym (numbered-none (λ m. content m H0) n es is)) (closed_opened (bytes_of x) (h x now))
at_left n es H0 H (Some segment) is h x now =
    let S = h.0 in
    let P = h.1 in
    let was = h.3 x now in
    let read = opened-front S P was.0 h.2.kept.synced_reads h.2.kept.pending_reads was.2 in
    let lists : section_numbered n (sections_at H0 es) ≡ Some (record { number = n; synced = S; pending = P }) =
    numbered-some (λ m. content m H0) n es segment is ∙ ap (λ (l : Lists). Some (section_of (n, l))) (segment_lists n segment S P H0 h.2) in
    subst (λ (s : Option Section). IsLeft s x) (sym lists) (was.0, was.1, read.0, read.1)

pub left_now : (n : ℕ) (H : List Call) (o : Option Segment) → StandsAt n H o → LeavesAt n H H o
left_now n H None h = λ x now. closed_none x (h.left x now)
left_now n H (Some segment) h = (h.0, h.1, h.2, h.2.stands.left)

pub left_other : (n m : ℕ) (H0 H : List Call) (o : Option Segment) → Untouched n H0 H → m ≢ n → StandsAt m H0 o → LeavesAt m H0 H o
left_other n m H0 H None u other h = λ x now. closed_none x (h.left x (u.left m other x now))
left_other n m H0 H (Some segment) u other h = (h.0, h.1, h.2, (λ x now. h.2.stands.left x (u.left m other x now)))

-- Where only one file was called, the others leave what they left.
pub LeavesJournal-one : (n : ℕ) (es : List (ℕ × Segment)) (leaving : Option ℕ) (H0 H : List Call) → IsIndexed es leaving H0 → Untouched n H0 H
    → (¬ IsLeaving leaving n → LeavesAt n H0 H (lookup (is_at (nat_cmp n)) es)) → (IsLeaving leaving n → LeavesOld n H0 H) → LeavesJournal (sections_at H0 es) leaving H0 H
LeavesJournal-one n es leaving H0 H indexed u h old = record {
  each = λ m x stays now. elim (cases_eq m n) [
    | inl same ↦
        let here : ¬ IsLeaving leaving m → LeavesAt m H0 H (lookup (is_at (nat_cmp m)) es) =
        subst (λ (k : ℕ). ¬ IsLeaving leaving k → LeavesAt k H0 H (lookup (is_at (nat_cmp k)) es)) (sym same) h in
        at_left m es H0 H _ refl (here stays) x now
    | inr other ↦ at_left m es H0 H _ refl (left_other n m H0 H _ u other (indexed.at m stays)) x now
  ];
  back = λ m leaves x now. elim (cases_eq m n) [
    | inl same ↦ subst (λ (k : ℕ). IsLeaving leaving k → LeavesOld k H0 H) (sym same) old leaves x now
    | inr other ↦ inr (u.left m other x now)
  ];
}

pub LeavesJournal-now : (es : List (ℕ × Segment)) (leaving : Option ℕ) (H : List Call) → IsIndexed es leaving H → LeavesJournal (sections_at H es) leaving H H
LeavesJournal-now es leaving H indexed = record { each = λ m x stays now. at_left m es H H _ refl (left_now m H _ (indexed.at m stays)) x now; back = λ m leaves x now. inr now }

-- ---- what is kept, at another moment

pub stands_other : (n m : ℕ) (H0 H : List Call) (o : Option Segment) → Untouched n H0 H → m ≢ n → StandsAt m H0 o → StandsAt m H o
stands_other n m H0 H None u other h = record {
  content = u.content m other ∙ h.content;
  left = λ x now. h.left x (u.left m other x now);
}
stands_other n m H0 H (Some segment) u other h = (
  h.0,
  h.1,
  record {
    stands = record {
      content = (h.2.stands.content.0, u.content m other ∙ h.2.stands.content.1, h.2.stands.content.2);
      left = λ x now. h.2.stands.left x (u.left m other x now);
    };
    kept = h.2.kept;
  },
)

-- Only one file was called, of which what is kept changed. If it was leaving before, it may be no more.
pub IsIndexed-to : (n : ℕ) (es new : List (ℕ × Segment)) (was now : Option ℕ) (H0 H : List Call) → IsIndexed es was H0 → Untouched n H0 H
    → ((m : ℕ) → m ≢ n → lookup (is_at (nat_cmp m)) new ≡ lookup (is_at (nat_cmp m)) es) → (¬ IsLeaving now n → StandsAt n H (lookup (is_at (nat_cmp n)) new))
    → (IsLeaving now n → lookup (is_at (nat_cmp n)) new ≡ None) → ((m : ℕ) → m ≢ n → IsLeaving was m → IsLeaving now m) → ((m : ℕ) → m ≢ n → IsLeaving now m → IsLeaving was m)
    → (IsLeaving now n → LeavesOld n H0 H × IsLeaving was n) → IsIndexed new now H
IsIndexed-to n es new was now H0 H indexed u others here out more less old = record {
  at = λ m stays. elim (cases_eq m n) [
    | inl same ↦
        subst (λ (k : ℕ). ¬ IsLeaving now k → StandsAt k H (lookup (is_at (nat_cmp k)) new)) (sym same) here stays
    | inr other ↦ subst (λ (o : Option Segment). StandsAt m H o) (sym (others m other)) (stands_other n m H0 H _ u other (indexed.at m (λ leaves. stays (more m other leaves))))
  ];
  gone = λ m leaves. elim (cases_eq m n) [
    | inl same ↦ subst (λ (k : ℕ). IsLeaving now k → lookup (is_at (nat_cmp k)) new ≡ None) (sym same) out leaves
    | inr other ↦ others m other ∙ indexed.gone m (less m other leaves)
  ];
  back = λ m leaves. elim (cases_eq m n) [
    | inl same ↦
        let here = old (subst (λ (k : ℕ). IsLeaving now k) same leaves) in
        let s = indexed.back n here.1 in
        (s.0, s.1 ∙ sym same, back_on s.0 n H0 H s.1 here.0 s.2)
    | inr other ↦
        let s = indexed.back m (less m other leaves) in
        (s.0, s.1, back_on s.0 m H0 H s.1 (λ x may. inr (u.left m other x may)) s.2)
  ];
}
