-- All sections are synced.
use Rattle.std.proofs.Common.{◌≡◌, ◌≢◌, ◌⊎◌, ℕ, Bool, true, cond, List, [], ◌∷◌, ◌++◌, Option, None, Some, refl, sym, ap, subst, ◌∙◌, inl, inr}
use Rattle.std.specs.Option.{option_map}
use Rattle.std.specs.List.Sorted.{IsStrictlySortedBy}
use Rattle.std.specs.Ordering.{nat_cmp}
use Rattle.std.specs.Map.{lookup, set_value, keys_of}
use Rattle.std.specs.BTreeMap.{is_at}
use Rattle.std.specs.Map.Calls.{RetainsPairs}
use Rattle.std.proofs.lemmas.Bool.{cases_eq}
use Rattle.std.proofs.lemmas.Map.Keys.{sorted_tail}
use Rattle.std.proofs.lemmas.Map.Steps.{set_value_same}
use Rattle.simplex_wire.specs.declared.artifact.Artifact.{Artifact}
use Rattle.simplex_journal.specs.Journal.{all_synced}
use Rattle.simplex_journal.specs.Memory.{Lists, sections_of}
use Rattle.simplex_journal.proofs.Entries.{synced_lists, all_synced-entries}
use Rattle.simplex_disk.specs.declared.segment.Segment.{Segment}
use Rattle.simplex_disk.specs.Calls.{Call, content}
use Rattle.simplex_disk.specs.Left.{Stands, LeavesFront}
use Rattle.simplex_disk.specs.Moments.{Always, AlwaysOf}
use Rattle.simplex_disk.specs.Segments.{IsSegment}
use Rattle.simplex_disk.specs.Index.{read_entries, sections_in, sections_at, StandsAt, IsIndexed, IsLeaving, LeavesJournal}
use Rattle.simplex_disk.specs.Syncing.{IsOpened, AreOpened, CountsSynced, AreCounted}
use Rattle.simplex_disk.proofs.Moments.{Untouched}
use Rattle.simplex_disk.proofs.Entries.{keys-read, lookup-read, lookup-read_none, none_behind, segment_lists}
use Rattle.simplex_disk.proofs.Each.{same_entries}
use Rattle.simplex_disk.proofs.Crashes.{some_same}
use Rattle.simplex_disk.proofs.Prunes.{first_found, other_found}
use Rattle.simplex_disk.proofs.Whole.{not_none, moments_there, indexed_there, same_there, goes_join}

-- ---- the gates, file by file

opened_other : (n m : ℕ) (v : Segment) (H0 H : List Call) → Untouched n H0 H → m ≢ n → IsOpened m v H0 → IsOpened m v H
opened_other n m v H0 H u other h =
    (h.0, h.1, record { stands = stands h.0 h.1 h.2.stands; kept = h.2.kept }, stands (h.0 ++ h.1) [] h.3)
  where
    stands : (S P : List Artifact) → Stands m S P H0 → Stands m S P H
    stands S P s = record { content = (s.content.0, u.content m other ∙ s.content.1, s.content.2); left = λ x now. s.left x (u.left m other x now) }

-- All but these entries are opened.
pub record OpenedBut (rest es : List (ℕ × Segment)) (H : List Call) : Type 0 where
  pub sorted : IsStrictlySortedBy nat_cmp (keys_of rest)
  pub there : (q : ℕ) (v : Segment) → lookup (is_at (nat_cmp q)) rest ≡ Some v → lookup (is_at (nat_cmp q)) es ≡ Some v
  pub opened : (q : ℕ) (v : Segment) → lookup (is_at (nat_cmp q)) es ≡ Some v → (lookup (is_at (nat_cmp q)) rest ≡ Some v) ⊎ IsOpened q v H

pub opened_none : (rest es : List (ℕ × Segment)) (H : List Call) → rest ≡ es → IsStrictlySortedBy nat_cmp (keys_of es) → OpenedBut rest es H
opened_none rest es H is sorted = subst (λ (l : List (ℕ × Segment)). OpenedBut l es H) (sym is) (record { sorted = sorted; there = λ q v h. h; opened = λ q v h. inl h })

-- the next entry is one of a section
pub next_there : (e : ℕ × Segment) (rest behind es : List (ℕ × Segment)) (H : List Call) → rest ≡ e ∷ behind → OpenedBut rest es H → lookup (is_at (nat_cmp e.0)) es ≡ Some e.1
next_there e rest behind es H is o = o.there e.0 e.1 (ap (λ (l : List (ℕ × Segment)). lookup (is_at (nat_cmp e.0)) l) is ∙ first_found e behind e.0 refl)

opened_more : (e : ℕ × Segment) (behind es : List (ℕ × Segment)) (H0 H : List Call) → OpenedBut (e ∷ behind) es H0 → Untouched e.0 H0 H → IsOpened e.0 e.1 H → OpenedBut behind es H
opened_more e behind es H0 H o u here = record {
  sorted = sorted_tail nat_cmp e.0 (keys_of behind) o.sorted;
  there = λ q v found. elim (cases_eq q e.0) [
    | inl same ↦ absurd (not_none _ v found (none_behind q e behind o.sorted same))
    | inr other ↦ o.there q v (other_found e behind e.0 q refl other ∙ found)
  ];
  opened = λ q v found. elim (cases_eq q e.0) [
    | inl same ↦
        let first : lookup (is_at (nat_cmp e.0)) es ≡ Some e.1 = o.there e.0 e.1 (first_found e behind e.0 refl) in
        let was : lookup (is_at (nat_cmp e.0)) es ≡ Some v = subst (λ (k : ℕ). lookup (is_at (nat_cmp k)) es ≡ Some v) same found in
        let v_is : e.1 ≡ v = some_same _ e.1 v first was in
        inr (subst (λ (k : ℕ). IsOpened k v H) (sym same) (subst (λ (w : Segment). IsOpened e.0 w H) v_is here))
    | inr other ↦ elim (o.opened q v found) [
      | inl waits ↦ inl (sym (other_found e behind e.0 q refl other) ∙ waits)
      | inr done ↦ inr (opened_other e.0 q v H0 H u other done)
    ]
  ];
}

pub opened_on : (e : ℕ × Segment) (rest behind es : List (ℕ × Segment)) (H0 H : List Call) → rest ≡ e ∷ behind → OpenedBut rest es H0 → Untouched e.0 H0 H → IsOpened e.0 e.1 H → OpenedBut behind es H
opened_on e rest behind es H0 H is o u here = opened_more e behind es H0 H (subst (λ (l : List (ℕ × Segment)). OpenedBut l es H0) is o) u here

pub opened_all : (rest es : List (ℕ × Segment)) (H : List Call) → rest ≡ [] → OpenedBut rest es H → AreOpened es H
opened_all rest es H none o = record {
  each = λ q v found. elim (o.opened q v found) [
    | inl waits ↦ absurd (not_none _ v waits (ap (λ (l : List (ℕ × Segment)). lookup (is_at (nat_cmp q)) l) none))
    | inr done ↦ done
  ];
}

-- one file more, whose gates were opened or not
module _ (n : ℕ) (v : Segment) (es : List (ℕ × Segment)) (leaving : Option ℕ) (H0 H1 H2 : List Call) (indexed : IsIndexed es leaving H1) (found : lookup (is_at (nat_cmp n)) es ≡ Some v)
    (S P : List Artifact) (seg : IsSegment n v S P H1) (h : AlwaysOf n (LeavesFront n S P) H1 H2) (now : Stands n S P H2) where
  here : IsSegment n v S P H2
  here = record { stands = now; kept = seg.kept }

  same_es : es ≡ set_value (is_at (nat_cmp n)) es v
  same_es = sym (set_value_same (is_at (nat_cmp n)) es v found)

  pub indexed_open : IsIndexed es leaving H2
  indexed_open = indexed_there n es leaving H1 indexed v found H2 S P seg h es v same_es S P here

  pub sections_open : IsStrictlySortedBy nat_cmp (keys_of es) → sections_at H1 es ≡ sections_at H0 es → sections_at H2 es ≡ sections_at H0 es
  sections_open sorted same = same_there n es leaving H1 indexed v found H2 S P seg h es v same_es sorted here ∙ same

  pub moments_open : Always (LeavesJournal (sections_at H0 es) leaving H0) H0 H1 → sections_at H1 es ≡ sections_at H0 es → Always (LeavesJournal (sections_at H0 es) leaving H0) H0 H2
  moments_open first same = goes_join es leaving leaving H0 H1 H2 (λ k leaves. leaves) indexed.gone first same (moments_there n es leaving H1 indexed v found H2 S P seg h)

  pub is_opened : Stands n (S ++ P) [] H2 → IsOpened n v H2
  is_opened all = (S, P, here, all)

-- ---- what is kept of the files, at the end

module _ (es new : List (ℕ × Segment)) (leaving : Option ℕ) (H : List Call) (counted : AreCounted es new) (opened : AreOpened es H) where
  -- an entry that counts as synced
  counted_at : (n : ℕ) (v : Segment) → lookup (is_at (nat_cmp n)) es ≡ Some v
      → (w : Segment) × (lookup (is_at (nat_cmp n)) new ≡ Some w) × (S P : List Artifact) × IsSegment n v S P H × IsSegment n w (S ++ P) [] H
  counted_at n v found =
      let c = counted.some n v found in
      let o = opened.each n v found in
      (c.0, c.1, o.0, o.1, o.2, record { stands = o.3; kept = c.2 o.0 o.1 o.2.kept })

  pub indexed_counted : IsIndexed es leaving H → IsIndexed new leaving H
  indexed_counted indexed = record { at = λ n stays. at n stays (lookup (is_at (nat_cmp n)) es) refl; gone = λ n leaves. counted.none n (indexed.gone n leaves); back = indexed.back }
    where
      at : (n : ℕ) → ¬ IsLeaving leaving n → (o : Option Segment) → lookup (is_at (nat_cmp n)) es ≡ o → StandsAt n H (lookup (is_at (nat_cmp n)) new)
      at n stays None is = subst (λ (o : Option Segment). StandsAt n H o) (is ∙ sym (counted.none n is)) (indexed.at n stays)
      at n stays (Some v) is = let c = counted_at n v is in subst (λ (o : Option Segment). StandsAt n H o) (sym c.1) (c.2 ++ c.3, [], c.5)

  pub sections_counted : IsStrictlySortedBy nat_cmp (keys_of es) → sections_at H new ≡ all_synced (sections_at H es)
  sections_counted sorted =
      let F : ℕ → Option (List ℕ) = λ n. content n H in
      ap sections_of (same_entries synced_lists (read_entries F es) (read_entries F new)
      (keys-read F new ∙ counted.keys ∙ sym (keys-read F es))
      (subst (λ (ks : List ℕ). IsStrictlySortedBy nat_cmp ks) (sym (keys-read F es)) sorted)
      (λ q. at q (lookup (is_at (nat_cmp q)) es) refl))
      ∙ all_synced-entries (read_entries F es)
    where
      at : (q : ℕ) (o : Option Segment) → lookup (is_at (nat_cmp q)) es ≡ o
          → lookup (is_at (nat_cmp q)) (read_entries (λ n. content n H) new) ≡ option_map synced_lists (lookup (is_at (nat_cmp q)) (read_entries (λ n. content n H) es))
      at q None is =
          lookup-read_none (λ n. content n H) q new (counted.none q is)
          ∙ sym (ap (λ (o : Option Lists). option_map synced_lists o) (lookup-read_none (λ n. content n H) q es is))
      at q (Some v) is =
          let c = counted_at q v is in
          lookup-read (λ n. content n H) q new c.0 c.1
          ∙ ap (λ (l : Lists). Some l) (segment_lists q c.0 (c.2 ++ c.3) [] H c.5 ∙ sym (ap synced_lists (segment_lists q v c.2 c.3 H c.4)))
          ∙ sym (ap (λ (o : Option Lists). option_map synced_lists o) (lookup-read (λ n. content n H) q es v is))

counted_more : (e : ℕ × Segment) (es : List (ℕ × Segment)) (w : Segment) (rest : List (ℕ × Segment)) → CountsSynced e.1 w → AreCounted es rest → AreCounted (e ∷ es) ((e.0, w) ∷ rest)
counted_more e es w rest counts h = record {
  keys = ap (λ (ks : List ℕ). e.0 ∷ ks) h.keys;
  none = λ n absent. elim (cases_eq n e.0) [
    | inl same ↦ absurd (not_none _ e.1 (first_found e es n (sym same)) absent)
    | inr other ↦ other_found (e.0, w) rest e.0 n refl other ∙ h.none n (sym (other_found e es e.0 n refl other) ∙ absent)
  ];
  some = λ n v found. elim (cases_eq n e.0) [
    | inl same ↦ (w, first_found (e.0, w) rest n (sym same), subst (λ (u : Segment). CountsSynced u w) (some_same _ e.1 v (first_found e es n (sym same)) found) counts)
    | inr other ↦
        let r = h.some n v (sym (other_found e es e.0 n refl other) ∙ found) in
        (r.0, other_found (e.0, w) rest e.0 n refl other ∙ r.1, r.2)
  ];
}

-- Each entry was written by a closure that counts it.
module _ {F : Type 0} (T : F → ℕ → Segment → Bool → Segment → F → Type 0) where
  pub counted_each : (f : F) → ((k : ℕ) (v : Segment) (b : Bool) (w : Segment) (f' : F) → T f k v b w f' → (b ≡ true) × CountsSynced v w × (f' ≡ f))
      → (es kept : List (ℕ × Segment)) → RetainsPairs T f es kept → AreCounted es kept
  counted_each f h [] kept r = subst (λ (l : List (ℕ × Segment)). AreCounted [] l) (sym r) (record { keys = refl; none = λ n is. refl; some = λ n v found. absurd cc })
  counted_each f h (e ∷ es) kept r =
      let a = h e.0 e.1 r.0 r.1 r.2 r.4 in
      let rest = counted_each f h es r.3 (subst (λ (u : F). RetainsPairs T u es r.3) a.2 r.5) in
      let is : kept ≡ (e.0, r.1) ∷ r.3 = r.6 ∙ ap (λ (b : Bool). cond b ((e.0, r.1) ∷ r.3) r.3) a.0 in
      subst (λ (l : List (ℕ × Segment)). AreCounted (e ∷ es) l) (sym is) (counted_more e es r.1 r.3 a.1 rest)

-- no section
pub synced_none : (F G : ℕ → Option (List ℕ)) (es : List (ℕ × Segment)) → es ≡ [] → sections_in G es ≡ all_synced (sections_in F es)
unfolding all_synced sections_of read_entries
synced_none F G es none = ap (λ (l : List (ℕ × Segment)). sections_in G l) none ∙ sym (ap (λ (l : List (ℕ × Segment)). all_synced (sections_in F l)) none)
