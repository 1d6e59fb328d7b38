-- One section after the other.
use Rattle.std.proofs.Common.{◌≡◌, ◌≢◌, ◌<◌, ◌≤◌, ◌+◌, ℕ, List, [], ◌∷◌, map, Option, None, Some, refl, sym, ap, subst, ◌∙◌, arith, inl, inr}
use Rattle.std.specs.Option.{option_map}
use Rattle.std.specs.List.{AllByRecursion}
use Rattle.std.specs.List.Sorted.{IsStrictlySortedBy}
use Rattle.std.specs.Ordering.{nat_cmp}
use Rattle.std.specs.Cmp.{unsigned_tied}
use Rattle.std.specs.declared.cmp.Ordering.TheVariants.{Less}
use Rattle.std.specs.Map.{lookup, set_value, keys_of}
use Rattle.std.specs.BTreeMap.{is_at}
use Rattle.std.proofs.lemmas.Bool.{cases_eq, cases_lt}
use Rattle.std.proofs.lemmas.Grind.{common_steps}
use Rattle.std.proofs.lemmas.Map.{keys-set_value}
use Rattle.simplex_journal.specs.Memory.{Lists}
use Rattle.simplex_disk.specs.declared.segment.Segment.{Segment}
use Rattle.simplex_disk.specs.Calls.{Call, content}
use Rattle.simplex_disk.specs.Segments.{lists_in}
use Rattle.simplex_disk.specs.Index.{read_entries}
use Rattle.simplex_disk.proofs.Lookups.{lookup-set_same, lookup-set_other}
use Rattle.simplex_disk.proofs.Entries.{keys-read}
use Rattle.simplex_disk.proofs.Moments.{Untouched}

-- the records of the section of this number
abbrev pub lists_of : List Call → List (ℕ × Segment) → ℕ → Option Lists
lists_of H es q = option_map (λ (s : Segment). lists_in (content q H) s) (lookup (is_at (nat_cmp q)) es)

-- The sections below a number were changed.
pub record Done (T : Lists → Lists) (bound : ℕ) (H0 H : List Call) (es0 es : List (ℕ × Segment)) : Type 0 where
  pub keys : keys_of es ≡ keys_of es0
  pub below : (q : ℕ) → q < bound → lists_of H es q ≡ option_map T (lists_of H0 es0 q)
  pub above : (q : ℕ) → bound ≤ q → lists_of H es q ≡ lists_of H0 es0 q

pub done_none : (T : Lists → Lists) (H0 H : List Call) (es : List (ℕ × Segment)) → ((n : ℕ) → content n H ≡ content n H0) → Done T 0 H0 H es es
done_none T H0 H es same = record {
  keys = refl;
  below = λ q lt. absurd (omega arith);
  above = λ q le. ap (λ (x : Option (List ℕ)). option_map (λ (s : Segment). lists_in x s) (lookup (is_at (nat_cmp q)) es)) (same q);
}

pub done_more : (T : Lists → Lists) (b n : ℕ) (H0 H1 H2 : List Call) (es0 es1 es2 : List (ℕ × Segment)) (v w : Segment) → Done T b H0 H1 es0 es1 → b ≤ n
    → ((q : ℕ) → b ≤ q → q < n → lookup (is_at (nat_cmp q)) es1 ≡ None) → lookup (is_at (nat_cmp n)) es1 ≡ Some v → es2 ≡ set_value (is_at (nat_cmp n)) es1 w
    → Untouched n H1 H2 → lists_in (content n H2) w ≡ T (lists_in (content n H1) v) → Done T (n + 1) H0 H2 es0 es2
done_more T b n H0 H1 H2 es0 es1 es2 v w d le between found is u changed = subst (λ (l : List (ℕ × Segment)). Done T (n + 1) H0 H2 es0 l) (sym is) (record {
  keys = keys-set_value (is_at (nat_cmp n)) es1 w ∙ d.keys;
  below = λ q lt. elim (cases_eq q n) [
    | inl same ↦ subst (λ (k : ℕ). lists_of H2 (set_value (is_at (nat_cmp n)) es1 w) k ≡ option_map T (lists_of H0 es0 k)) (sym same) here
    | inr other ↦ stays q other ∙ elim (cases_lt q b) [
      | inl less ↦ d.below q less
      | inr more ↦
          let none = between q more (omega (arith, lt, other)) in
          let now : lists_of H1 es1 q ≡ None = ap (λ (o : Option Segment). option_map (λ (s : Segment). lists_in (content q H1) s) o) none in
          let was : lists_of H0 es0 q ≡ None = sym (d.above q more) ∙ now in
          now ∙ sym (ap (λ (o : Option Lists). option_map T o) was)
    ]
  ];
  above = λ q more. stays q (λ same. absurd (omega (arith, more, same))) ∙ d.above q (omega (arith, more, le));
})
  where
    stays : (q : ℕ) → q ≢ n → lists_of H2 (set_value (is_at (nat_cmp n)) es1 w) q ≡ lists_of H1 es1 q
    stays q other =
        ap (λ (o : Option Segment). option_map (λ (s : Segment). lists_in (content q H2) s) o) (lookup-set_other n q es1 w other)
        ∙ ap (λ (x : Option (List ℕ)). option_map (λ (s : Segment). lists_in x s) (lookup (is_at (nat_cmp q)) es1)) (u.content q other)

    here : lists_of H2 (set_value (is_at (nat_cmp n)) es1 w) n ≡ option_map T (lists_of H0 es0 n)
    here =
        ap (λ (o : Option Segment). option_map (λ (s : Segment). lists_in (content n H2) s) o) (lookup-set_same n es1 v w found)
        ∙ ap (λ (x : Lists). Some x) changed
        ∙ sym (ap (λ (o : Option Segment). option_map T (option_map (λ (s : Segment). lists_in (content n H1) s) o)) found)
        ∙ ap (λ (o : Option Lists). option_map T o) (d.above n le)

-- ---- all were changed

lookup-read_map : (F : ℕ → Option (List ℕ)) (q : ℕ) (es : List (ℕ × Segment)) → lookup (is_at (nat_cmp q)) (read_entries F es) ≡ option_map (λ (s : Segment). lists_in (F q) s) (lookup (is_at (nat_cmp q)) es)
unfolding read_entries
lookup-read_map F q [] = refl
lookup-read_map F q (e ∷ es) = grind (arith, common_steps, unsigned_tied q e.0, lookup-read_map F q es)

above_none_in : {V : Type 0} (k : ℕ) (fs : List (ℕ × V)) → AllByRecursion (λ j. nat_cmp k j ≡ Less) (keys_of fs) → lookup (is_at (nat_cmp k)) fs ≡ None
above_none_in k [] h = refl
above_none_in k (f ∷ fs) h = rw h.0 (above_none_in k fs h.1)

-- Lists of entries are the same where they have the same at each number.
pub same_entries : (T : Lists → Lists) (L M : List (ℕ × Lists)) → keys_of M ≡ keys_of L → IsStrictlySortedBy nat_cmp (keys_of L)
    → ((q : ℕ) → lookup (is_at (nat_cmp q)) M ≡ option_map T (lookup (is_at (nat_cmp q)) L)) → M ≡ map (λ (e : ℕ × Lists). (e.0, T e.1)) L
unfolding IsStrictlySortedBy
same_entries T [] [] keys sorted each = refl
same_entries T [] (m ∷ ms) keys sorted each = absurd cc
same_entries T (l ∷ ls) [] keys sorted each = absurd cc
same_entries T (l ∷ ls) (m ∷ ms) keys sorted each =
    let first : m.0 ≡ l.0 = cc in
    let rest : keys_of ms ≡ keys_of ls = cc in
    let head : m.1 ≡ T l.1 = (let h = each l.0 in grind (arith, common_steps, unsigned_tied l.0 m.0, unsigned_tied l.0 l.0)) in
    let tails : (q : ℕ) → lookup (is_at (nat_cmp q)) ms ≡ option_map T (lookup (is_at (nat_cmp q)) ls) = λ q. elim (cases_eq q l.0) [
      | inl same ↦
          let a : lookup (is_at (nat_cmp q)) ms ≡ None =
          subst (λ (k : ℕ). lookup (is_at (nat_cmp k)) ms ≡ None) (sym same) (above_none_in l.0 ms (subst (λ (ks : List ℕ). AllByRecursion (λ j. nat_cmp l.0 j ≡ Less) ks) (sym rest) sorted.0)) in
          let b : lookup (is_at (nat_cmp q)) ls ≡ None = subst (λ (k : ℕ). lookup (is_at (nat_cmp k)) ls ≡ None) (sym same) (above_none_in l.0 ls sorted.0) in
          a ∙ sym (ap (λ (o : Option Lists). option_map T o) b)
      | inr other ↦ let h = each q in grind (arith, common_steps, unsigned_tied q l.0, unsigned_tied q m.0)
    ] in
    ap (λ (k : ℕ). (k, m.1) ∷ ms) first ∙ ap (λ (x : Lists). (l.0, x) ∷ ms) head ∙ ap (λ (r : List (ℕ × Lists)). (l.0, T l.1) ∷ r) (same_entries T ls ms rest sorted.1 tails)

pub done_all : (T : Lists → Lists) (b : ℕ) (H0 H : List Call) (es0 es : List (ℕ × Segment)) → Done T b H0 H es0 es → ((q : ℕ) → b ≤ q → lookup (is_at (nat_cmp q)) es ≡ None)
    → IsStrictlySortedBy nat_cmp (keys_of es0) → read_entries (λ n. content n H) es ≡ map (λ (e : ℕ × Lists). (e.0, T e.1)) (read_entries (λ n. content n H0) es0)
done_all T b H0 H es0 es d none sorted =
    same_entries T (read_entries (λ n. content n H0) es0) (read_entries (λ n. content n H) es)
    (keys-read (λ n. content n H) es ∙ d.keys ∙ sym (keys-read (λ n. content n H0) es0))
    (subst (λ (ks : List ℕ). IsStrictlySortedBy nat_cmp ks) (sym (keys-read (λ n. content n H0) es0)) sorted)
    (λ q. lookup-read_map (λ n. content n H) q es ∙ at q ∙ sym (ap (λ (o : Option Lists). option_map T o) (lookup-read_map (λ n. content n H0) q es0)))
  where
    at : (q : ℕ) → lists_of H es q ≡ option_map T (lists_of H0 es0 q)
    at q = elim (cases_lt q b) [
      | inl less ↦ d.below q less
      | inr more ↦
          let now : lists_of H es q ≡ None = ap (λ (o : Option Segment). option_map (λ (s : Segment). lists_in (content q H) s) o) (none q more) in
          let was : lists_of H0 es0 q ≡ None = sym (d.above q more) ∙ now in
          now ∙ sym (ap (λ (o : Option Lists). option_map T o) was)
    ]
