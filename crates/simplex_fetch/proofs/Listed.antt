-- Views that pass a test, as a list.
use Rattle.std.proofs.Common.{◌≡◌, ◌<◌, ℕ, Bool, true, false, cond, refl, sym, ap, ◌∙◌, List, [], ◌∷◌, Option, Some, None, inl, inr, arith}
use Rattle.std.proofs.lemmas.Grind.{common_steps}
use Rattle.std.proofs.lemmas.Bool.{cases_eq}
use Rattle.std.proofs.lemmas.Bool.Decides.{nat_tests}
use Rattle.std.proofs.lemmas.Cmp.{nat_cmp_total}
use Rattle.std.proofs.lemmas.Map.Lookups.{btree_set_from_contains, exact_unsigned}
use Rattle.std.specs.declared.cmp.Ordering.TheVariants.{Less}
use Rattle.std.specs.Ordering.{nat_cmp}
use Rattle.std.specs.Cmp.{unsigned_tied}
use Rattle.std.specs.BTreeMap.{is_at}
use Rattle.std.specs.List.{AllByRecursion, list_any}
use Rattle.std.specs.List.Sorted.{IsStrictlySortedBy}
use Rattle.model_resolver.specs.declared.entry.Entry.{Entry}
use Rattle.model_resolver.specs.Views.{entry_at, views_where}
use Rattle.simplex_fetch.proofs.Entries.{Rising, Above, above_head, tail_rises, entry_at-above}

-- whether the view is there, and passes the test
abbrev pub passes_at : (ℕ → Entry → Bool) → ℕ → Option Entry → Bool
passes_at test view None = false
passes_at test view (Some entry) = test view entry

-- the list has the views that pass
pub where-member : (test : ℕ → Entry → Bool) (es : List (ℕ × Entry)) (q : ℕ) → Rising es
    → list_any (is_at (nat_cmp q)) (views_where test es) ≡ passes_at test q (entry_at es q)
unfolding views_where entry_at
where-member test [] q s = refl
where-member test (x ∷ es) q s =
    let rest = where-member test es q (tail_rises x es s) in
    let none = entry_at-above x.0 es (above_head x es s) in
    elim (cases_eq q x.0) [
      | inl same ↦
          let gone : entry_at es q ≡ None = rw same none in
          let over : list_any (is_at (nat_cmp q)) (views_where test es) ≡ false = rest ∙ rw gone refl in
          let is : test q x.1 ≡ test x.0 x.1 = ap (λ n. test n x.1) same in
          grind (arith, common_steps, nat_tests, unsigned_tied q x.0)
      | inr apart ↦ grind (arith, common_steps, nat_tests, unsigned_tied q x.0)
    ]

-- they are above what all are above
pub where-above : (v : ℕ) (test : ℕ → Entry → Bool) (es : List (ℕ × Entry)) → Above v es → AllByRecursion (λ y. nat_cmp v y ≡ Less) (views_where test es)
unfolding views_where
where-above v test [] h = tt
where-above v test (x ∷ es) h =
    let rest = where-above v test es h.1 in
    let here : nat_cmp v x.0 ≡ Less = (let less : v < x.0 = h.0 in grind (arith, nat_tests)) in
    elim (test x.0 x.1) as (λ b. AllByRecursion (λ y. nat_cmp v y ≡ Less) (cond b (x.0 ∷ views_where test es) (views_where test es))) [
      | true ↦ (here, rest)
      | false ↦ rest
    ]

-- they rise
pub where-rising : (test : ℕ → Entry → Bool) (es : List (ℕ × Entry)) → Rising es → IsStrictlySortedBy nat_cmp (views_where test es)
unfolding views_where IsStrictlySortedBy
where-rising test [] s = tt
where-rising test (x ∷ es) s =
    let rest = where-rising test es (tail_rises x es s) in
    let high = where-above x.0 test es (above_head x es s) in
    elim (test x.0 x.1) as (λ b. IsStrictlySortedBy nat_cmp (cond b (x.0 ∷ views_where test es) (views_where test es))) [
      | true ↦ (high, rest)
      | false ↦ rest
    ]

-- a rising list that has the same views is this list
pub where-is : (test : ℕ → Entry → Bool) (es : List (ℕ × Entry)) (ks : List ℕ) → Rising es → IsStrictlySortedBy nat_cmp ks
    → ((q : ℕ) → list_any (is_at (nat_cmp q)) ks ≡ passes_at test q (entry_at es q)) → ks ≡ views_where test es
where-is test es ks s rises has =
    btree_set_from_contains nat_cmp_total (record { keys = ks }) (record { keys = views_where test es }) rises (where-rising test es s)
    (λ q. has q ∙ sym (where-member test es q s)) exact_unsigned

-- tests that agree give the same views
pub where_same : (t u : ℕ → Entry → Bool) → ((v : ℕ) (e : Entry) → t v e ≡ u v e) → (es : List (ℕ × Entry)) → views_where t es ≡ views_where u es
unfolding views_where
where_same t u same [] = refl
where_same t u same (x ∷ es) = let rest = where_same t u same es in let is = same x.0 x.1 in grind (arith, common_steps, rest, is)
