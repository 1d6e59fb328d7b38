-- The views whose deadline is reached, and the views of a range.
use Rattle.std.proofs.Common.{◌≡◌, ◌≤◌, ◌+◌, ◌==◌, ◌&&◌, ℕ, Bool, true, false, nat_le, refl, sym, ◌∙◌, List, [], ◌∷◌, map, Option, Some, None, arith}
use Rattle.std.specs.Prelude.{filter}
use Rattle.std.proofs.lemmas.Grind.{common_steps}
use Rattle.std.proofs.lemmas.Bool.Decides.{nat_tests}
use Rattle.std.specs.declared.ops.Bound.TheVariants.{Included, Excluded, Unbounded}
use Rattle.std.specs.Ordering.{nat_cmp}
use Rattle.std.specs.Cmp.{unsigned_tied}
use Rattle.std.specs.BTreeMap.{is_at}
use Rattle.std.specs.BTreeMap.Range.{range_contains, entries_between}
use Rattle.std.specs.BTreeSet.{IsFromIterResult, BTreeSet}
use Rattle.std.specs.List.{list_any}
use Rattle.model_resolver.specs.declared.entry.Entry.{Entry}
use Rattle.model_resolver.specs.Views.{entry_at, views_where, deadline_of}
use Rattle.simplex_fetch.specs.Index.{pair_cmp, is_value, is_reached, is_due, has_deadline, IsIndexed}
use Rattle.simplex_fetch.proofs.Pairs.{pair_at}
use Rattle.simplex_fetch.proofs.Listed.{passes_at, where-is}

-- a pair of a deadline that is reached
abbrev pub in_reach : ℕ → ℕ × ℕ → Bool
in_reach now t = range_contains pair_cmp Unbounded (Excluded (now + 1, 0)) t

pub reach_is : (now : ℕ) (t : ℕ × ℕ) → in_reach now t ≡ nat_le t.0 now
reach_is now t = grind (arith, common_steps, nat_tests)

-- whether a view has a deadline that is reached
abbrev pub is_listed : ℕ → ℕ → List (ℕ × ℕ) → Bool
is_listed now q ks = list_any (is_at (nat_cmp q)) (map (λ t. t.1) (filter (in_reach now) ks))

pub listed-found : (now q : ℕ) (ks : List (ℕ × ℕ)) → is_listed now q ks ≡ true → (d : ℕ) × ((list_any (is_at (pair_cmp (d, q))) ks ≡ true) × (d ≤ now))
listed-found now q [] h = absurd (let no : false ≡ true = h in cc)
listed-found now q (t ∷ ks) h =
    let is = reach_is now t in
    elim (nat_le t.0 now && t.1 == q) as (λ b. (nat_le t.0 now && t.1 == q) ≡ b → (d : ℕ) × ((list_any (is_at (pair_cmp (d, q))) (t ∷ ks) ≡ true) × (d ≤ now))) [
      | true ↦ λ here. (t.0, (grind (arith, common_steps, nat_tests, pair_at t.0 q t), grind (arith, common_steps, nat_tests)))
      | false ↦ λ apart.
          let later : is_listed now q ks ≡ true = grind (arith, common_steps, nat_tests, is, unsigned_tied q t.1) in
          let found = listed-found now q ks later in
          (found.0, (let at = found.1.0 in grind (arith, common_steps), found.1.1))
    ] refl

pub listed-there : (now q d : ℕ) (ks : List (ℕ × ℕ)) → list_any (is_at (pair_cmp (d, q))) ks ≡ true → d ≤ now → is_listed now q ks ≡ true
listed-there now q d [] h low = h
listed-there now q d (t ∷ ks) h low =
    let is = reach_is now t in
    let rest : list_any (is_at (pair_cmp (d, q))) ks ≡ true → is_listed now q ks ≡ true = λ at. listed-there now q d ks at low in
    elim (t.0 == d && t.1 == q) as (λ b. (t.0 == d && t.1 == q) ≡ b → is_listed now q (t ∷ ks) ≡ true) [
      | true ↦ λ here. grind (arith, common_steps, nat_tests, unsigned_tied q t.1)
      | false ↦ λ apart.
          let later : list_any (is_at (pair_cmp (d, q))) ks ≡ true = grind (arith, common_steps, pair_at d q t) in
          let found = rest later in grind (arith, common_steps, nat_tests)
    ] refl

-- a view is due where it has such a deadline
abbrev pub due_at : ℕ → ℕ → Option Entry → Bool
due_at now q o = passes_at (λ view entry. is_due now entry) q o

pub reached-has : (now d : ℕ) (o : Option ℕ) → is_value d o ≡ true → d ≤ now → is_reached now o ≡ true
reached-has now d None h low = cc
reached-has now d (Some n) h low = grind (arith, common_steps, nat_tests)

pub due-has : (now q d : ℕ) (o : Option Entry) → has_deadline d o ≡ true → d ≤ now → due_at now q o ≡ true
due-has now q d None h low = cc
due-has now q d (Some e) h low = reached-has now d (deadline_of e.state) h low

pub reached-some : (now : ℕ) (o : Option ℕ) → is_reached now o ≡ true → (d : ℕ) × ((is_value d o ≡ true) × (d ≤ now))
reached-some now None h = absurd (let no : false ≡ true = h in cc)
reached-some now (Some n) h = (n, (grind (arith, nat_tests), grind (arith, common_steps, nat_tests)))

pub due-some : (now q : ℕ) (o : Option Entry) → due_at now q o ≡ true → (d : ℕ) × ((has_deadline d o ≡ true) × (d ≤ now))
due-some now q None h = absurd (let no : false ≡ true = h in cc)
due-some now q (Some e) h = reached-some now (deadline_of e.state) h

pub same_tests : (a b : Bool) → (a ≡ true → b ≡ true) → (b ≡ true → a ≡ true) → a ≡ b
same_tests true b f g = sym (f refl)
same_tests false true f g = g refl
same_tests false false f g = refl

-- the views of the reached deadlines are the views that are due
pub due-is : (views : List (ℕ × Entry)) (timers numbers : List (ℕ × ℕ)) → IsIndexed views timers numbers → (now : ℕ) (set : BTreeSet ℕ)
    → IsFromIterResult nat_cmp (map (λ t. t.1) (filter (in_reach now) timers)) set → set.keys ≡ views_where (λ view entry. is_due now entry) views
due-is views timers numbers ix now set made =
    where-is (λ view entry. is_due now entry) views set.keys ix.rising made.1
    (λ q. made.0 q ∙ same_tests (is_listed now q timers) (due_at now q (entry_at views q))
    (λ yes_listed. let found = listed-found now q timers yes_listed in due-has now q found.0 (entry_at views q) (sym (ix.timed found.0 q) ∙ found.1.0) found.1.1)
    (λ yes_due. let found = due-some now q (entry_at views q) yes_due in listed-there now q found.0 timers (ix.timed found.0 q ∙ found.1.0) found.1.1))

-- the keys of a range are the views of the range
pub between-is : (first last : ℕ) (es : List (ℕ × Entry))
    → map (λ e. e.0) (entries_between nat_cmp (Included first) (Included last) es) ≡ views_where (λ view entry. nat_le first view && nat_le view last) es
unfolding views_where
between-is first last [] = refl
between-is first last (x ∷ es) =
    let rest = between-is first last es in
    let is : range_contains nat_cmp (Included first) (Included last) x.0 ≡ (nat_le first x.0 && nat_le x.0 last) = grind (arith, common_steps, nat_tests) in
    grind (arith, common_steps, rest, is)
