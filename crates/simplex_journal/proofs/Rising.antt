-- The numbers of the sections rise, whatever is called.
use Rattle.std.proofs.Common.{◌≡◌, ◌≤◌, ◌<◌, ℕ, ◌-◌, inl, inr, refl, sym, ap, List, [], ◌∷◌, arith, subst, length, ◌⊎◌}
use Rattle.std.specs.Ordering.{nat_cmp}
use Rattle.std.specs.List.{AllByRecursion}
use Rattle.std.specs.List.Sorted.{IsStrictlySortedBy}
use Rattle.std.specs.declared.cmp.Ordering.TheVariants.{Less}
use Rattle.std.proofs.lemmas.Grind.{common_steps}
use Rattle.std.proofs.lemmas.Bool.{cases_order, cases_lt}
use Rattle.std.proofs.lemmas.Bool.Decides.{nat_tests}
use Rattle.simplex_wire.specs.declared.artifact.Artifact.{Artifact}
use Rattle.simplex_journal.specs.Contents.{numbers, IsRising}
use Rattle.simplex_journal.specs.Journal.{Section, opened_section, appended_section, synced_section, crashed_section, appended, synced_at, all_synced, pruned, pruned_first, crashed}
use Rattle.simplex_journal.proofs.Entries.{pruned_first-all}
use Rattle.simplex_journal.proofs.Contents.{appended-here, appended-below, appended-past}

-- A sync leaves the numbers.
pub numbers-synced_at : (n : ℕ) (js : List Section) → numbers (synced_at n js) ≡ numbers js
unfolding numbers synced_at synced_section
numbers-synced_at n [] = refl
numbers-synced_at n (s ∷ rest) = grind (arith, common_steps, numbers-synced_at n rest)

-- So does a sync of all sections.
pub numbers-all_synced : (js : List Section) → numbers (all_synced js) ≡ numbers js
unfolding numbers all_synced synced_section
numbers-all_synced [] = refl
numbers-all_synced (s ∷ rest) = ap (λ ns. s.number ∷ ns) (numbers-all_synced rest)

-- So does a stop.
pub numbers-crashed : (keep : ℕ) (js : List Section) → numbers (crashed keep js) ≡ numbers js
unfolding numbers crashed crashed_section
numbers-crashed keep [] = refl
numbers-crashed keep (s ∷ rest) = ap (λ ns. s.number ∷ ns) (numbers-crashed keep rest)

-- An append to a journal with no section.
appended_empty : (n : ℕ) (a : Artifact) → appended n a [] ≡ opened_section n a ∷ []
unfolding appended
appended_empty n a = refl

-- A lesser number compares as less.
less : (m n : ℕ) → m < n → nat_cmp m n ≡ Less
less m n below = grind (arith, nat_tests)

-- And the other way.
lower : (m n : ℕ) → nat_cmp m n ≡ Less → m < n
lower m n h = elim (cases_lt m n) [ inl below ↦ below | inr above ↦ grind (arith, nat_tests) ]

-- What is above a number is above each number below it.
above_lower : (m n : ℕ) (ns : List ℕ) → m < n → AllByRecursion (λ k. nat_cmp n k ≡ Less) ns → AllByRecursion (λ k. nat_cmp m k ≡ Less) ns
above_lower m n [] below h = h
above_lower m n (k ∷ ns) below h =
    let first : n < k = lower n k h.0 in
    (less m k (omega arith), above_lower m n ns below h.1)

-- An append to a section above m leaves all above m.
above_appended : (m n : ℕ) (a : Artifact) (js : List Section) → m < n → AllByRecursion (λ k. nat_cmp m k ≡ Less) (numbers js)
    → AllByRecursion (λ k. nat_cmp m k ≡ Less) (numbers (appended n a js))
unfolding numbers opened_section appended_section
above_appended m n a [] below h = subst (λ (js : List Section). AllByRecursion (λ k. nat_cmp m k ≡ Less) (numbers js)) (sym (appended_empty n a)) (less m n below, tt)
above_appended m n a (s ∷ rest) below h =
    let P : List Section → Type 0 = λ js. AllByRecursion (λ k. nat_cmp m k ≡ Less) (numbers js) in
    elim (cases_order n s.number) [
      | inl same ↦ subst P (sym (appended-here n a s rest same)) h
      | inr (inl before) ↦ subst P (sym (appended-below n a s rest before)) (less m n below, h)
      | inr (inr above) ↦ subst P (sym (appended-past n a s rest above)) (h.0, above_appended m n a rest below h.1)
    ]

-- An append keeps the order.
pub IsRising-appended : (n : ℕ) (a : Artifact) (js : List Section) → IsRising js → IsRising (appended n a js)
unfolding numbers opened_section appended_section IsStrictlySortedBy
IsRising-appended n a [] h = subst (λ (js : List Section). IsRising js) (sym (appended_empty n a)) (tt, tt)
IsRising-appended n a (s ∷ rest) h =
    let P : List Section → Type 0 = λ js. IsRising js in
    elim (cases_order n s.number) [
      | inl same ↦ subst P (sym (appended-here n a s rest same)) h
      | inr (inl before) ↦ subst P (sym (appended-below n a s rest before)) ((less n s.number before, above_lower n s.number (numbers rest) before h.0), h)
      | inr (inr above) ↦ subst P (sym (appended-past n a s rest above)) (above_appended s.number n a rest above h.0, IsRising-appended n a rest h.1)
    ]

-- A prune of no section.
pruned_first-empty : (count least : ℕ) → pruned_first count least [] ≡ []
unfolding pruned_first
pruned_first-empty count least = refl

-- A prune in part drops the first section, or leaves it.
pruned_first-cases : (count least : ℕ) (s : Section) (rest : List Section)
    → (pruned_first count least (s ∷ rest) ≡ pruned_first (count - 1) least rest)
    ⊎ (pruned_first count least (s ∷ rest) ≡ s ∷ pruned_first count least rest)
unfolding pruned_first
pruned_first-cases count least s rest = elim (cases_lt s.number least) [
  | inl below ↦ elim (cases_lt 0 count) [
    | inl some ↦ inl (grind (arith, common_steps, nat_tests))
    | inr none ↦ inr (grind (arith, common_steps, nat_tests))
  ]
  | inr above ↦ inr (grind (arith, common_steps, nat_tests))
]

-- What is left of a prune in part is above m, where all was.
above_pruned_first : (m count least : ℕ) (js : List Section) → AllByRecursion (λ k. nat_cmp m k ≡ Less) (numbers js)
    → AllByRecursion (λ k. nat_cmp m k ≡ Less) (numbers (pruned_first count least js))
unfolding numbers
above_pruned_first m count least [] h = subst (λ (js : List Section). AllByRecursion (λ k. nat_cmp m k ≡ Less) (numbers js)) (sym (pruned_first-empty count least)) tt
above_pruned_first m count least (s ∷ rest) h =
    let P : List Section → Type 0 = λ js. AllByRecursion (λ k. nat_cmp m k ≡ Less) (numbers js) in
    elim (pruned_first-cases count least s rest) [
      | inl drops ↦ subst P (sym drops) (above_pruned_first m (count - 1) least rest h.1)
      | inr keeps ↦ subst P (sym keeps) (h.0, above_pruned_first m count least rest h.1)
    ]

-- A prune in part keeps the order.
pub IsRising-pruned_first : (count least : ℕ) (js : List Section) → IsRising js → IsRising (pruned_first count least js)
unfolding numbers IsStrictlySortedBy
IsRising-pruned_first count least [] h = subst (λ (js : List Section). IsRising js) (sym (pruned_first-empty count least)) tt
IsRising-pruned_first count least (s ∷ rest) h =
    let P : List Section → Type 0 = λ js. IsRising js in
    elim (pruned_first-cases count least s rest) [
      | inl drops ↦ subst P (sym drops) (IsRising-pruned_first (count - 1) least rest h.1)
      | inr keeps ↦ subst P (sym keeps) (above_pruned_first s.number count least rest h.0, IsRising-pruned_first count least rest h.1)
    ]

-- So does a whole one.
pub IsRising-pruned : (least : ℕ) (js : List Section) → IsRising js → IsRising (pruned least js)
IsRising-pruned least js h = subst (λ (ks : List Section). IsRising ks) (pruned_first-all (length js) least js (let same : length js ≤ length js = omega arith in same)) (IsRising-pruned_first (length js) least js h)
