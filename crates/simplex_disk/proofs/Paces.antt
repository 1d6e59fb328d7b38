-- A disk that fails a call that is still to come.
use Rattle.std.proofs.Common.{◌≡◌, ◌≢◌, ◌<◌, ◌≤◌, ◌+◌, ◌-◌, ◌*◌, min, ℕ, zero, suc, List, [], ◌∷◌, length, Option, Some, Result, Ok, Err, refl, sym, ap, subst, ◌∙◌, arith, inl, inr}
use Rattle.std.specs.Result.{MatchResult, IsErrOf}
use Rattle.std.specs.Ordering.{nat_cmp}
use Rattle.std.specs.Map.{keys_of}
use Rattle.std.specs.List.Sorted.{IsStrictlySortedBy}
use Rattle.std.proofs.lemmas.Bool.{cases_lt}
use Rattle.std.proofs.lemmas.Bool.Decides.{nat_tests}
use Rattle.std.proofs.lemmas.Grind.{common_steps}
use Rattle.std.proofs.lemmas.Map.Keys.{sorted_tail}
use Rattle.simplex_journal.specs.Journal.{pruned_first}
use Rattle.simplex_journal.specs.Memory.{sections_of}
use Rattle.simplex_journal.proofs.Entries.{pruned_first-zero}
use Rattle.simplex_disk.specs.declared.segment.Segment.{Segment}
use Rattle.simplex_disk.specs.declared.error.DiskError.{DiskError}
use Rattle.simplex_disk.specs.declared.error.DiskError.TheVariants.{Failed, Memory}
use Rattle.simplex_disk.specs.Answers.{Heeds}
use Rattle.simplex_disk.specs.Index.{read_entries, sections_in}
use Rattle.simplex_disk.specs.Pruning.{HasNoneBelow, BeginsAt, behind_first, count_below}
use Rattle.simplex_disk.proofs.Prunes.{none_below_in}

-- ---- one call

pub heeded_ok : {T : Type 0} (r : Result T DiskError) (x : T) (o now : Option ℕ) (k : ℕ) → r ≡ Ok x → Heeds o r now → o ≡ Some k → (k ≢ 1) × (now ≡ Some (k - 1))
heeded_ok {T} r x o now k is h told =
    let ok : Result T DiskError = Ok x in
    subst (λ (p : Option ℕ). Heeds p ok now) told (subst (λ (q : Result T DiskError). Heeds o q now) is h)

heeded_failed : {T : Type 0} (r : Result T DiskError) (o now : Option ℕ) (k : ℕ) → r ≡ Err Failed → Heeds o r now → o ≡ Some k → k ≡ 1
heeded_failed {T} r o now k is h told =
    let failed : Result T DiskError = Err Failed in
    (subst (λ (p : Option ℕ). Heeds p failed now) told (subst (λ (q : Result T DiskError). Heeds o q now) is h)).0

pub heeded_err : {T : Type 0} (r : Result T DiskError) (e : DiskError) (o now : Option ℕ) (k : ℕ) → r ≡ Err e → e ≡ Failed → Heeds o r now → o ≡ Some k → k ≡ 1
heeded_err {T} r e o now k is failed h told = heeded_failed r o now k (is ∙ ap (λ (d : DiskError). let q : Result T DiskError = Err d in q) failed) h told

-- an error that is not want of memory
pub failed_of : {T : Type 0} (r : Result T DiskError) (e : DiskError) → r ≡ Err e → ¬ IsErrOf r Memory → e ≡ Failed
failed_of (Ok x) e is room = absurd cc
failed_of (Err Failed) e is room = cc
failed_of (Err Memory) e is room = absurd (room refl)

-- the second of two calls
pub paced_last : {T : Type 0} (r : Result T DiskError) (o now : Option ℕ) (more : ℕ) → ¬ IsErrOf r Memory → Heeds o r now → o ≡ Some (1 + more)
    → MatchResult r (λ _. (0 < more) × (now ≡ Some more)) (λ _. more ≡ 0)
paced_last {T} (Ok x) o now more room h told =
    let ok : Result T DiskError = Ok x in
    let k = heeded_ok ok x o now (1 + more) refl h told in
    let other : 1 + more ≢ 1 = k.0 in
    let some : 0 < more = positive more other in
    (some, k.1 ∙ ap (λ (n : ℕ). Some n) (let e : 1 + more - 1 ≡ more = omega arith in e))
  where
    positive : (m : ℕ) → 1 + m ≢ 1 → 0 < m
    positive zero other = absurd (other refl)
    positive (suc m) other = omega arith
paced_last {T} (Err Failed) o now more room h told =
    let failed : Result T DiskError = Err Failed in
    let e : 1 + more ≡ 1 = heeded_failed failed o now (1 + more) refl h told in
    omega (arith, e)
paced_last (Err Memory) o now more room h told = absurd (room refl)

pub match_ok : {T E : Type 0} (A : T → Type 0) (B : E → Type 0) (r : Result T E) (x : T) → r ≡ Ok x → MatchResult r A B → A x
match_ok {T} {E} A B r x is h = let ok : Result T E = Ok x in subst (λ (q : Result T E). MatchResult q A B) is h

pub match_err : {T E : Type 0} (A : T → Type 0) (B : E → Type 0) (r : Result T E) (e : E) → r ≡ Err e → MatchResult r A B → B e
match_err {T} {E} A B r e is h = subst (λ (q : Result T E). MatchResult q A B) is h

-- an error that is handed on
pub err_on : {T U E : Type 0} (A : U → Type 0) (B : E → Type 0) (r : Result T E) (e : E) (s : Result U E) → r ≡ Err e → s ≡ Err e → ((d : E) → r ≡ Err d → B d) → MatchResult s A B
err_on {T} {U} {E} A B r e s was is h = subst (λ (q : Result U E). MatchResult q A B) (sym is) (h e was)

-- ---- how many sections are below

pub fewer_first : (es : List (ℕ × Segment)) (n least : ℕ) → BeginsAt n es → n < least → count_below least es ≡ suc (count_below least (behind_first es))
unfolding count_below
fewer_first [] n least at below = absurd at
fewer_first (e ∷ es) n least at below = let less : e.0 < least = omega (arith, at, below) in grind (arith, common_steps, nat_tests)

pub below_none : (es : List (ℕ × Segment)) (least : ℕ) → HasNoneBelow least es → count_below least es ≡ 0
unfolding count_below
below_none [] least none = refl
below_none (e ∷ es) least none = grind (arith, common_steps, nat_tests)

pub below_first : (e : ℕ × Segment) (es : List (ℕ × Segment)) (least : ℕ) → e.0 < least → count_below least (e ∷ es) ≡ suc (count_below least es)
unfolding count_below
below_first e es least lt = grind (arith, common_steps, nat_tests)

pub below_few : (es : List (ℕ × Segment)) (least : ℕ) → count_below least es ≤ length es
unfolding count_below
below_few [] least = omega arith
below_few (e ∷ es) least = elim (cases_lt e.0 least) [
  | inl below ↦ let more = below_few es least in grind (arith, common_steps, nat_tests)
  | inr above ↦ grind (arith, common_steps, nat_tests)
]

-- To drop more sections than are below the least number drops all of these.
pub enough_first : (count least : ℕ) (F : ℕ → Option (List ℕ)) (es : List (ℕ × Segment)) → IsStrictlySortedBy nat_cmp (keys_of es)
    → pruned_first (min count (count_below least es)) least (sections_in F es) ≡ pruned_first count least (sections_in F es)
unfolding pruned_first sections_of read_entries count_below
enough_first zero least F [] sorted = refl
enough_first (suc count) least F [] sorted = refl
enough_first zero least F (e ∷ es) sorted = ap (λ (k : ℕ). pruned_first k least (sections_in F (e ∷ es))) (let z : min 0 (count_below least (e ∷ es)) ≡ 0 = omega arith in z)
enough_first (suc count) least F (e ∷ es) sorted = elim (cases_lt e.0 least) [
  | inl below ↦
      let more = enough_first count least F es (sorted_tail nat_cmp e.0 (keys_of es) sorted) in
      let here : count_below least (e ∷ es) ≡ suc (count_below least es) = below_first e es least below in
      let less : min (suc count) (count_below least (e ∷ es)) ≡ suc (min count (count_below least es)) = omega (arith, here) in
      ap (λ (k : ℕ). pruned_first k least (sections_in F (e ∷ es))) less
      ∙ (let m : ℕ = min count (count_below least es) in let n : suc m - 1 ≡ m = omega arith in let c : suc count - 1 ≡ count = omega arith in grind (arith, common_steps, nat_tests))
  | inr above ↦
      let none : HasNoneBelow least (e ∷ es) = above in
      let here : count_below least (e ∷ es) ≡ 0 = below_none (e ∷ es) least none in
      let z : min (suc count) (count_below least (e ∷ es)) ≡ 0 = omega (arith, here) in
      ap (λ (k : ℕ). pruned_first k least (sections_in F (e ∷ es))) z ∙ pruned_first-zero least (sections_in F (e ∷ es)) ∙ sym (none_below_in (suc count) least F (e ∷ es) sorted none)
]

-- ---- the disk call of a prune

-- The listing fails where no section is to be dropped.
pub listing_fails : (named : ℕ) → 1 + 2 * named ≡ 1 → 0 ≡ named
listing_fails named is = omega (arith, is)

-- It passes where one is.
pub listing_passes : (named : ℕ) → 1 + 2 * named ≢ 1 → 0 < named
listing_passes zero is = absurd (is refl)
listing_passes (suc named) is = omega arith
