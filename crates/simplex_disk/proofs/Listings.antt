-- A listing of the files, where no file is there but those of sections.
use Rattle.std.proofs.Common.{◌≡◌, ◌<◌, ◌≤◌, ◌+◌, ℕ, suc, false, eqb, List, [], ◌∷◌, length, drop, get_or, Option, None, Some, refl, sym, ap, ◌∙◌, arith, inl, inr}
use Rattle.std.proofs.Math.Seq.{drop-cons}
use Rattle.std.specs.Cmp.{unsigned_tied}
use Rattle.std.specs.List.{AllByRecursion, list_any}
use Rattle.std.specs.List.Sorted.{IsStrictlySortedBy}
use Rattle.std.specs.Map.{lookup, keys_of}
use Rattle.std.specs.BTreeMap.{is_at}
use Rattle.std.specs.Option.{is_some}
use Rattle.std.specs.Ordering.{nat_cmp}
use Rattle.std.specs.declared.cmp.Ordering.TheVariants.{Less}
use Rattle.std.proofs.lemmas.Bool.{cases_eq, cases_order}
use Rattle.std.proofs.lemmas.Bool.Decides.{nat_tests}
use Rattle.std.proofs.lemmas.Grind.{common_steps}
use Rattle.std.proofs.lemmas.Map.Keys.{sorted_tail}
use Rattle.simplex_disk.specs.declared.segment.Segment.{Segment}
use Rattle.simplex_disk.specs.Answers.{IsListing}
use Rattle.simplex_disk.specs.Calls.{Call, content}
use Rattle.simplex_disk.specs.Index.{StandsAt, IsIndexed}
use Rattle.simplex_disk.specs.Pruning.{HasNoneBelow, BeginsAt, behind_first}

-- ---- two rising lists of the same numbers are one

above_misses : (n k : ℕ) (xs : List ℕ) → n ≤ k → AllByRecursion (λ j. nat_cmp k j ≡ Less) xs → list_any (λ number. eqb number n) xs ≡ false
above_misses n k [] le above = refl
above_misses n k (x ∷ xs) le above =
    let more = above_misses n k xs le above.1 in
    let less : nat_cmp k x ≡ Less = above.0 in
    grind (arith, common_steps, nat_tests)

-- a number is in the first list alone
misses_first : (x y : ℕ) (xs ys : List ℕ) → x < y → AllByRecursion (λ j. nat_cmp y j ≡ Less) ys → list_any (λ number. eqb number x) (x ∷ xs) ≡ list_any (λ number. eqb number x) (y ∷ ys) → ⊥
misses_first x y xs ys lt above same =
    let none = above_misses x y ys (omega arith) above in
    absurd (grind (arith, common_steps, nat_tests))

tails_same : (x y n : ℕ) (xs ys : List ℕ) → x ≡ y → AllByRecursion (λ j. nat_cmp x j ≡ Less) xs → AllByRecursion (λ j. nat_cmp y j ≡ Less) ys
    → list_any (λ number. eqb number n) (x ∷ xs) ≡ list_any (λ number. eqb number n) (y ∷ ys) → list_any (λ number. eqb number n) xs ≡ list_any (λ number. eqb number n) ys
tails_same x y n xs ys is above_x above_y same = elim (cases_eq x n) [
  | inl here ↦ above_misses n x xs (omega (arith, here)) above_x ∙ sym (above_misses n y ys (omega (arith, here, is)) above_y)
  | inr other ↦ grind (arith, common_steps, nat_tests)
]

pub same_rising : (xs ys : List ℕ) → IsStrictlySortedBy nat_cmp xs → IsStrictlySortedBy nat_cmp ys → ((n : ℕ) → list_any (λ number. eqb number n) xs ≡ list_any (λ number. eqb number n) ys) → xs ≡ ys
unfolding IsStrictlySortedBy
same_rising [] [] sorted_x sorted_y same = refl
same_rising [] (y ∷ ys) sorted_x sorted_y same = let here = same y in absurd (grind (arith, common_steps, nat_tests))
same_rising (x ∷ xs) [] sorted_x sorted_y same = let here = same x in absurd (grind (arith, common_steps, nat_tests))
same_rising (x ∷ xs) (y ∷ ys) sorted_x sorted_y same = elim (cases_order x y) [
  | inl is ↦ ap (λ (l : List ℕ). x ∷ l) (same_rising xs ys sorted_x.1 sorted_y.1 (λ n. tails_same x y n xs ys is sorted_x.0 sorted_y.0 (same n))) ∙ ap (λ (k : ℕ). k ∷ ys) is
  | inr (inl below) ↦ absurd (misses_first x y xs ys below sorted_y.0 (same x))
  | inr (inr above) ↦ absurd (misses_first y x ys xs above sorted_x.0 (sym (same y)))
]

-- ---- what is listed is what is kept

found_in : (es : List (ℕ × Segment)) (n : ℕ) → is_some (lookup (is_at (nat_cmp n)) es) ≡ list_any (λ number. eqb number n) (keys_of es)
found_in [] n = refl
found_in (e ∷ es) n = elim (cases_eq e.0 n) [
  | inl same ↦ grind (arith, common_steps, nat_tests, unsigned_tied n e.0)
  | inr other ↦ let more = found_in es n in grind (arith, common_steps, nat_tests, unsigned_tied n e.0)
]

there_of : (n : ℕ) (H : List Call) (o : Option Segment) → StandsAt n H o → is_some (content n H) ≡ is_some o
there_of n H None absent = ap is_some absent.content
there_of n H (Some v) stands = ap is_some stands.2.stands.content.1

pub listed_keys : (files : ℕ → Option (List ℕ)) (numbers : List ℕ) (es : List (ℕ × Segment)) (H : List Call) → IsListing files numbers → ((n : ℕ) → content n H ≡ files n)
    → IsIndexed es None H → IsStrictlySortedBy nat_cmp (keys_of es) → numbers ≡ keys_of es
listed_keys files numbers es H listing reads indexed sorted = same_rising numbers (keys_of es) listing.rising sorted
    (λ n. sym (listing.all n) ∙ ap is_some (sym (reads n)) ∙ there_of n H (lookup (is_at (nat_cmp n)) es) (indexed.at n (λ leaves. leaves)) ∙ found_in es n)

-- ---- the first of them

pub next_of : (numbers : List ℕ) (i : ℕ) (es : List (ℕ × Segment)) → i < length numbers → drop i numbers ≡ keys_of es → keys_of es ≡ get_or numbers i 0 ∷ drop (i + 1) numbers
next_of numbers i es lt left = sym left ∙ drop-cons numbers i 0 lt ∙ ap (λ (k : ℕ). get_or numbers i 0 ∷ drop k numbers) (let e : suc i ≡ i + 1 = omega arith in e)

pub first_of : (es : List (ℕ × Segment)) (n : ℕ) (rest : List ℕ) → keys_of es ≡ n ∷ rest → BeginsAt n es
first_of [] n rest is = absurd cc
first_of (e ∷ es) n rest is = cc

pub behind_of : (es : List (ℕ × Segment)) (n : ℕ) (rest : List ℕ) → keys_of es ≡ n ∷ rest → keys_of (behind_first es) ≡ rest
behind_of [] n rest is = absurd cc
behind_of (e ∷ es) n rest is = cc

pub none_of_next : (es : List (ℕ × Segment)) (n least : ℕ) (rest : List ℕ) → keys_of es ≡ n ∷ rest → least ≤ n → HasNoneBelow least es
none_of_next [] n least rest is above = tt
none_of_next (e ∷ es) n least rest is above = let first : e.0 ≡ n = cc in omega (arith, first, above)

pub none_of_end : (es : List (ℕ × Segment)) (least : ℕ) → keys_of es ≡ [] → HasNoneBelow least es
none_of_end [] least is = tt
none_of_end (e ∷ es) least is = absurd cc

pub rising_behind : (es : List (ℕ × Segment)) → IsStrictlySortedBy nat_cmp (keys_of es) → IsStrictlySortedBy nat_cmp (keys_of (behind_first es))
rising_behind [] sorted = sorted
rising_behind (e ∷ es) sorted = sorted_tail nat_cmp e.0 (keys_of es) sorted
