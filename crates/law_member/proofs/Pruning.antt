-- A prune that fails drops what a prune to a lower view drops.
use Rattle.std.proofs.Common.{◌≡◌, ℕ, ◌+◌, ◌-◌, ◌<◌, ◌≤◌, ◌&&◌, Bool, true, false, max, nat_lt, List, [], ◌∷◌, ◌++◌, Contains, refl, sym, ap, ◌∙◌, inl, inr, ◌⊎◌, arith, if◌then◌else◌}
use Rattle.std.specs.List.{AllByRecursion}
use Rattle.std.specs.List.Sorted.{IsStrictlySortedBy}
use Rattle.std.specs.Ordering.{nat_cmp}
use Rattle.std.specs.declared.cmp.Ordering.TheVariants.{Less}
use Rattle.std.proofs.lemmas.Bool.{cases_lt}
use Rattle.std.proofs.lemmas.Bool.Decides.{nat_tests}
use Rattle.std.proofs.lemmas.Grind.{common_steps}
use Rattle.std.proofs.lemmas.List.Elements.{Contains-append_left, Contains-append_right, Contains-append_cases}
use Rattle.simplex_wire.specs.declared.artifact.Artifact.{Artifact}
use Rattle.simplex_journal.specs.Journal.{Section, replayed, pruned_first}
use Rattle.simplex_journal.specs.Contents.{numbers, IsRising}
use Rattle.law_agreement.specs.Journal as kept
use Rattle.law_member.specs.Life.{journal_of}

lower : (m n : ℕ) → nat_cmp m n ≡ Less → m < n
lower m n e = grind (arith, nat_tests, e)

-- a prune to the number behind the first one is one of what comes behind it
prune_raised : (min n : ℕ) (js : List Section) → AllByRecursion (λ k. nat_cmp n k ≡ Less) (numbers js)
    → kept.prune (max min (n + 1)) (journal_of js) ≡ kept.prune min (journal_of js)
unfolding journal_of numbers
prune_raised min n [] h = refl
prune_raised min n (s ∷ rest) h =
    let low = lower n s.number h.0 in
    elim (cases_lt s.number min) [
      | inl below ↦ grind (arith, nat_tests, common_steps, low, below, prune_raised min n rest h.1)
      | inr above ↦ grind (arith, nat_tests, common_steps, low, above, prune_raised min n rest h.1)
    ]

prune_none : (js : List Section) → kept.prune 0 (journal_of js) ≡ journal_of js
unfolding journal_of
prune_none [] = refl
prune_none (s ∷ rest) = grind (arith, nat_tests, common_steps, prune_none rest)

-- where none are to be dropped, or all are high enough, all stay
stays : (keep least n : ℕ) (js : List Section) → (keep ≡ 0) ⊎ (least ≤ n) → AllByRecursion (λ k. nat_cmp n k ≡ Less) (numbers js) → pruned_first keep least js ≡ js
unfolding numbers pruned_first
stays keep least n [] why h = refl
stays keep least n (s ∷ rest) why h =
    let low = lower n s.number h.0 in
    let later = stays keep least n rest why h.1 in
    elim why [
      | inl none ↦ grind (arith, nat_tests, common_steps, none, later)
      | inr high ↦ grind (arith, nat_tests, common_steps, high, low, later)
    ]

pub record PrunesLess (keep least : ℕ) (js : List Section) : Type 0 where
  pub min : ℕ
  pub low : min ≤ least
  pub same : journal_of (pruned_first keep least js) ≡ kept.prune min (journal_of js)

fewer : (keep least : ℕ) (s : Section) (rest : List Section) → 0 < keep → s.number < least → AllByRecursion (λ k. nat_cmp s.number k ≡ Less) (numbers rest)
    → PrunesLess (keep - 1) least rest → PrunesLess keep least (s ∷ rest)
unfolding journal_of pruned_first
fewer keep least s rest some below h p =
    record {
      min = max p.min (s.number + 1);
      low = omega (arith, p.low, below);
      same = grind (arith, nat_tests, common_steps, some, below, p.same, prune_raised p.min s.number rest h);
    }

drops_none : (keep least : ℕ) (s : Section) (rest : List Section) → pruned_first keep least rest ≡ rest → (keep ≡ 0) ⊎ (least ≤ s.number)
    → pruned_first keep least (s ∷ rest) ≡ s ∷ rest
unfolding pruned_first
drops_none keep least s rest later why =
    elim why [
      | inl none ↦ grind (arith, nat_tests, common_steps, none, later)
      | inr high ↦ grind (arith, nat_tests, common_steps, high, later)
    ]

none_fewer : (keep least : ℕ) (s : Section) (rest : List Section) → (keep ≡ 0) ⊎ (least ≤ s.number) → AllByRecursion (λ k. nat_cmp s.number k ≡ Less) (numbers rest)
    → PrunesLess keep least (s ∷ rest)
none_fewer keep least s rest why h =
    record {
      min = 0;
      low = omega arith;
      same = ap journal_of (drops_none keep least s rest (stays keep least s.number rest why h) why) ∙ sym (prune_none (s ∷ rest));
    }

pub prunes_less : (keep least : ℕ) (js : List Section) → IsRising js → PrunesLess keep least js
unfolding journal_of pruned_first numbers IsStrictlySortedBy
prunes_less keep least [] h = record { min = 0; low = omega arith; same = refl }
prunes_less keep least (s ∷ rest) h =
    elim (cases_lt 0 keep) [
      | inl some ↦ elim (cases_lt s.number least) [
        | inl below ↦ fewer keep least s rest some below h.0 (prunes_less (keep - 1) least rest h.1)
        | inr high ↦ none_fewer keep least s rest (inr high) h.0
      ]
      | inr none ↦ none_fewer keep least s rest (inl (omega (arith, none))) h.0
    ]

-- what is left was there
left_here : (s : Section) (xs ys : List Artifact) (x : Artifact) → (Contains xs x → Contains ys x) → Contains (s.synced ++ s.pending ++ xs) x → Contains (s.synced ++ s.pending ++ ys) x
left_here s xs ys x f c =
    elim (Contains-append_cases (s.synced ++ s.pending) xs x c) [
      | inl here ↦ Contains-append_left (s.synced ++ s.pending) ys x here
      | inr there ↦ Contains-append_right (s.synced ++ s.pending) ys x (f there)
    ]

pub was_there : (keep least : ℕ) (js : List Section) (x : Artifact) → Contains (replayed (pruned_first keep least js)) x → Contains (replayed js) x
unfolding replayed pruned_first
was_there keep least [] x c = c
was_there keep least (s ∷ rest) x c =
    at (nat_lt 0 keep && nat_lt s.number least) (was_there (keep - 1) least rest x) (was_there keep least rest x) c
  where
    at : (b : Bool) → (Contains (replayed (pruned_first (keep - 1) least rest)) x → Contains (replayed rest) x)
        → (Contains (replayed (pruned_first keep least rest)) x → Contains (replayed rest) x)
        → Contains (replayed (if b then pruned_first (keep - 1) least rest else s ∷ pruned_first keep least rest)) x
        → Contains (s.synced ++ s.pending ++ replayed rest) x
    at true f g h = Contains-append_right (s.synced ++ s.pending) (replayed rest) x (f h)
    at false f g h = left_here s (replayed (pruned_first keep least rest)) (replayed rest) x g h
