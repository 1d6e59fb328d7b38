-- The least deadline.
use Rattle.std.proofs.Common.{◌≡◌, ◌≤◌, ℕ, Bool, true, false, refl, sym, ap, ◌∙◌, List, [], ◌∷◌, Option, Some, None, inl, inr, arith}
use Rattle.std.proofs.lemmas.Grind.{common_steps}
use Rattle.std.proofs.lemmas.Bool.{cases_eq}
use Rattle.std.proofs.lemmas.Bool.Decides.{nat_tests}
use Rattle.std.specs.Cmp.{unsigned_tied}
use Rattle.model_resolver.specs.declared.entry.Entry.{Entry}
use Rattle.model_resolver.specs.Views.{entry_at, deadline_of, least_of, next_deadline}
use Rattle.std.specs.Prelude.{IsTrue}
use Rattle.std.specs.Ordering.{is_gt}
use Rattle.std.specs.List.{list_any}
use Rattle.std.specs.BTreeMap.{is_at}
use Rattle.simplex_fetch.specs.Index.{is_value, has_deadline, pair_cmp, IsIndexed}
use Rattle.simplex_fetch.proofs.Entries.{Rising, above_head, tail_rises, entry_at-above}

-- whether there is no time
abbrev pub is_never : Option ℕ → Bool
is_never None = true
is_never (Some n) = false

-- the lesser is one of the two
pub least-some : (a b : Option ℕ) (d : ℕ) → least_of a b ≡ Some d → is_value d a ≡ false → b ≡ Some d
least-some None b d h apart = h
least-some (Some n) None d h apart = grind (arith, common_steps, nat_tests)
least-some (Some n) (Some m) d h apart = grind (arith, common_steps, nat_tests)

-- it is not above either
pub least-first : (a b : Option ℕ) (d n : ℕ) → least_of a b ≡ Some d → is_value n a ≡ true → d ≤ n
least-first None b d n h at = cc
least-first (Some a) None d n h at = grind (arith, common_steps, nat_tests)
least-first (Some a) (Some b) d n h at = grind (arith, common_steps, nat_tests)

pub least-second : (a b : Option ℕ) (d m : ℕ) → least_of a b ≡ Some d → b ≡ Some m → d ≤ m
least-second None b d m h is = let same : Some d ≡ Some m = sym h ∙ is in grind (arith, common_steps)
least-second (Some a) None d m h is = cc
least-second (Some a) (Some b) d m h is = grind (arith, common_steps, nat_tests)

-- where there is none, neither is there
pub least-none : (a b : Option ℕ) → least_of a b ≡ None → (a ≡ None) × (b ≡ None)
least-none None b h = (refl, h)
least-none (Some a) None h = cc
least-none (Some a) (Some b) h = cc

-- where there is no least deadline, no view has one
pub deadline-none : (es : List (ℕ × Entry)) (n v : ℕ) → next_deadline es ≡ None → has_deadline n (entry_at es v) ≡ true → ⊥
unfolding next_deadline entry_at
deadline-none [] n v h at = cc
deadline-none (x ∷ es) n v h at =
    let both = least-none (deadline_of x.1.state) (next_deadline es) h in
    elim (cases_eq v x.0) [
      | inl same ↦
          let here : is_value n (deadline_of x.1.state) ≡ true = grind (arith, common_steps, nat_tests, unsigned_tied v x.0) in
          let no : is_value n None ≡ true = rw both.0 at here in cc
      | inr apart ↦
          let later : has_deadline n (entry_at es v) ≡ true = grind (arith, common_steps, nat_tests, unsigned_tied v x.0) in
          deadline-none es n v both.1 later
    ]

-- a deadline of a view is not below the least
pub deadline-least : (es : List (ℕ × Entry)) (d n v : ℕ) → next_deadline es ≡ Some d → has_deadline n (entry_at es v) ≡ true → d ≤ n
unfolding next_deadline entry_at
deadline-least [] d n v h at = cc
deadline-least (x ∷ es) d n v h at = elim (cases_eq v x.0) [
  | inl same ↦
      let here : is_value n (deadline_of x.1.state) ≡ true = grind (arith, common_steps, nat_tests, unsigned_tied v x.0) in
      least-first (deadline_of x.1.state) (next_deadline es) d n h here
  | inr apart ↦
      let later : has_deadline n (entry_at es v) ≡ true = grind (arith, common_steps, nat_tests, unsigned_tied v x.0) in
      elim (next_deadline es) as (λ o. next_deadline es ≡ o → d ≤ n) [
        | None ↦ λ none. absurd (deadline-none es n v none later)
        | Some m ↦ λ some.
            let low : m ≤ n = deadline-least es m n v some later in
            let least : d ≤ m = least-second (deadline_of x.1.state) (next_deadline es) d m h some in omega arith
      ] refl
]

-- a view has the least deadline
pub deadline-some : (es : List (ℕ × Entry)) (d : ℕ) → Rising es → next_deadline es ≡ Some d → (v : ℕ) × (has_deadline d (entry_at es v) ≡ true)
unfolding next_deadline entry_at
deadline-some [] d s h = absurd (let no : None ≡ Some d = h in cc)
deadline-some (x ∷ es) d s h =
    elim (is_value d (deadline_of x.1.state)) as (λ b. is_value d (deadline_of x.1.state) ≡ b → (v : ℕ) × (has_deadline d (entry_at (x ∷ es) v) ≡ true)) [
      | true ↦ λ here. (x.0, grind (arith, common_steps, nat_tests, unsigned_tied x.0 x.0))
      | false ↦ λ apart.
          let later : next_deadline es ≡ Some d = least-some (deadline_of x.1.state) (next_deadline es) d h apart in
          let found = deadline-some es d (tail_rises x es s) later in (
            found.0,
            let none = entry_at-above x.0 es (above_head x es s) in let at = found.1 in
                elim (cases_eq found.0 x.0) [
                  | inl same ↦ let gone : entry_at es found.0 ≡ None = rw same none in
                      let no : has_deadline d None ≡ true = rw gone at at in cc
                  | inr other ↦ grind (arith, common_steps, nat_tests, unsigned_tied found.0 x.0)
                ],
          )
    ] refl

-- a pair that is not after another has no later deadline
pub pair_low : (a b c d : ℕ) → is_gt (pair_cmp (a, b) (c, d)) ≡ false → a ≤ c
pair_low a b c d h = grind (arith, common_steps, nat_tests)

-- where there are no timers there is no deadline
pub least-missing : (views : List (ℕ × Entry)) (timers numbers : List (ℕ × ℕ)) → IsIndexed views timers numbers → timers ≡ [] → next_deadline views ≡ None
least-missing views timers numbers ix empty = elim (next_deadline views) as (λ o. next_deadline views ≡ o → o ≡ None) [
  | None ↦ λ is. refl
  | Some d ↦ λ is.
      let found = deadline-some views d ix.rising is in
      let listed : list_any (is_at (pair_cmp (d, found.0))) timers ≡ true = ix.timed d found.0 ∙ found.1 in
      let no : false ≡ true = rw empty at listed in cc
] refl

-- the first timer has the least deadline
pub least-is : (views : List (ℕ × Entry)) (timers numbers : List (ℕ × ℕ)) → IsIndexed views timers numbers → (first : ℕ × ℕ)
    → IsTrue (list_any (is_at (pair_cmp first)) timers)
    → ((q : ℕ × ℕ) → IsTrue (list_any (is_at (pair_cmp q)) timers) → is_gt (pair_cmp first q) ≡ false)
    → next_deadline views ≡ Some first.0
least-is views timers numbers ix first member least =
    let here : has_deadline first.0 (entry_at views first.1) ≡ true = sym (ix.timed first.0 first.1) ∙ member in
    elim (next_deadline views) as (λ o. next_deadline views ≡ o → o ≡ Some first.0) [
      | None ↦ λ is. absurd (deadline-none views first.0 first.1 is here)
      | Some d ↦ λ is.
          let low : d ≤ first.0 = deadline-least views d first.0 first.1 is here in
          let found = deadline-some views d ix.rising is in
          let listed : list_any (is_at (pair_cmp (d, found.0))) timers ≡ true = ix.timed d found.0 ∙ found.1 in
          let not_after = least (d, found.0) listed in
          let high : first.0 ≤ d = pair_low first.0 first.1 d found.0 not_after in
          ap Some (let same : d ≡ first.0 = omega arith in same)
    ] refl
