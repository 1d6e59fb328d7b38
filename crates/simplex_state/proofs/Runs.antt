-- What a set that is kept as runs holds, by the run that decides.
use Rattle.std.proofs.Common.{◌≡◌, ℕ, ◌+◌, ◌-◌, ◌==◌, ◌<◌, ◌≤◌, ◌||◌, min, nat_le, Bool, true, false, Option, Some, None, if◌then◌else◌, refl, inl, inr, ◌⊎◌, arith}
use Rattle.std.proofs.lemmas.Grind.{common_steps}
use Rattle.std.specs.Option.{is_some}
use Rattle.simplex_values.specs.Maps.{found}
use Rattle.simplex_state.specs.declared.ranges.Ranges.{Ranges}
use Rattle.simplex_state.specs.Ranges.{start_of, holds}
use Rattle.simplex_state.proofs.Greatest.{greatest_is, greatest_none, greatest_passes, greatest_rest, nothing_passes}

-- ---- the start that decides

pub start_is : (ranges : Ranges) (number start : ℕ) → start ≤ number → is_some (found ranges.runs start) ≡ true
    → ((q : ℕ) → start < q → q ≤ number → is_some (found ranges.runs q) ≡ false)
    → start_of ranges number ≡ Some start
unfolding start_of
start_is ranges number start le some none =
    greatest_is (λ u. is_some (found ranges.runs u)) (number + 1) start (omega (arith, le)) some (λ q l h. none q l (omega (arith, h)))

pub start_none : (ranges : Ranges) (number : ℕ) → ((q : ℕ) → q ≤ number → is_some (found ranges.runs q) ≡ false) → start_of ranges number ≡ None
unfolding start_of
start_none ranges number none = greatest_none (λ u. is_some (found ranges.runs u)) (number + 1) (λ q h. none q (omega (arith, h)))

-- what is known of it
record Starts (ranges : Ranges) (number start : ℕ) : Type 0 where
  some : is_some (found ranges.runs start) ≡ true
  below : start ≤ number
  rest : (q : ℕ) → start < q → q ≤ number → is_some (found ranges.runs q) ≡ false

starts : (ranges : Ranges) (number start : ℕ) → start_of ranges number ≡ Some start → Starts ranges number start
unfolding start_of
starts ranges number start e =
    (let w = greatest_passes (λ u. is_some (found ranges.runs u)) (number + 1) start e in
    record {
      some = w.0;
      below = omega (arith, w.1);
      rest = λ q l h. greatest_rest (λ u. is_some (found ranges.runs u)) (number + 1) start q e l (omega (arith, h));
    })

starts_not : (ranges : Ranges) (number q : ℕ) → start_of ranges number ≡ None → q ≤ number → is_some (found ranges.runs q) ≡ false
unfolding start_of
starts_not ranges number q e h = nothing_passes (λ u. is_some (found ranges.runs u)) (number + 1) q e (omega (arith, h))

pub holds_by : (ranges : Ranges) (number start more : ℕ) → start_of ranges number ≡ Some start → found ranges.runs start ≡ Some more
    → holds ranges number ≡ nat_le number (start + more)
unfolding holds
holds_by ranges number start more e f = grind (arith, common_steps, e, f)

pub holds_not : (ranges : Ranges) (number : ℕ) → start_of ranges number ≡ None → holds ranges number ≡ false
unfolding holds
holds_not ranges number e = grind (arith, common_steps, e)

-- ---- orders

parts : (u number : ℕ) → (u ≤ number) ⊎ (number < u)
parts u number = grind arith

lies : (q start : ℕ) → (q < start) ⊎ (start ≤ q)
lies q start = grind arith

bare : {A : Type 0} (o : Option A) → is_some o ≡ false → o ≡ None
bare o none = grind (arith, common_steps, none)

some_none : {A : Type 0} (o : Option A) → is_some o ≡ true → o ≡ None → ⊥
some_none o some none = absurd (grind (arith, common_steps, some, none))

-- ---- by the run that is found

rest_bare : (ranges : Ranges) (number start q : ℕ) → ((u : ℕ) → u ≤ number → is_some (found ranges.runs u) ≡ true → u ≤ start)
    → start < q → q ≤ number → (some : Bool) → is_some (found ranges.runs q) ≡ some → some ≡ false
rest_bare ranges number start q greatest above below false e = refl
rest_bare ranges number start q greatest above below true e = absurd (omega (arith, greatest q below e, above))

pub run_decides : (ranges : Ranges) (number start more : ℕ) → found ranges.runs start ≡ Some more → start ≤ number
    → ((q : ℕ) → q ≤ number → is_some (found ranges.runs q) ≡ true → q ≤ start)
    → start_of ranges number ≡ Some start
run_decides ranges number start more is below greatest =
    start_is ranges number start below (grind (arith, common_steps, is)) (λ q l h. rest_bare ranges number start q greatest l h _ refl)

pub run_holds : (ranges : Ranges) (number start more : ℕ) → found ranges.runs start ≡ Some more → start ≤ number
    → ((q : ℕ) → q ≤ number → is_some (found ranges.runs q) ≡ true → q ≤ start)
    → holds ranges number ≡ nat_le (number - start) more
run_holds ranges number start more is below greatest =
    grind (arith, common_steps, holds_by ranges number start more (run_decides ranges number start more is below greatest) is, below)

pub nothing_holds : (ranges : Ranges) (number : ℕ) → ((q : ℕ) → q ≤ number → found ranges.runs q ≡ None) → holds ranges number ≡ false
nothing_holds ranges number none = holds_not ranges number (start_none ranges number (λ q h. grind (arith, common_steps, none q h)))

-- up from the number, the run goes on up to the next start
pub run_reaches : (ranges : Ranges) (number start more q : ℕ) → found ranges.runs start ≡ Some more → start ≤ number
    → ((u : ℕ) → u ≤ number → is_some (found ranges.runs u) ≡ true → u ≤ start)
    → number ≤ q → q ≤ start + more
    → ((u : ℕ) → number < u → u ≤ q → found ranges.runs u ≡ None)
    → holds ranges q ≡ true
run_reaches ranges number start more q is below greatest from to none =
    (let begins = start_is ranges q start (omega (arith, below, from)) (grind (arith, common_steps, is)) (λ u l h. elim (parts u number) [
      | inl low ↦ rest_bare ranges number start u greatest l low _ refl
      | inr high ↦ grind (arith, common_steps, none u high h)
    ]) in
    grind (arith, common_steps, holds_by ranges q start more begins is, to))

-- down from the number, the run goes back to its start
pub run_holds_below : (ranges : Ranges) (number start more q : ℕ) → found ranges.runs start ≡ Some more
    → ((u : ℕ) → u ≤ number → is_some (found ranges.runs u) ≡ true → u ≤ start)
    → start ≤ q → q ≤ number
    → holds ranges q ≡ nat_le q (start + more)
run_holds_below ranges number start more q is greatest from to =
    holds_by ranges q start more
    (start_is ranges q start from (grind (arith, common_steps, is)) (λ u l h. rest_bare ranges number start u greatest l (omega (arith, h, to)) _ refl))
    is

pub run_alone : (ranges : Ranges) (number start q : ℕ) → ((u : ℕ) → u ≤ number → is_some (found ranges.runs u) ≡ true → u ≤ start)
    → start < q → q ≤ number → found ranges.runs q ≡ None
run_alone ranges number start q greatest above below = bare _ (rest_bare ranges number start q greatest above below _ refl)

-- what is held up to the number does not pass the run's end
held_in : (ranges : Ranges) (number start more q least : ℕ) → found ranges.runs start ≡ Some more → start ≤ number
    → ((u : ℕ) → u ≤ number → is_some (found ranges.runs u) ≡ true → u ≤ start)
    → q ≤ number → holds ranges q ≡ true
    → least ≡ min more (number - start)
    → (start ≤ q) ⊎ (q < start)
    → q ≤ start + least
held_in ranges number start more q least is below greatest le member is_least (inl from) =
    grind (arith, common_steps, run_holds_below ranges number start more q is greatest from le, member, is_least, le, below)
held_in ranges number start more q least is below greatest le member is_least (inr before) = omega (arith, before)

pub held_below : (ranges : Ranges) (number start more q least : ℕ) → found ranges.runs start ≡ Some more → start ≤ number
    → ((u : ℕ) → u ≤ number → is_some (found ranges.runs u) ≡ true → u ≤ start)
    → q ≤ number → holds ranges q ≡ true
    → least ≡ min more (number - start)
    → q ≤ start + least
held_below ranges number start more q least is below greatest le member is_least =
    held_in ranges number start more q least is below greatest le member is_least (parts start q)

-- ---- a number goes in

opens_run : (old new : Ranges) (start number q : ℕ)
    → ((u : ℕ) → found new.runs u ≡ (if start == u then Some (number - start) else found old.runs u))
    → start ≤ q
    → ((u : ℕ) → start < u → u ≤ q → is_some (found old.runs u) ≡ false)
    → start ≤ number
    → holds new q ≡ nat_le q number
opens_run old new start number q puts le rest below =
    (let begins = start_is new q start le (grind (arith, common_steps, puts start)) (λ u l h. grind (arith, common_steps, puts u, rest u l h, l)) in
    let w = holds_by new q start (number - start) begins (grind (arith, common_steps, puts start)) in
    grind (arith, common_steps, w, below))

-- the run that starts later, or ends before, stays
same_run : (old new : Ranges) (start number q s : ℕ)
    → ((u : ℕ) → found new.runs u ≡ (if start == u then Some (number - start) else found old.runs u))
    → start_of old q ≡ Some s
    → (q < start) ⊎ (start < s)
    → holds new q ≡ holds old q
unfolding holds
same_run old new start number q s puts e apart =
    (let w = starts old q s e in
    let begins = start_is new q s w.below (grind (arith, common_steps, puts s, w.some, apart, w.below)) (λ u l h. grind (arith, common_steps, puts u, w.rest u l h, apart, l, h, w.below)) in
    grind (arith, common_steps, begins, e, puts s, apart, w.below))

past_end : (old : Ranges) (number q s : ℕ) → start_of old q ≡ Some s → s ≤ number → number ≤ q → holds old number ≡ false → holds old q ≡ false
unfolding holds
past_end old number q s e low le out =
    (let w = starts old q s e in
    let before = start_is old number s low w.some (λ u l h. w.rest u l (omega (arith, h, le))) in
    grind (arith, common_steps, e, before, out, le))

inserts_in : (old new : Ranges) (start number q s : ℕ) → start_of old q ≡ Some s
    → ((u : ℕ) → found new.runs u ≡ (if start == u then Some (number - start) else found old.runs u))
    → start ≤ number
    → ((u : ℕ) → start ≤ u → u < number → holds old u ≡ true)
    → holds old number ≡ false
    → start ≤ q
    → s ≤ start
    → (number ≤ q) ⊎ (q < number)
    → holds new q ≡ (number == q || holds old q)
inserts_in old new start number q s e puts below held out high before (inl behind) =
    (let w = opens_run old new start number q puts high (λ u l h. (starts old q s e).rest u (omega (arith, before, l)) h) below in
    let past = past_end old number q s e (omega (arith, before, below)) behind out in
    grind (arith, common_steps, w, past))
inserts_in old new start number q s e puts below held out high before (inr ahead) =
    (let w = opens_run old new start number q puts high (λ u l h. (starts old q s e).rest u (omega (arith, before, l)) h) below in
    grind (arith, common_steps, w, held q high ahead, ahead))

inserts : (old new : Ranges) (start number q : ℕ) (o : Option ℕ) → start_of old q ≡ o
    → ((u : ℕ) → found new.runs u ≡ (if start == u then Some (number - start) else found old.runs u))
    → start ≤ number
    → ((u : ℕ) → start ≤ u → u < number → holds old u ≡ true)
    → ((u : ℕ) → start < u → u ≤ number → found old.runs u ≡ None)
    → holds old number ≡ false
    → (q < start) ⊎ (start ≤ q)
    → holds new q ≡ (number == q || holds old q)
inserts old new start number q None e puts below held alone out (inl low) =
    (let none = start_none new q (λ u h. grind (arith, common_steps, puts u, starts_not old q u e h, low, h)) in
    grind (arith, common_steps, holds_not new q none, holds_not old q e, low, below))
inserts old new start number q None e puts below held alone out (inr high) =
    (let w = opens_run old new start number q puts high (λ u l h. starts_not old q u e h) below in
    grind (arith, common_steps, w, holds_not old q e, held q high))
inserts old new start number q (Some s) e puts below held alone out (inl low) =
    grind (arith, common_steps, same_run old new start number q s puts e (inl low), low, below)
inserts old new start number q (Some s) e puts below held alone out (inr high) = elim (parts s start) [
  | inl before ↦ inserts_in old new start number q s e puts below held out high before (parts number q)
  | inr behind ↦ elim (parts s number) [
    | inl within ↦ absurd (some_none (found old.runs s) (starts old q s e).some (alone s behind within))
    | inr past ↦ grind (arith, common_steps, same_run old new start number q s puts e (inr behind), (starts old q s e).below, past)
  ]
]

pub inserted : (old new : Ranges) (start number : ℕ)
    → ((u : ℕ) → found new.runs u ≡ (if start == u then Some (number - start) else found old.runs u))
    → start ≤ number
    → ((u : ℕ) → start ≤ u → u < number → holds old u ≡ true)
    → ((u : ℕ) → start < u → u ≤ number → found old.runs u ≡ None)
    → holds old number ≡ false
    → (q : ℕ) → holds new q ≡ (number == q || holds old q)
inserted old new start number puts below held alone out q =
    inserts old new start number q _ refl puts below held alone out (lies q start)
