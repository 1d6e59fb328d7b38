-- The stairs: what a look-up tells, and what one more pair makes of them.
use Rattle.std.proofs.Common.{◌≡◌, ℕ, ◌+◌, ◌<◌, ◌≤◌, ◌==◌, ◌||◌, nat_lt, Bool, true, false, Option, Some, None, if◌then◌else◌, refl, sym, ap, subst, ◌∙◌, ◌⊎◌, inl, inr, arith, eqb-true, eq-eqb, ltb-true, ltb-false, lt-ltb}
use Rattle.std.specs.Option.{is_some}
use Rattle.std.proofs.lemmas.Bool.{and_parts, eqb-false, or_cases, or_left, or_right}
use Rattle.simplex_conflicts.specs.Stairs.{Rising, is_between, if_above}
use Rattle.simplex_conflicts.proofs.Tests.{never, either, same_answer}

-- ---- looking up

pub spans_first : (uppers : ℕ → Option ℕ) (spanned : ℕ → Bool) (view : ℕ) → Rising uppers spanned → view < 1 → false ≡ spanned view
spans_first uppers spanned view stairs low = sym (never (spanned view) (λ e. (let w = stairs.some view e in let lt : w.0 < view = w.3 in omega arith)))

pub spans_none : (uppers : ℕ → Option ℕ) (spanned : ℕ → Bool) (before view : ℕ) → Rising uppers spanned → before + 1 ≡ view
    → ((q : ℕ) → q ≤ before → uppers q ≡ None) → false ≡ spanned view
spans_none uppers spanned before view stairs next none = sym (never (spanned view) (λ e. (
    let w = stairs.some view e in
    let lt : w.0 < view = w.3 in
    let gone = none w.0 (omega arith) in
    let here = w.2 in
    cc)))

pub spans_some : (uppers : ℕ → Option ℕ) (spanned : ℕ → Bool) (before view a b : ℕ) → Rising uppers spanned → before + 1 ≡ view
    → uppers a ≡ Some b → a ≤ before → ((q : ℕ) → q ≤ before → is_some (uppers q) ≡ true → q ≤ a) → nat_lt view b ≡ spanned view
spans_some uppers spanned before view a b stairs next pair bound greatest =
    same_answer (nat_lt view b) (spanned view)
    (λ e. stairs.each a b view pair (omega arith) (ltb-true view b e))
    (λ e. (
    let w = stairs.some view e in
    let below : w.0 < view = w.3 in
    let above : view < w.1 = w.4 in
    let is : is_some (uppers w.0) ≡ true = rw w.2 refl in
    let le : w.0 ≤ a = greatest w.0 (omega arith) is in
    lt-ltb view b (reaches w.0 w.1 w.2 above le)))
  where
    order : (c : ℕ) → (c ≡ a → ⊥) → c ≤ a → c < a
    order c ne le = omega (arith, ne)

    reaches : (c d : ℕ) → uppers c ≡ Some d → view < d → c ≤ a → view < b
    reaches c d other above le = elim (either (c == a)) [
      | inl same ↦ (let is : c ≡ a = eqb-true c a same in let one : Some d ≡ Some b = sym other ∙ ap uppers is ∙ pair in let eq : d ≡ b = cc in omega arith)
      | inr apart ↦ (let ne = eqb-false c a apart in let lt : c < a = order c ne le in let more : d < b = stairs.rises c d a b other pair lt in omega arith)
    ]

-- ---- clearing

pub record Clearing (old now : ℕ → Option ℕ) (lower upper : ℕ) : Type 0 where
  pub part : (a b : ℕ) → now a ≡ Some b → old a ≡ Some b
  pub below : (a : ℕ) → a < lower → now a ≡ old a
  pub above : (a b : ℕ) → old a ≡ Some b → upper < b → now a ≡ Some b

pub clearing_none : (old : ℕ → Option ℕ) (lower upper : ℕ) → Clearing old old lower upper
clearing_none old lower upper = record { part = λ a b e. e; below = λ a lt. refl; above = λ a b e lt. e }

pub clearing_more : (old now next : ℕ → Option ℕ) (lower upper first other : ℕ) → Clearing old now lower upper
    → now first ≡ Some other → lower ≤ first → other ≤ upper → ((q : ℕ) → next q ≡ (if first == q then None else now q)) → Clearing old next lower upper
clearing_more old now next lower upper first other clearing pair from small is = record {
  part = λ a b e. elim (either (first == a)) [
    | inl same ↦ absurd (let gone : next a ≡ None = is a ∙ rw same refl in cc)
    | inr apart ↦ clearing.part a b (sym (is a ∙ rw apart refl) ∙ e)
  ];
  below = λ a lt. is a ∙ rw (differs first a (omega arith)) (clearing.below a lt);
  above = λ a b e lt. elim (either (first == a)) [
    | inl same ↦ absurd (
        let here : now a ≡ Some b = clearing.above a b e lt in
        let eq : first ≡ a = eqb-true first a same in
        let one : Some other ≡ Some b = sym pair ∙ ap now eq ∙ here in
        let number : other ≡ b = cc in
        omega arith)
    | inr apart ↦ is a ∙ rw apart (clearing.above a b e lt)
  ];
}
  where
    differs : (a b : ℕ) → b < a → (a == b) ≡ false
    differs a b lt = never (a == b) (λ e. (let eq = eqb-true a b e in omega arith))

cleared_by : (old now : ℕ → Option ℕ) (lower upper : ℕ) → Clearing old now lower upper
    → ((a b : ℕ) → lower ≤ a → now a ≡ Some b → upper < b)
    → (a : ℕ) → now a ≡ (if nat_lt a lower then old a else if_above upper (old a))
cleared_by old now lower upper clearing all a = elim (either (nat_lt a lower)) [
  | inl lt ↦ rw lt (clearing.below a (ltb-true a lower lt))
  | inr ge ↦ rw ge (from (now a) (old a) refl refl (ltb-false a lower ge))
]
  where
    from : (x y : Option ℕ) → now a ≡ x → old a ≡ y → lower ≤ a → x ≡ if_above upper y
    from None None e f le = refl
    from None (Some b) e f le = elim (either (nat_lt upper b)) [
      | inl lt ↦ absurd (let here = clearing.above a b f (ltb-true upper b lt) in cc)
      | inr ge ↦ rw ge refl
    ]
    from (Some b) None e f le = absurd (let there = clearing.part a b e in cc)
    from (Some b) (Some d) e f le = (
        let there : old a ≡ Some b = clearing.part a b e in
        let same : b ≡ d = cc in
        let lt = lt-ltb upper b (all a b le e) in
        let test : nat_lt upper d ≡ true = ap (λ n. nat_lt upper n) (sym same) ∙ lt in
        rw test (ap (λ (n : ℕ). Some n) same))

pub cleared_none : (old now : ℕ → Option ℕ) (lower upper : ℕ) → Clearing old now lower upper → ((q : ℕ) → lower ≤ q → now q ≡ None)
    → (a : ℕ) → now a ≡ (if nat_lt a lower then old a else if_above upper (old a))
cleared_none old now lower upper clearing none = cleared_by old now lower upper clearing (λ a b le e. absurd (let gone = none a le in cc))

pub cleared_some : (old now : ℕ → Option ℕ) (spanned : ℕ → Bool) (lower upper first other : ℕ) → Rising old spanned → Clearing old now lower upper
    → now first ≡ Some other → ((q : ℕ) → lower ≤ q → q < first → now q ≡ None) → upper < other
    → (a : ℕ) → now a ≡ (if nat_lt a lower then old a else if_above upper (old a))
cleared_some old now spanned lower upper first other stairs clearing pair least large = cleared_by old now lower upper clearing all
  where
    order : (a : ℕ) → (first ≡ a → ⊥) → first ≤ a → first < a
    order a ne le = omega (arith, ne)

    all : (a b : ℕ) → lower ≤ a → now a ≡ Some b → upper < b
    all a b le e = elim (either (nat_lt a first)) [
      | inl lt ↦ absurd (let gone = least a le (ltb-true a first lt) in cc)
      | inr ge ↦ elim (either (first == a)) [
        | inl same ↦ (
            let eq : first ≡ a = eqb-true first a same in
            let one : Some other ≡ Some b = sym pair ∙ ap now eq ∙ e in
            let number : other ≡ b = cc in
            omega arith)
        | inr apart ↦ (
            let lt : first < a = order a (eqb-false first a apart) (ltb-false a first ge) in
            let more : other < b = stairs.rises first other a b (clearing.part first other pair) (clearing.part a b e) lt in
            omega arith)
      ]
    ]

-- ---- one more pair

-- it lies between the views of a pair that is kept
pub spanned_already : (uppers : ℕ → Option ℕ) (spanned : ℕ → Bool) (lower upper a b : ℕ) → Rising uppers spanned
    → uppers a ≡ Some b → a ≤ lower → upper ≤ b → Rising uppers (λ view. is_between lower upper view || spanned view)
spanned_already uppers spanned lower upper a b stairs pair low high = record {
  rises = stairs.rises;
  each = λ c d view e below above. or_right (is_between lower upper view) (spanned view) (stairs.each c d view e below above);
  some = λ view e. elim (or_cases (is_between lower upper view) (spanned view) e) [
    | inl new ↦ (
        let k = and_parts (nat_lt view upper) (nat_lt lower view) new in
        let lt : view < upper = ltb-true view upper k.0 in
        let gt : lower < view = ltb-true lower view k.1 in
        (a, b, pair, omega arith, omega arith))
    | inr old ↦ stairs.some view old
  ];
}

-- the pairs up to the lower view end below the upper one
pub all_lower : (uppers : ℕ → Option ℕ) (spanned : ℕ → Bool) (lower upper a b : ℕ) → Rising uppers spanned → uppers a ≡ Some b → b < upper
    → ((q : ℕ) → q ≤ lower → is_some (uppers q) ≡ true → q ≤ a) → (c d : ℕ) → c ≤ lower → uppers c ≡ Some d → d < upper
all_lower uppers spanned lower upper a b stairs pair low greatest c d le e = elim (either (c == a)) [
  | inl same ↦ (let eq : c ≡ a = eqb-true c a same in let one : Some d ≡ Some b = sym e ∙ ap uppers eq ∙ pair in let number : d ≡ b = cc in omega arith)
  | inr apart ↦ (
      let is : is_some (uppers c) ≡ true = rw e refl in
      let lt : c < a = order (eqb-false c a apart) (greatest c le is) in
      let more : d < b = stairs.rises c d a b e pair lt in
      omega arith)
]
  where
    order : (c ≡ a → ⊥) → c ≤ a → c < a
    order ne at_most = omega (arith, ne)

-- the upper view of each pair, when one more is put among those that were left
abbrev put_in : (ℕ → Option ℕ) → ℕ → ℕ → ℕ → Option ℕ
put_in uppers lower upper a = if lower == a then Some upper else if nat_lt a lower then uppers a else if_above upper (uppers a)

reaching : (upper b : ℕ) (x : Option ℕ) → if_above upper x ≡ Some b → (x ≡ Some b) × (upper < b)
reaching upper b None e = absurd (cc)
reaching upper b (Some d) e = elim (either (nat_lt upper d)) [
  | inl lt ↦ (let one : Some d ≡ Some b = rw lt at e in let number : d ≡ b = cc in let less = ltb-true upper d lt in (one, omega arith))
  | inr ge ↦ absurd (let none : None ≡ Some b = rw ge at e in cc)
]

-- which pairs there are then
entry : (uppers : ℕ → Option ℕ) (lower upper a b : ℕ) → put_in uppers lower upper a ≡ Some b
    → ((a ≡ lower) × (b ≡ upper)) ⊎ ((uppers a ≡ Some b) × ((a < lower) ⊎ ((lower < a) × (upper < b))))
entry uppers lower upper a b e = elim (either (lower == a)) [
  | inl same ↦ inl (sym (eqb-true lower a same), (let one : Some upper ≡ Some b = rw same at e in let number : upper ≡ b = cc in sym number))
  | inr apart ↦ elim (either (nat_lt a lower)) [
    | inl lt ↦ inr (rw (apart, lt) at e, inl (ltb-true a lower lt))
    | inr ge ↦ inr (
        let k = reaching upper b (uppers a) (rw (apart, ge) at e) in
        (k.0, inr (order (eqb-false lower a apart) (ltb-false a lower ge), k.1)))
  ]
]
  where
    order : (lower ≡ a → ⊥) → lower ≤ a → lower < a
    order ne le = omega (arith, ne)

pub spanned_more : (uppers next : ℕ → Option ℕ) (spanned : ℕ → Bool) (lower upper : ℕ) → Rising uppers spanned
    → ((a b : ℕ) → a ≤ lower → uppers a ≡ Some b → b < upper) → ((a : ℕ) → next a ≡ put_in uppers lower upper a)
    → Rising next (λ view. is_between lower upper view || spanned view)
spanned_more uppers next spanned lower upper stairs low is = record {
  rises = λ a b c d e f lt. rising a b c d lt (entry uppers lower upper a b (sym (is a) ∙ e)) (entry uppers lower upper c d (sym (is c) ∙ f));
  each = λ a b view e below above. inside a b view below above (entry uppers lower upper a b (sym (is a) ∙ e));
  some = λ view e. elim (or_cases (is_between lower upper view) (spanned view) e) [
    | inl new ↦ (
        let k = and_parts (nat_lt view upper) (nat_lt lower view) new in
        (lower, upper, is lower ∙ rw (eq-eqb lower lower refl) refl, ltb-true lower view k.1, ltb-true view upper k.0))
    | inr old ↦ (let w = stairs.some view old in kept view w.0 w.1 w.2 w.3 w.4)
  ];
}
  where
    rising : (a b c d : ℕ) → a < c
        → ((a ≡ lower) × (b ≡ upper)) ⊎ ((uppers a ≡ Some b) × ((a < lower) ⊎ ((lower < a) × (upper < b))))
        → ((c ≡ lower) × (d ≡ upper)) ⊎ ((uppers c ≡ Some d) × ((c < lower) ⊎ ((lower < c) × (upper < d)))) → b < d
    rising a b c d lt (inl k) (inl m) = absurd (let eq = k.0 in let eq' = m.0 in omega arith)
    rising a b c d lt (inl k) (inr (f, inl less)) = absurd (let eq = k.0 in omega arith)
    rising a b c d lt (inl k) (inr (f, inr more)) = (let eq = k.1 in let gt = more.1 in omega arith)
    rising a b c d lt (inr (e, side)) (inl m) = (
        let eq : c ≡ lower = m.0 in
        let number : d ≡ upper = m.1 in
        let less : b < upper = low a b (omega arith) e in
        omega arith)
    rising a b c d lt (inr (e, side)) (inr (f, other)) = stairs.rises a b c d e f lt

    between : (view : ℕ) → lower < view → view < upper → is_between lower upper view ≡ true
    between view above below = rw (lt-ltb view upper below, lt-ltb lower view above) refl

    inside : (a b view : ℕ) → a < view → view < b
        → ((a ≡ lower) × (b ≡ upper)) ⊎ ((uppers a ≡ Some b) × ((a < lower) ⊎ ((lower < a) × (upper < b))))
        → (is_between lower upper view || spanned view) ≡ true
    inside a b view below above (inl k) = (
        let from = k.0 in
        let to = k.1 in
        or_left (is_between lower upper view) (spanned view) (between view (omega arith) (omega arith)))
    inside a b view below above (inr (e, side)) = or_right (is_between lower upper view) (spanned view) (stairs.each a b view e below above)

    apart : (m n : ℕ) → n < m → (m == n) ≡ false
    apart m n lt = never (m == n) (λ e. (let eq = eqb-true m n e in omega arith))

    apart' : (m n : ℕ) → m < n → (m == n) ≡ false
    apart' m n lt = never (m == n) (λ e. (let eq = eqb-true m n e in omega arith))

    further : (a b : ℕ) → lower ≤ a → uppers a ≡ Some b → upper < b → lower < a
    further a b at_least e more = elim (either (nat_lt lower a)) [
      | inl lt ↦ ltb-true lower a lt
      | inr ge ↦ absurd (let le = ltb-false lower a ge in let less : b < upper = low a b le e in omega arith)
    ]

    -- an old pair is left, or the new one reaches further
    kept : (view a b : ℕ) → uppers a ≡ Some b → a < view → view < b → (c : ℕ) × (d : ℕ) × (next c ≡ Some d) × (c < view) × (view < d)
    kept view a b e below above = elim (either (nat_lt a lower)) [
      | inl lt ↦ (let less = ltb-true a lower lt in (a, b, is a ∙ rw (apart lower a less, lt) e, below, above))
      | inr ge ↦ elim (either (nat_lt upper b)) [
        | inl long ↦ (
            let at_least = ltb-false a lower ge in
            let more = ltb-true upper b long in
            let beyond : lower < a = further a b at_least e more in
            (a, b, is a ∙ rw (apart' lower a beyond, ge, e, long) refl, below, above))
        | inr short ↦ (
            let at_least = ltb-false a lower ge in
            let most = ltb-false upper b short in
            (lower, upper, is lower ∙ rw (eq-eqb lower lower refl) refl, omega arith, omega arith))
      ]
    ]

-- ---- whether a pair reaches as far

pub reaches_none : (uppers : ℕ → Option ℕ) (lower upper : ℕ) → ((q : ℕ) → q ≤ lower → uppers q ≡ None)
    → (a : ℕ) × (b : ℕ) × (uppers a ≡ Some b) × (a ≤ lower) × (upper ≤ b) → ⊥
reaches_none uppers lower upper none w = (let gone = none w.0 w.3 in let here = w.2 in cc)

pub reaches_most : (uppers : ℕ → Option ℕ) (spanned : ℕ → Bool) (lower upper a b : ℕ) → Rising uppers spanned → uppers a ≡ Some b
    → ((q : ℕ) → q ≤ lower → is_some (uppers q) ≡ true → q ≤ a)
    → (c : ℕ) × (d : ℕ) × (uppers c ≡ Some d) × (c ≤ lower) × (upper ≤ d) → upper ≤ b
reaches_most uppers spanned lower upper a b stairs pair greatest w = elim (either (nat_lt b upper)) [
  | inl lt ↦ absurd (
      let less = all_lower uppers spanned lower upper a b stairs pair (ltb-true b upper lt) greatest w.0 w.1 w.3 w.2 in
      let most = w.4 in
      omega arith)
  | inr ge ↦ ltb-false b upper ge
]

pub not_reached : (uppers : ℕ → Option ℕ) (lower upper : ℕ) → ((c : ℕ) × (d : ℕ) × (uppers c ≡ Some d) × (c ≤ lower) × (upper ≤ d) → ⊥)
    → (a b : ℕ) → a ≤ lower → uppers a ≡ Some b → b < upper
not_reached uppers lower upper never_so a b le e = elim (either (nat_lt b upper)) [
  | inl lt ↦ ltb-true b upper lt
  | inr ge ↦ absurd (never_so (a, b, e, le, ltb-false b upper ge))
]

-- the same numbers in other words
pub spanned_same : (uppers : ℕ → Option ℕ) (spanned : ℕ → Bool) (lower lower' upper upper' : ℕ) → lower ≡ lower' → upper ≡ upper'
    → Rising uppers (λ view. is_between lower upper view || spanned view) → Rising uppers (λ view. is_between lower' upper' view || spanned view)
spanned_same uppers spanned lower lower' upper upper' e f stairs =
    subst (λ n. Rising uppers (λ view. is_between lower' n view || spanned view)) f
    (subst (λ n. Rising uppers (λ view. is_between n upper view || spanned view)) e stairs)
