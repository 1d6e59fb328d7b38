-- A request of a number stands at its place.
use Rattle.std.proofs.Common.{◌≡◌, ℕ, ◌+◌, ◌-◌, ◌<◌, ◌≤◌, ◌==◌, ◌&&◌, nat_lt, nat_le, Bool, true, false, List, [], ◌∷◌, ◌++◌, length, Option, Some, None, refl, sym, ap, ◌∙◌, arith, ltb-true, ltb-false, leb-true, leb-false, if◌then◌else◌}
use Rattle.std.specs.List.{slice_get}
use Rattle.model_rules.specs.declared.request.Asked.{Asked}
use Rattle.simplex_transcript.specs.declared.node.Node.{Node}
use Rattle.simplex_transcript.specs.declared.node.Ref.{Ref}
use Rattle.model_run.specs.Life.{Noted, is_of}
use Rattle.model_run.specs.Requests.{is_start, asked_since, request_number, request_place}
use Rattle.law_run.proofs.Telling.{some_is}
use Rattle.law_run.specs.Asked.{asked_at, asked_of}
use Rattle.law_run.proofs.AskedListing.{place_front, place_behind}
use Rattle.law_run.proofs.Numbers.{asked_counts, within}
use Rattle.law_requests.proofs.Numbers.{unlike, stands_below}

below_test : (a b : ℕ) → a < b → nat_lt a b ≡ true
below_test a b lt = at (nat_lt a b) refl
  where
    at : (t : Bool) → nat_lt a b ≡ t → t ≡ true
    at true e = refl
    at false e = absurd (omega (arith, lt, ltb-false a b e))

above_test : (a b : ℕ) → a ≤ b → nat_le a b ≡ true
above_test a b le = at (nat_le a b) refl
  where
    at : (t : Bool) → nat_le a b ≡ t → t ≡ true
    at true e = refl
    at false e = absurd (omega (arith, le, leb-false a b e))

not_above_test : (a b : ℕ) → b < a → nat_le a b ≡ false
not_above_test a b lt = at (nat_le a b) refl
  where
    at : (t : Bool) → nat_le a b ≡ t → t ≡ false
    at true e = absurd (omega (arith, lt, leb-true a b e))
    at false e = refl

-- where the request stands, what is asked there, and its number
abbrev pub IsNamed : Option Ref → (Ref → Option Asked) → (Ref → Option ℕ) → ℕ → ℕ → Asked → Type 0
IsNamed place asks numbered events number asked =
    (at : Ref) × (place ≡ Some at) × (asks at ≡ Some asked) × (numbered at ≡ Some number) × (at.event ≤ events)

pub number_stands : (noted : List Noted) (node : Node) (number : ℕ) (asked : Asked) → slice_get (asked_of noted node) number ≡ Some asked
    → IsNamed (request_place noted node number) (asked_at noted) (request_number noted node) (length noted) number asked
unfolding request_place request_number asked_at asked_of
number_stands [] node number asked e = cc
number_stands (noted ∷ before) node number asked e =
    cases (is_of node noted.event) (is_start noted.event) (number_stands before node number asked) e
  where
    old : List Asked
    old = asked_of before node

    new : List Asked
    new = noted.entry.asked

    first : Bool → ℕ
    first s = if s then 0 else asked_since before node

    here : Bool → Ref
    here s = record { event = length before + 1; place = number - first s }

    place : Bool → Bool → Option Ref
    place o s =
        if o && nat_le (first s) number && nat_lt number (first s + length new)
        then Some (here s)
        else if o && s then None
        else request_place before node number

    asks : Ref → Option Asked
    asks at = if length before + 1 == at.event then slice_get new at.place else asked_at before at

    numbered : Bool → Bool → Ref → Option ℕ
    numbered o s at =
        if length before + 1 == at.event
        then (if o && nat_lt at.place (length new) then Some (first s + at.place) else None)
        else if o && s then None else request_number before node at

    eq_self : (n : ℕ) → (n == n) ≡ true
    eq_self n = at (n == n) refl
      where
        at : (t : Bool) → (n == n) ≡ t → t ≡ true
        at true e = refl
        at false e = grind (arith, e)

    -- it stands in this entry
    in_new : (s : Bool) → first s ≤ number → slice_get new (number - first s) ≡ Some asked → IsNamed (place true s) asks (numbered true s) (length (noted ∷ before)) number asked
    in_new s above there =
        let lt : number - first s < length new = stands_below new (number - first s) asked there in
        let self : (length before + 1 == length before + 1) ≡ true = eq_self (length before + 1) in
        let is : first s + (number - first s) ≡ number = omega (arith, above) in (
          here s,
          ap (λ b. if b && nat_lt number (first s + length new) then Some (here s) else if s then None else request_place before node number) (above_test (first s) number above)
              ∙ ap (λ b. if b then Some (here s) else if s then None else request_place before node number) (below_test number (first s + length new) (omega (arith, above, lt))),
          ap (λ b. if b then slice_get new (number - first s) else asked_at before (here s)) self ∙ there,
          ap (λ b. if b then (if nat_lt (number - first s) (length new) then Some (first s + (number - first s)) else None) else if s then None else request_number before node (here s)) self
              ∙ ap (λ b. if b then Some (first s + (number - first s)) else None) (below_test (number - first s) (length new) lt) ∙ ap Some is,
          omega arith,
        )

    -- or before it, since the start
    in_old : (o : Bool) → (o ≡ true → number < asked_since before node) → IsNamed (request_place before node number) (asked_at before) (request_number before node) (length before) number asked
        → IsNamed (place o false) asks (numbered o false) (length (noted ∷ before)) number asked
    in_old o under n =
        let at = n.0 in
        let apart : (length before + 1 == at.event) ≡ false = unlike (length before + 1) at.event (λ same. omega (arith, same, n.4)) in (
          at,
          by o under ∙ n.1,
          ap (λ b. if b then slice_get new at.place else asked_at before at) apart ∙ n.2,
          ap (λ b. if b then (if o && nat_lt at.place (length new) then Some (asked_since before node + at.place) else None) else if o && false then None else request_number before node at) apart ∙ none o ∙ n.3,
          omega (arith, n.4),
        )
      where
        by : (o : Bool) → (o ≡ true → number < asked_since before node) → place o false ≡ request_place before node number
        by true under = ap (λ b. if b && nat_lt number (asked_since before node + length new) then Some (here false) else request_place before node number) (not_above_test (asked_since before node) number (under refl))
        by false under = refl

        none : (o : Bool) → (if o && false then None else request_number before node n.0) ≡ request_number before node n.0
        none true = refl
        none false = refl

    cases : (o s : Bool) → (slice_get old number ≡ Some asked → IsNamed (request_place before node number) (asked_at before) (request_number before node) (length before) number asked)
        → slice_get (if o then (if s then new else old ++ new) else old) number ≡ Some asked → IsNamed (place o s) asks (numbered o s) (length (noted ∷ before)) number asked
    cases false true earlier e =
        let n = earlier e in
        let apart : (length before + 1 == n.0.event) ≡ false = unlike (length before + 1) n.0.event (λ same. omega (arith, same, n.4)) in (
          n.0,
          n.1,
          ap (λ b. if b then slice_get new n.0.place else asked_at before n.0) apart ∙ n.2,
          ap (λ b. if b then None else request_number before node n.0) apart ∙ n.3,
          omega (arith, n.4),
        )
    cases false false earlier e = in_old false (λ t. absurd (never t)) (earlier e)
      where
        never : false ≡ true → ⊥
        never e = cc
    cases true true earlier e = (let same : number - 0 ≡ number = omega arith in in_new true (omega arith) (ap (slice_get new) same ∙ e))
    cases true false earlier e = split (nat_lt number (length old)) refl
      where
        split : (b : Bool) → nat_lt number (length old) ≡ b → IsNamed (place true false) asks (numbered true false) (length (noted ∷ before)) number asked
        split true t =
            let lt : number < length old = ltb-true number (length old) t in
            let x = within old number lt in
            let same : x.0 ≡ asked = some_is x.0 asked (sym (place_front old new number x.0 x.1) ∙ e) in
            in_old true (λ u. omega (arith, lt, asked_counts before node)) (earlier (x.1 ∙ ap Some same))
        split false f =
            let le : length old ≤ number = ltb-false number (length old) f in
            let is : length old + (number - length old) ≡ number = omega (arith, le) in
            let there : slice_get new (number - length old) ≡ Some asked = sym (place_behind old new (number - length old)) ∙ ap (slice_get (old ++ new)) is ∙ e in
            let counts : asked_since before node ≡ length old = asked_counts before node in
            in_new false (omega (arith, le, counts)) (ap (λ k. slice_get new (number - k)) counts ∙ there)
