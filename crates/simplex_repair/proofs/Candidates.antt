-- Which views can be gaps.
use Rattle.std.proofs.Common.{◌≡◌, ℕ, ◌+◌, ◌-◌, ◌<◌, ◌≤◌, ◌∷◌, [], if◌then◌else◌, max, false, List, arith}
use Rattle.std.proofs.lemmas.Grind.{common_steps}
use Rattle.std.specs.List.{list_any}
use Rattle.simplex_values.specs.Terms.{next_term_start}
use Rattle.model_rules.specs.Repair.{RepairCall, is_gap, is_failed, is_first_above, is_replayed_in, repair_floor}
use Rattle.simplex_repair.specs.Gaps.{gaps_between}
use Rattle.simplex_repair.proofs.Ranges.{skip_front, none_left}
use Rattle.simplex_repair.proofs.Held.{before_replay}
use Rattle.simplex_repair.proofs.Terms.{same_start, start_low}

-- a view that did not fail and is not its term's first above the floor is no gap
pub no_gap : (length : ℕ) (calls : List RepairCall) (view : ℕ) → is_failed calls view ≡ false → is_first_above length (repair_floor calls) view ≡ false
    → is_gap length calls view ≡ false
unfolding is_gap
no_gap length calls view f a = grind (arith, common_steps, f, a)

-- up to the floor there is no gap
pub no_gap_low : (length : ℕ) (calls : List RepairCall) (view : ℕ) → view ≤ repair_floor calls → is_gap length calls view ≡ false
unfolding is_gap
no_gap_low length calls view le = grind (arith, common_steps, le)

-- behind a view of a term that is not the first above the floor, none of the term is
pub rest_of_term : (length floor a q : ℕ) → 0 < length → floor < a → is_first_above length floor a ≡ false → a ≤ q → q < next_term_start length a
    → is_first_above length floor q ≡ false
unfolding is_first_above
rest_of_term length floor a q some above here le lt = grind (arith, common_steps, same_start length a q some (omega (arith, above)) le lt, start_low length a some, above, here, le)

-- views that are no gaps may be passed over
pub pass_over : (length : ℕ) (calls : List RepairCall) (a b last : ℕ) → a ≤ b → ((q : ℕ) → a < q → q ≤ b → q ≤ last → is_gap length calls q ≡ false)
    → gaps_between length calls b last ≡ gaps_between length calls a last
unfolding gaps_between
pass_over length calls a b last le none =
    (let w = skip_front (is_gap length calls) (a + 1) (b - a) (last - a) (λ q l h k. none q (omega (arith, l)) (omega (arith, h, le)) (omega (arith, k, l))) in
    grind (arith, w, le))

-- the next view
pub next_gap : (length : ℕ) (calls : List RepairCall) (a last : ℕ) → a < last
    → gaps_between length calls a last ≡ (if is_gap length calls (a + 1) then (a + 1) ∷ gaps_between length calls (a + 1) last else gaps_between length calls (a + 1) last)
unfolding gaps_between
next_gap length calls a last lt = (let e : last - a ≡ (last - (a + 1)) + 1 = omega (arith, lt) in grind (arith, common_steps, e))

-- behind the last view there is nothing
pub no_more : (length : ℕ) (calls : List RepairCall) (a last : ℕ) → last ≤ a → gaps_between length calls a last ≡ []
unfolding gaps_between
no_more length calls a last le = (let e : last - a ≡ 0 = omega (arith, le) in grind (arith, common_steps, e))

-- the next gap, where it is this view or behind it
pub step_gap : (length : ℕ) (calls : List RepairCall) (a u last : ℕ) → a < u → u ≤ last → ((q : ℕ) → a < q → q < u → is_gap length calls q ≡ false)
    → gaps_between length calls a last ≡ (if is_gap length calls u then u ∷ gaps_between length calls u last else gaps_between length calls u last)
step_gap length calls a u last lt le none =
    (let w = pass_over length calls a (u - 1) last (omega (arith, lt)) (λ q l h k. none q l (omega (arith, h, lt))) in
    let e : u - 1 + 1 ≡ u = omega (arith, lt) in
    let n = next_gap length calls (u - 1) last (omega (arith, lt, le)) in
    grind (arith, w, e, n))

-- where no view is a gap, none is left
pub none_between : (length : ℕ) (calls : List RepairCall) (a last : ℕ) → ((q : ℕ) → a < q → q ≤ last → is_gap length calls q ≡ false) → gaps_between length calls a last ≡ []
unfolding gaps_between
none_between length calls a last none = none_left (is_gap length calls) (a + 1) (last - a) (λ q l h. none q (omega (arith, l)) (omega (arith, l, h)))

-- before the replay there is none
pub none_yet : (length : ℕ) (calls : List RepairCall) (a last : ℕ) → list_any is_replayed_in calls ≡ false → gaps_between length calls a last ≡ []
none_yet length calls a last r = none_between length calls a last (λ q l h. before_replay length calls q r)

-- the gaps stand above the floor
pub above_only : (length : ℕ) (calls : List RepairCall) (a b last : ℕ) → b ≡ max (repair_floor calls) a → gaps_between length calls b last ≡ gaps_between length calls a last
above_only length calls a b last e = pass_over length calls a b last (omega (arith, e)) (λ q l h k. no_gap_low length calls q (omega (arith, e, l, h)))
