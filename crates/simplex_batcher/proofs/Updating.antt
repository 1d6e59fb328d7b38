-- The leader of an update, and the rounds of the admission window.
use Rattle.std.proofs.Common.{◌≡◌, ◌≤◌, ◌<◌, ℕ, zero, suc, ◌+◌, ◌-◌, ◌==◌, nat_le, nat_lt, ◌&&◌, Bool, true, false, refl, sym, ap, ◌∙◌, List, [], ◌∷◌, map, filter, Option, Some, None, if◌then◌else◌, inl, inr, arith}
use mathlib.Core.Path.{fun_ext}
use Rattle.std.specs.Option.{is_some, option_map}
use Rattle.std.specs.Ordering.{nat_cmp}
use Rattle.std.specs.Map.{lookup}
use Rattle.std.specs.BTreeMap.{is_at}
use Rattle.std.specs.BTreeMap.Range.{entries_between}
use Rattle.std.specs.declared.ops.Bound.TheVariants.{Included}
use Rattle.std.specs.List.{range_with_len}
use Rattle.std.proofs.lemmas.Grind.{common_steps}
use Rattle.std.proofs.lemmas.Bool.{cases_eq}
use Rattle.std.proofs.lemmas.Bool.Decides.{nat_tests}
use Rattle.simplex_values.specs.Terms.{is_in_window, admission_limit}
use Rattle.simplex_round.specs.Known as low
use Rattle.model_steps.specs.Batcher.{Made, Standing, RoundHistory, led, window_views, with_leader, round_for}
use Rattle.simplex_batcher.specs.Rounds.{round_of}
use Rattle.simplex_batcher.specs.Working.{put, with_lead, with_leads, with_window}
use Rattle.simplex_batcher.proofs.Counting.{filter_same, filter_same_from}
use Rattle.simplex_batcher.proofs.Window.{Rising, has, span, span-is, between-span, is_some-map}

-- giving rounds the leader leaves all else
pub leads-others : (made : Made) (views : List ℕ) (s : Standing) → with_leads made views s ≡ record s { rounds = (with_leads made views s).rounds }
leads-others made [] s = refl
leads-others made (v ∷ views) s = leads-others made views (with_lead made v s)

-- what a round is given does not go by the rounds
pub led-same : (made : Made) (s : Standing) (rounds : ℕ → Option RoundHistory) (view : ℕ) → led made (record s { rounds = rounds }) view ≡ led made s view
unfolding led
led-same made s rounds view = refl

-- a round that is neither current nor in the window is given nothing
pub led-outside : (made : Made) (s : Standing) (view : ℕ) (history : RoundHistory)
    → (view == s.current) ≡ false → is_in_window made.lookahead.length made.lookahead.views s.current view ≡ false → led made s view history ≡ history
unfolding led
led-outside made s view history apart out = rw (apart, out) refl

-- whether the view is one of those from a on, n of them, that pass
abbrev pub is_among : (ℕ → Bool) → ℕ → ℕ → ℕ → Bool
is_among test a n q = nat_le a q && nat_lt q (a + n) && test q

among-here : (test : ℕ → Bool) (a n : ℕ) → test a ≡ true → is_among test a (suc n) a ≡ true
among-here test a n so = grind (arith, common_steps, nat_tests)

among-past : (test : ℕ → Bool) (a n : ℕ) → is_among test (a + 1) n a ≡ false
among-past test a n = grind (arith, common_steps, nat_tests)

among-apart : (test : ℕ → Bool) (a n q : ℕ) → (q ≡ a → ⊥) → is_among test (a + 1) n q ≡ is_among test a (suc n) q
among-apart test a n q apart = grind (arith, common_steps, nat_tests)

among-no : (test : ℕ → Bool) (a n : ℕ) → test a ≡ false → is_among test a (suc n) a ≡ false
among-no test a n isnt = grind (arith, common_steps, nat_tests)

among-none : (test : ℕ → Bool) (a q : ℕ) → is_among test a 0 q ≡ false
among-none test a q = grind (arith, common_steps, nat_tests)

-- the round of the view once it was given the leader, or not
abbrev pub led_if : Made → Standing → ℕ → Bool → Option RoundHistory
led_if made s q so = if so then option_map (led made s q) (s.rounds q) else s.rounds q

lead-here : (made : Made) (s : Standing) (a : ℕ) → (with_lead made a s).rounds a ≡ option_map (led made s a) (s.rounds a)
lead-here made s a = grind (arith, common_steps, nat_tests)

lead-apart : (made : Made) (s : Standing) (a q : ℕ) → (q ≡ a → ⊥) → (with_lead made a s).rounds q ≡ s.rounds q
lead-apart made s a q apart = grind (arith, common_steps, nat_tests)

led_if-apart : (made : Made) (s : Standing) (a q : ℕ) (so : Bool) → (q ≡ a → ⊥) → led_if made (with_lead made a s) q so ≡ led_if made s q so
led_if-apart made s a q true apart = rw (led-same made s (with_lead made a s).rounds q, lead-apart made s a q apart) refl
led_if-apart made s a q false apart = lead-apart made s a q apart

-- which rounds are given the leader
pub leads-at : (made : Made) (test : ℕ → Bool) (n a : ℕ) (s : Standing) (q : ℕ)
    → (with_leads made (filter test (range_with_len a n)) s).rounds q ≡ led_if made s q (is_among test a n q)
leads-at made test zero a s q = rw (among-none test a q) refl
leads-at made test (suc n) a s q =
    elim (test a) as (λ b. test a ≡ b
    → (with_leads made (if b then a ∷ filter test (range_with_len (a + 1) n) else filter test (range_with_len (a + 1) n)) s).rounds q ≡ led_if made s q (is_among test a (suc n) q)) [
      | true ↦ λ so.
          elim (cases_eq q a) [
            | inl same ↦ rw same (
                leads-at made test n (a + 1) (with_lead made a s) a ∙ ap (led_if made (with_lead made a s) a) (among-past test a n)
                ∙ lead-here made s a ∙ ap (led_if made s a) (sym (among-here test a n so)))
            | inr apart ↦
                leads-at made test n (a + 1) (with_lead made a s) q ∙ ap (led_if made (with_lead made a s) q) (among-apart test a n q apart)
                ∙ led_if-apart made s a q (is_among test a (suc n) q) apart
          ]
      | false ↦ λ isnt.
          elim (cases_eq q a) [
            | inl same ↦ rw same (leads-at made test n (a + 1) s a ∙ ap (led_if made s a) (among-past test a n ∙ sym (among-no test a n isnt)))
            | inr apart ↦ leads-at made test n (a + 1) s q ∙ ap (led_if made s q) (among-apart test a n q apart)
          ]
    ] refl

-- the two tests of the window agree
window-test : (length views current q : ℕ)
    → (nat_le (current + 1) q && nat_lt q (current + 1 + (admission_limit length views current - current))) ≡ is_in_window length views current q
unfolding is_in_window
window-test length views current q = grind (arith, common_steps, nat_tests)

-- the current view is not in the window
not-current : (made : Made) (s : Standing) (q : ℕ) → (q == s.current) ≡ true → is_in_window made.lookahead.length made.lookahead.views s.current q ≡ false
unfolding is_in_window
not-current made s q same = grind (arith, common_steps, nat_tests)

-- only the current round, and rounds in the window, are given the leader
window-cases : (made : Made) (s : Standing) (q : ℕ)
    → led_if made s q (is_in_window made.lookahead.length made.lookahead.views s.current q && is_some (s.rounds q)) ≡ (with_window made s).rounds q
unfolding with_window
window-cases made s q =
    elim (s.rounds q) as (λ o. (if is_in_window made.lookahead.length made.lookahead.views s.current q && is_some o then option_map (led made s q) o else o) ≡ (if q == s.current then o else option_map (led made s q) o)) [
      | None ↦ grind (arith, common_steps)
      | Some h ↦
          elim (q == s.current) as (λ b. (q == s.current) ≡ b → (if is_in_window made.lookahead.length made.lookahead.views s.current q && true then Some (led made s q h) else Some h) ≡ (if b then Some h else Some (led made s q h))) [
            | true ↦ λ same. let out = not-current made s q same in rw out refl
            | false ↦ λ apart.
                elim (is_in_window made.lookahead.length made.lookahead.views s.current q) as (λ b. is_in_window made.lookahead.length made.lookahead.views s.current q ≡ b → (if b && true then Some (led made s q h) else Some h) ≡ Some (led made s q h)) [
                  | true ↦ λ inside. refl
                  | false ↦ λ out. ap (λ x. Some x) (sym (led-outside made s q h apart out))
                ] refl
          ] refl
    ]

-- where the rounds that have a view in the window are given the leader, all of the window are
pub window-leads : (made : Made) (s : Standing) (q : ℕ)
    → (with_leads made (window_views made s) s).rounds q ≡ (with_window made s).rounds q
unfolding window_views
window-leads made s q =
    leads-at made (λ v. is_some (s.rounds v)) (admission_limit made.lookahead.length made.lookahead.views s.current - s.current) (s.current + 1) s q
    ∙ ap (λ b. led_if made s q (b && is_some (s.rounds q))) (window-test made.lookahead.length made.lookahead.views s.current q)
    ∙ window-cases made s q

-- the window has as many views once rounds were given the leader, and once current has a round
pub window-same : (made : Made) (s : Standing) → window_views made (with_leader made s) ≡ window_views made (put s.current (round_for made s s.current) s)
unfolding window_views with_leader
window-same made s =
    filter_same (λ v. is_some ((with_leader made s).rounds v)) (λ v. is_some ((put s.current (round_for made s s.current) s).rounds v))
    (λ v. elim (v == s.current) as (λ b. is_some (if b then Some (round_for made s v) else option_map (led made s v) (s.rounds v)) ≡ is_some (if b then Some (round_for made s s.current) else s.rounds v)) [
      | true ↦ refl
      | false ↦ is_some-map (led made s v) (s.rounds v)
    ])
    (range_with_len (s.current + 1) (admission_limit made.lookahead.length made.lookahead.views s.current - s.current))

-- current has a round, and then the window is given the leader
pub window-leader : (made : Made) (s : Standing) (q : ℕ)
    → (with_window made (put s.current (round_for made s s.current) s)).rounds q ≡ (with_leader made s).rounds q
unfolding with_window with_leader
window-leader made s q =
    elim (cases_eq q s.current) [
      | inl same ↦ rw same (grind (arith, common_steps, nat_tests))
      | inr apart ↦ rw (led-same made s (put s.current (round_for made s s.current) s).rounds q) (grind (arith, common_steps, nat_tests))
    ]

pub window-is : (made : Made) (s : Standing) → with_leads made (window_views made s) s ≡ with_window made s
unfolding with_window
window-is made s = leads-others made (window_views made s) s ∙ ap (λ r. record s { rounds = r }) (fun_ext (λ q. window-leads made s q))

pub leader-is : (made : Made) (s : Standing) → with_window made (put s.current (round_for made s s.current) s) ≡ with_leader made s
unfolding with_window with_leader
leader-is made s = ap (λ r. record s { rounds = r }) (fun_ext (λ q. window-leader made s q))

-- no view is ahead
pub window-empty : (made : Made) (s : Standing) (current limit : ℕ)
    → s.current ≡ current → limit ≡ admission_limit made.lookahead.length made.lookahead.views s.current → limit ≤ current → [] ≡ window_views made s
unfolding window_views
window-empty made s current limit at last none =
    let width : admission_limit made.lookahead.length made.lookahead.views s.current - s.current ≡ 0 = omega arith in rw width refl

-- these are the views ahead that have a round
pub window-found : (made : Made) (s : Standing) (current limit : ℕ) (entries : List (ℕ × low.Standing))
    → s.current ≡ current → limit ≡ admission_limit made.lookahead.length made.lookahead.views s.current → current < limit
    → Rising entries → ((q : ℕ) → current < q → lookup (is_at (nat_cmp q)) entries ≡ option_map round_of (s.rounds q))
    → map (λ e. e.0) (entries_between nat_cmp (Included (current + 1)) (Included limit) entries) ≡ window_views made s
unfolding window_views
window-found made s current limit entries at last more rises stand =
    let width : limit + 1 - (current + 1) ≡ admission_limit made.lookahead.length made.lookahead.views s.current - s.current = omega arith in
    between-span (current + 1) limit entries (omega arith)
    ∙ ap (λ n. span (current + 1) n entries) width
    ∙ span-is (admission_limit made.lookahead.length made.lookahead.views s.current - s.current) (current + 1) entries rises
    ∙ filter_same_from (has entries) (λ v. is_some (s.rounds v)) (admission_limit made.lookahead.length made.lookahead.views s.current - s.current) (current + 1)
    (λ v after. let above : current < v = omega arith in ap is_some (stand v above) ∙ is_some-map round_of (s.rounds v))
    ∙ ap (λ n. filter (λ v. is_some (s.rounds v)) (range_with_len (n + 1) (admission_limit made.lookahead.length made.lookahead.views s.current - s.current))) (sym at)
