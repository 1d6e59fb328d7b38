-- The calls of a step over any journal, and what each stop becomes.
use Rattle.std.proofs.Common.{◌≡◌, ◌≢◌, ℕ, ◌+◌, ◌-◌, ◌<◌, ◌≤◌, ◌==◌, ◌&&◌, List, [], ◌∷◌, length, take, drop, Option, Some, None, Err, true, false, Bool, refl, ap, sym, ◌∙◌, arith, cond, nat_lt, nat_le, zero, suc, inl, inr}
use Rattle.std.specs.Option.{is_some, option_map}
use Rattle.std.proofs.lemmas.Bool.Decides.{nat_tests}
use Rattle.simplex_journal.specs.Faults.{Rose}
use Rattle.simplex_journal.specs.Journal.{Section, crashed}
use Rattle.simplex_journal.specs.Order.{Order, names_next}
use Rattle.simplex_journal.specs.declared.error.JournalError.TheVariants.{Failed}
use Rattle.simplex_messages.specs.declared.call.Call.{Call}
use Rattle.simplex_messages.specs.declared.call.Call.TheVariants as made_calls
use Rattle.simplex_messages.specs.declared.step.Stop.{Stop}
use Rattle.simplex_messages.specs.declared.step.Stop.TheVariants as stops
use Rattle.simplex_messages.specs.declared.step.Outcome.TheVariants as outcomes
use Rattle.simplex_messages.specs.declared.step.StepOut.{StepOut}
use Rattle.simplex_messages.specs.Step.{no_out}
use Rattle.model_steps.specs.Desk.{Doing}
use Rattle.model_steps.specs.Performed.{is_of_journal, journal_place, stop_place, stop_outcome, after_call, after_calls, after_failing, performed}
use Rattle.simplex_voter.specs.declared.performing.Break.{Break}
use Rattle.simplex_voter.specs.Turned.{Becomes, left_as}
use Rattle.simplex_voter.specs.Performing.{Heeds, FailsPart, broken_at, out_of, FailedAt, Reached, FaultsBy, BrokeOver, MadeOver, FaultsWith, GaveOver, SettledOver}
use Rattle.simplex_voter.proofs.Running.{after-more, failing-here, place-failing, cut-leaves}

-- ---- the call that failed

-- the number, among the calls of the journal, of the call at this place
pub record Numbered (calls : List Call) (i : ℕ) : Type 0 where
  pub number : ℕ
  pub counts : 0 < number
  pub fails : journal_place number calls ≡ Some i

behind-by : (c : Call) (calls : List Call) (i : ℕ) (b : Bool) → is_of_journal c ≡ b → Numbered calls i → Numbered (c ∷ calls) (suc i)
unfolding journal_place
behind-by c calls i true is n =
    let positive = n.counts in
    let other : (n.number + 1 == 1) ≡ false = grind (arith, nat_tests, positive) in
    let before : n.number + 1 - 1 ≡ n.number = omega arith in
    record { number = n.number + 1; counts = omega arith; fails = rw (is, other, before, n.fails) (ap Some (omega arith)) }
behind-by c calls i false is n = record { number = n.number; counts = n.counts; fails = rw (is, n.fails) (ap Some (omega arith)) }

numbered : (calls : List Call) (i : ℕ) (call : Call) (rest : List Call) → drop i calls ≡ call ∷ rest → is_of_journal call ≡ true → Numbered calls i
unfolding journal_place
numbered [] zero call rest is of = absurd cc
numbered [] (suc i) call rest is of = absurd cc
numbered (c ∷ calls) zero call rest is of =
    let e : c ≡ call = cc in
    record { number = 1; counts = omega arith; fails = rw (e, of) refl }
numbered (c ∷ calls) (suc i) call rest is of = behind-by c calls i (is_of_journal c) refl (numbered calls i call rest is of)

-- the number does not matter to what a failed call leaves
failing-same : (number other dropped : ℕ) (call : Call) (sections : List Section) → after_failing (stops.Fail number dropped) call sections ≡ after_failing (stops.Fail other dropped) call sections
failing-same number other dropped (made_calls.Prune least) sections = refl
failing-same number other dropped _ sections = refl

-- what is known of a call that failed
record Part (call : Call) (before now : List Section) : Type 0 where
  dropped : ℕ
  leaves : now ≡ after_failing (stops.Fail 1 dropped) call before
  of : is_of_journal call ≡ true

and-first : (a b : Bool) → (a && b) ≡ true → a ≡ true
and-first true b h = refl
and-first false b h = absurd cc

part-of : (told told' : Option Order) (call : Call) (before now : List Section) → FailsPart told call before now → Heeds told call (Err Failed) told' → Part call before now
part-of None told' call before now part heeds = record { dropped = part.0; leaves = part.1; of = heeds }
part-of (Some order) told' call before now part heeds =
    record {
      dropped = order.sections;
      leaves = part ∙ failing-same order.call 1 order.sections call before;
      of = and-first (is_of_journal call) (names_next order) heeds.0;
    }

pub failed-over : (calls : List Call) (i : ℕ) (call : Call) (before now then : List Section) (told told' : Option Order)
    → drop i calls ≡ call ∷ drop (i + 1) calls → now ≡ after_calls (take i calls) before
    → FailsPart told call now then → Heeds told call (Err Failed) told' → FailedAt calls before i then
failed-over calls i call before now then told told' is made part heeds =
    let p = part-of told told' call now then part heeds in
    let n = numbered calls i call (drop (i + 1) calls) is p.of in
    record {
      number = n.number;
      dropped = p.dropped;
      counts = n.counts;
      fails = n.fails;
      leaves = p.leaves ∙ failing-same 1 n.number p.dropped call now ∙ ap (after_failing (stops.Fail n.number p.dropped) call) made
          ∙ sym (failing-here (stops.Fail n.number p.dropped) calls i call (drop (i + 1) calls) (after_calls (take i calls) before) is);
    }

-- one call more was made
pub made-over : (calls : List Call) (i : ℕ) (call : Call) (before now then : List Section) → drop i calls ≡ call ∷ drop (i + 1) calls
    → then ≡ after_call call now → now ≡ after_calls (take i calls) before → then ≡ after_calls (take (i + 1) calls) before
made-over calls i call before now then is after made =
    after ∙ ap (after_call call) made ∙ sym (after-more calls i call (drop (i + 1) calls) before is)

-- all were made
pub ended-over : (calls : List Call) (i : ℕ) (before now : List Section) → take i calls ≡ calls → now ≡ after_calls (take i calls) before → now ≡ after_calls calls before
ended-over calls i before now all made = made ∙ ap (λ made. after_calls made before) all

-- a count that stood until the last call rose in it
pub rose-over : (first before now : ℕ) → before ≡ first → before ≤ now → Rose before now → (first ≤ now) × Rose first now
rose-over first before now same least rose =
    let both : (before ≤ now) × Rose before now = (least, rose) in
    rw same at both

-- ---- places of lists of calls

within-by : (number : ℕ) (calls : List Call) (p : ℕ) (x : Option ℕ) → ((q : ℕ) → x ≡ Some q → q < length calls) → option_map (λ n. n + 1) x ≡ Some p → p < suc (length calls)
within-by number calls p None h is = absurd cc
within-by number calls p (Some q) h is = let below = h q refl in let e : q + 1 ≡ p = cc in omega (arith, below, e)

place-by : (number : ℕ) (call : Call) (calls : List Call) (p : ℕ) (b c : Bool) → is_of_journal call ≡ b → (number == 1) ≡ c
    → ((q : ℕ) → journal_place (number - 1) calls ≡ Some q → q < length calls) → ((q : ℕ) → journal_place number calls ≡ Some q → q < length calls)
    → journal_place number (call ∷ calls) ≡ Some p → p < suc (length calls)
unfolding journal_place
place-by number call calls p true true of one less same is = let e : Some 0 ≡ Some p = rw (of, one) at is in let z : 0 ≡ p = cc in omega (arith, z)
place-by number call calls p true false of one less same is = within-by number calls p (journal_place (number - 1) calls) less (rw (of, one) at is)
place-by number call calls p false c of one less same is = within-by number calls p (journal_place number calls) same (rw of at is)

pub place-within : (number : ℕ) (calls : List Call) (p : ℕ) → journal_place number calls ≡ Some p → p < length calls
unfolding journal_place
place-within number [] p is = absurd cc
place-within number (call ∷ calls) p is =
    place-by number call calls p (is_of_journal call) (number == 1) refl refl (place-within (number - 1) calls) (place-within number calls) is

-- a place among the first calls is one among all
shifted : (x y : Option ℕ) (p : ℕ) → ((q : ℕ) → x ≡ Some q → y ≡ Some q) → option_map (λ n. n + 1) x ≡ Some p → option_map (λ n. n + 1) y ≡ Some p
shifted None y p h is = absurd cc
shifted (Some q) y p h is = rw (h q refl) is

taken-by : (number : ℕ) (call : Call) (first calls : List Call) (p : ℕ) (b c : Bool) → is_of_journal call ≡ b → (number == 1) ≡ c
    → ((q : ℕ) → journal_place (number - 1) first ≡ Some q → journal_place (number - 1) calls ≡ Some q) → ((q : ℕ) → journal_place number first ≡ Some q → journal_place number calls ≡ Some q)
    → journal_place number (call ∷ first) ≡ Some p → journal_place number (call ∷ calls) ≡ Some p
unfolding journal_place
taken-by number call first calls p true true of one less same is = rw (of, one) (rw (of, one) at is)
taken-by number call first calls p true false of one less same is =
    rw (of, one) (shifted (journal_place (number - 1) first) (journal_place (number - 1) calls) p less (rw (of, one) at is))
taken-by number call first calls p false c of one less same is =
    rw of (shifted (journal_place number first) (journal_place number calls) p same (rw of at is))

taken-place : (number : ℕ) (calls : List Call) (k p : ℕ) → journal_place number (take k calls) ≡ Some p → journal_place number calls ≡ Some p
unfolding journal_place
taken-place number [] zero p is = absurd cc
taken-place number [] (suc k) p is = absurd cc
taken-place number (call ∷ calls) zero p is = absurd cc
taken-place number (call ∷ calls) (suc k) p is =
    taken-by number call (take k calls) calls p (is_of_journal call) (number == 1) refl refl (taken-place (number - 1) calls k) (taken-place number calls k) is

taken-broken : (stop : Stop) (calls : List Call) (k p : ℕ) (before : List Section) → p < length (take k calls) → broken_at stop (take k calls) before p ≡ broken_at stop calls before p
unfolding after_calls
taken-broken stop [] zero p before below = absurd (omega (arith, below))
taken-broken stop [] (suc k) p before below = absurd (omega (arith, below))
taken-broken stop (call ∷ calls) zero p before below = absurd (omega (arith, below))
taken-broken stop (call ∷ calls) (suc k) zero before below = refl
taken-broken stop (call ∷ calls) (suc k) (suc p) before below =
    let other : (suc p == 0) ≡ false = grind (arith, nat_tests) in
    let less : suc p - 1 ≡ p = omega arith in
    rw (other, less) (taken-broken stop calls k p (after_call call before) (omega (arith, below)))

pub taken-at-most : {A : Type 0} (k : ℕ) (xs : List A) → length (take k xs) ≤ k
taken-at-most zero [] = omega arith
taken-at-most (suc k) [] = omega arith
taken-at-most zero (x ∷ xs) = omega arith
taken-at-most (suc k) (x ∷ xs) = let rest = taken-at-most k xs in omega (arith, rest)

-- ---- what each stop becomes

-- a call of the journal failed there
abbrev pub journal_break : ℕ → Break
journal_break place = record { place = place; outcome = outcomes.Journal }

module _ (calls : List Call) (before now : List Section) (broke : Option Break) where
  none-over-by : (failed : Option ℕ) → broke ≡ option_map journal_break failed → Reached calls before failed now → MadeOver stops.None calls before broke now
  unfolding left_as stop_place
  none-over-by None ends reached = record { turned = stops.None; becomes = tt; ends = ends; leaves = reached }
  none-over-by (Some p) ends f =
      record {
        turned = stops.Fail f.number f.dropped;
        becomes = f.counts;
        ends = rw (place-failing f.number f.dropped calls, f.fails) ends;
        leaves = rw (place-failing f.number f.dropped calls, f.fails) f.leaves;
      }

  -- no stop
  pub none-over : BrokeOver calls before broke now → MadeOver stops.None calls before broke now
  none-over b = none-over-by b.failed b.ends b.reached

  whole-over-by : (number keep : ℕ) (failed : Option ℕ) → stop_place (stops.Cut number keep) calls ≡ None → (0 < number → length calls < number)
      → broke ≡ option_map journal_break failed → Reached calls before failed now → MadeOver (stops.Cut number keep) calls before broke now
  unfolding left_as
  whole-over-by number keep None at beyond ends reached = record { turned = stops.Cut number keep; becomes = inl refl; ends = rw at ends; leaves = rw at reached }
  whole-over-by number keep (Some p) at beyond ends f =
      let below = place-within f.number calls p f.fails in
      record {
        turned = stops.Fail f.number f.dropped;
        becomes = inr (f.counts, λ positive. let long = beyond positive in rw ends (omega (arith, below, long)));
        ends = rw (place-failing f.number f.dropped calls, f.fails) ends;
        leaves = rw (place-failing f.number f.dropped calls, f.fails) f.leaves;
      }

  -- a cut past the last call
  pub whole-over : (number keep : ℕ) → stop_place (stops.Cut number keep) calls ≡ None → (0 < number → length calls < number)
      → BrokeOver calls before broke now → MadeOver (stops.Cut number keep) calls before broke now
  whole-over number keep at beyond b = whole-over-by number keep b.failed at beyond b.ends b.reached

  part-over-by : (number keep place : ℕ) (b : Break) (failed : Option ℕ) → place < number → broke ≡ Some b
      → broke ≡ option_map journal_break failed → Reached (take place calls) before failed now → MadeOver (stops.Cut number keep) calls before broke now
  unfolding left_as
  part-over-by number keep place b None below is ends reached = absurd cc
  part-over-by number keep place b (Some p) below is ends f =
      let within = place-within f.number (take place calls) p f.fails in
      let most = taken-at-most place calls in
      let at = taken-place f.number calls place p f.fails in
      record {
        turned = stops.Fail f.number f.dropped;
        becomes = inr (f.counts, λ positive. rw ends (omega (arith, within, most, below)));
        ends = rw (place-failing f.number f.dropped calls, at) ends;
        leaves = rw (place-failing f.number f.dropped calls, at) (f.leaves ∙ taken-broken (stops.Fail f.number f.dropped) calls place p before within);
      }

  -- a call failed before the cut
  pub part-over : (number keep place : ℕ) (b : Break) → place < number → broke ≡ Some b → BrokeOver (take place calls) before broke now → MadeOver (stops.Cut number keep) calls before broke now
  part-over number keep place b below is o = part-over-by number keep place b o.failed below is o.ends o.reached

  cut-over-by : (then : List Section) (number keep place : ℕ) (failed : Option ℕ) → stop_place (stops.Cut number keep) calls ≡ Some place → broke ≡ None → then ≡ crashed keep now
      → broke ≡ option_map journal_break failed → Reached (take place calls) before failed now
      → MadeOver (stops.Cut number keep) calls before (Some (record { place = place; outcome = outcomes.Cut })) then
  unfolding left_as
  cut-over-by then number keep place None at unbroken left ends reached =
      record {
        turned = stops.Cut number keep;
        becomes = inl refl;
        ends = rw at refl;
        leaves = rw at (left ∙ ap (crashed keep) (reached ∙ sym (cut-leaves number keep calls place (after_calls (take place calls) before))));
      }
  cut-over-by then number keep place (Some p) at unbroken left ends reached = absurd cc

  -- the cut came
  pub cut-over : (then : List Section) (number keep place : ℕ) → stop_place (stops.Cut number keep) calls ≡ Some place → broke ≡ None → then ≡ crashed keep now
      → BrokeOver (take place calls) before broke now → MadeOver (stops.Cut number keep) calls before (Some (record { place = place; outcome = outcomes.Cut })) then
  cut-over then number keep place at unbroken left o = cut-over-by then number keep place o.failed at unbroken left o.ends o.reached

-- a call of the journal was to fail, and none did
pub unfailed-over : (calls : List Call) (before now : List Section) (failed : Option ℕ) (number keep : ℕ) → failed ≡ None → Reached calls before failed now
    → MadeOver (stops.Fail number keep) calls before (option_map journal_break failed) now
unfolding left_as stop_place
unfailed-over calls before now None number keep none reached = record { turned = stops.None; becomes = tt; ends = refl; leaves = reached }
unfailed-over calls before now (Some p) number keep none reached = absurd cc

-- one did
pub failing-over : (calls : List Call) (before now then : List Section) (failed : Option ℕ) (p number keep : ℕ) → failed ≡ Some p → then ≡ crashed keep now → Reached calls before failed now
    → MadeOver (stops.Fail number keep) calls before (option_map journal_break failed) then
unfolding left_as
failing-over calls before now then None p number keep some left reached = absurd cc
failing-over calls before now then (Some q) p number keep some left f =
    record {
      turned = stops.Fail f.number f.dropped;
      becomes = f.counts;
      ends = rw (place-failing f.number f.dropped calls, f.fails) refl;
      leaves = rw (place-failing f.number f.dropped calls, f.fails) (left ∙ ap (crashed keep) f.leaves);
    }

-- ---- what is given

-- fewer calls leave a stop the same it became
becomes-less : (stop turned : Stop) (made less : ℕ) → less ≤ made → Becomes stop made turned → Becomes stop less turned
becomes-less stops.None turned made less below b = b
becomes-less (stops.Cut number keep) turned made less below (inl same) = inl same
becomes-less (stops.Cut number keep) turned made less below (inr (own, before)) = inr (own, λ positive. let h = before positive in omega (arith, below, h))
becomes-less (stops.Fail number keep) turned made less below b = b

abbrev ended_at : Stop → ℕ → Break
ended_at stop place = record { place = place; outcome = stop_outcome stop }

given-whole-by : (stop turned : Stop) (doing : Doing) (before now : List Section) (out : StepOut) (place : Option ℕ) → stop_place turned doing.calls ≡ place
    → None ≡ option_map (ended_at turned) place → now ≡ left_as stop turned doing.calls before → out ≡ out_of doing → GaveOver stop turned doing before outcomes.Done out now
unfolding performed
given-whole-by stop turned doing before now out None is ends left same = record { outcome_is = rw is refl; out_is = rw is same; leaves = left }
given-whole-by stop turned doing before now out (Some at) is ends left same = absurd cc

given-broken-by : (stop turned : Stop) (doing : Doing) (before now : List Section) (out : StepOut) (b : Break) (place : Option ℕ) → stop_place turned doing.calls ≡ place
    → Some b ≡ option_map (ended_at turned) place → now ≡ left_as stop turned doing.calls before
    → out ≡ record no_out { calls = take b.place doing.calls } → GaveOver stop turned doing before b.outcome out now
unfolding performed
given-broken-by stop turned doing before now out b None is ends left made = absurd cc
given-broken-by stop turned doing before now out b (Some at) is ends left made =
    let same : b ≡ ended_at turned at = cc in
    record {
      outcome_is = rw is (ap (λ (x : Break). x.outcome) same);
      out_is = rw is (made ∙ ap (λ (x : Break). record no_out { calls = take x.place doing.calls }) same);
      leaves = left;
    }

pub given-whole : (stop : Stop) (planned : StepOut) (before now : List Section) (broke : Option Break) → broke ≡ None
    → MadeOver stop planned.calls before broke now → SettledOver stop planned before outcomes.Done planned now
given-whole stop planned before now broke none m =
    record {
      turned = m.turned;
      becomes = rw none at m.becomes;
      gives = λ doing is.
          let calls : planned.calls ≡ doing.calls = ap (λ (o : StepOut). o.calls) is in
          given-whole-by stop m.turned doing before now planned (stop_place m.turned doing.calls) refl (rw (none, calls) at m.ends) (rw calls at m.leaves) is;
    }

pub given-broken : (stop : Stop) (planned out : StepOut) (before now : List Section) (broke : Option Break) (b : Break) → broke ≡ Some b
    → out ≡ record no_out { calls = take b.place planned.calls }
    → MadeOver stop planned.calls before broke now → SettledOver stop planned before b.outcome out now
given-broken stop planned out before now broke b some made m =
    record {
      turned = m.turned;
      becomes = rw made (becomes-less stop m.turned b.place (length (take b.place planned.calls)) (taken-at-most b.place planned.calls) (rw some at m.becomes));
      gives = λ doing is.
          let calls : planned.calls ≡ doing.calls = ap (λ (o : StepOut). o.calls) is in
          given-broken-by stop m.turned doing before now out b (stop_place m.turned doing.calls) refl (rw (some, calls) at m.ends) (rw calls at m.leaves) (rw calls at made);
    }

-- ---- counts of faults

pub fault-broken : (failed : Option ℕ) (before now : ℕ) → FaultsBy failed before now → FaultsWith (option_map journal_break failed) before now
fault-broken None before now faults = faults
fault-broken (Some p) before now faults = faults

-- ---- where no call of the journal ended the step

none-placed : (calls : List Call) (p : ℕ) → stop_place stops.None calls ≡ Some p → ⊥
unfolding stop_place
none-placed calls p h = absurd cc

left-by : (stop turned : Stop) (doing : Doing) (made : ℕ) (before : List Section) (place : Option ℕ) → stop_place turned doing.calls ≡ place → Becomes stop made turned
    → (performed turned doing before).outcome ≢ outcomes.Journal → left_as stop turned doing.calls before ≡ (performed turned doing before).sections
unfolding performed left_as
left-by stop turned doing made before None is b going = rw is refl
left-by stop stops.None doing made before (Some p) is b going = absurd (none-placed doing.calls p is)
left-by stops.None (stops.Cut number keep) doing made before (Some p) is b going = absurd b
left-by (stops.Fail call kept) (stops.Cut number keep) doing made before (Some p) is b going = absurd b
left-by (stops.Cut call kept) (stops.Cut number keep) doing made before (Some p) is (inl same) going = let e : kept ≡ keep = cc in rw (is, e) refl
left-by (stops.Cut call kept) (stops.Cut number keep) doing made before (Some p) is (inr (own, earlier)) going = absurd own
left-by stop (stops.Fail number keep) doing made before (Some p) is b going = absurd (going (rw is refl))

pub left-same : (stop turned : Stop) (doing : Doing) (made : ℕ) (before : List Section) → Becomes stop made turned
    → (performed turned doing before).outcome ≢ outcomes.Journal → left_as stop turned doing.calls before ≡ (performed turned doing before).sections
left-same stop turned doing made before b going = left-by stop turned doing made before (stop_place turned doing.calls) refl b going

-- ---- what a cut names

uncut-by : (call length_is : ℕ) (b c : Bool) → nat_lt 0 call ≡ b → nat_le call length_is ≡ c → cond (b && c) (Some (call - 1)) None ≡ None → 0 < call → length_is < call
uncut-by call length_is true true positive within none at = absurd cc
uncut-by call length_is true false positive within none at = grind (arith, nat_tests, within)
uncut-by call length_is false c positive within none at = absurd (grind (arith, nat_tests, positive, at))

-- a cut that names no call is past the last
pub uncut-beyond : (call : ℕ) (calls : List Call) → cond (nat_lt 0 call && nat_le call (length calls)) (Some (call - 1)) None ≡ None → 0 < call → length calls < call
uncut-beyond call calls none at = uncut-by call (length calls) (nat_lt 0 call) (nat_le call (length calls)) refl refl none at

cut-by : (call place : ℕ) (b c : Bool) → nat_lt 0 call ≡ b → cond (b && c) (Some (call - 1)) None ≡ Some place → place < call
cut-by call place true true positive at = let e : call - 1 ≡ place = cc in let some : 0 < call = grind (arith, nat_tests, positive) in omega (arith, e, some)
cut-by call place true false positive at = absurd cc
cut-by call place false c positive at = absurd cc

-- the place of a cut is before its number
pub cut-below : (call place : ℕ) (calls : List Call) → cond (nat_lt 0 call && nat_le call (length calls)) (Some (call - 1)) None ≡ Some place → place < call
cut-below call place calls at = cut-by call place (nat_lt 0 call) (nat_le call (length calls)) refl at

pub broke-some : {A : Type 0} (x : Option A) → true ≡ is_some x → (b : A) × (x ≡ Some b)
broke-some None h = absurd cc
broke-some (Some b) h = (b, refl)

pub broke-none : {A : Type 0} (x : Option A) → false ≡ is_some x → x ≡ None
broke-none None h = refl
broke-none (Some b) h = absurd cc
