-- The loop over the calls of a step, and what each stop makes of it.
use Rattle.std.proofs.Common.{◌≡◌, ℕ, ◌+◌, ◌-◌, ◌==◌, ◌&&◌, List, [], ◌∷◌, length, take, drop, Option, Some, None, true, false, Bool, refl, ap, sym, ◌∙◌, arith, cond, nat_lt, nat_le, zero, suc, add-one}
use Rattle.std.specs.Option.{is_some, option_map, option_map_or}
use Rattle.std.proofs.lemmas.Grind.{common_steps}
use Rattle.std.proofs.lemmas.Bool.Decides.{nat_tests}
use Rattle.simplex_journal.specs.Journal.{Section, crashed}
use Rattle.simplex_journal.specs.Order.{Order, no_order, counted}
use Rattle.simplex_messages.specs.declared.call.Call.{Call}
use Rattle.simplex_messages.specs.declared.call.Call.TheVariants as made_calls
use Rattle.simplex_messages.specs.declared.step.Stop.{Stop}
use Rattle.simplex_messages.specs.declared.step.Stop.TheVariants as stops
use Rattle.simplex_messages.specs.declared.step.Outcome.TheVariants as outcomes
use Rattle.model_steps.specs.Performed.{is_of_journal, journal_place, stop_place, stop_outcome, kept_by, after_call, after_calls, after_failing, failing_at, performed}
use Rattle.simplex_voter.specs.declared.performing.Break.{Break}
use Rattle.std.specs.Global.{Vec}
use Rattle.simplex_wire.specs.declared.artifact.Artifact.{Artifact}
use Rattle.simplex_messages.specs.declared.step.StepOut.{StepOut}
use Rattle.simplex_messages.specs.Step.{no_out}
use Rattle.model_steps.specs.Desk.{Doing}
use Rattle.model_steps.specs.VoterLife.{unreadable}
use Rattle.simplex_voter.specs.Performing.{after_order, fails_at, broken_at, out_of, Tells, Ran, Passed, Made, Gave, Settled, Reads, Read}

-- ---- lists of calls

-- no call has the number 0
pub none-at-zero : (calls : List Call) → journal_place 0 calls ≡ None
unfolding journal_place
none-at-zero [] = refl
none-at-zero (call ∷ rest) = grind (arith, common_steps, none-at-zero rest)

-- a cut leaves what the calls left
pub cut-leaves : (number keep : ℕ) (calls : List Call) (place : ℕ) (sections : List Section) → failing_at (stops.Cut number keep) calls place sections ≡ sections
cut-leaves number keep [] place sections = refl
cut-leaves number keep (call ∷ rest) place sections = grind (arith, common_steps, cut-leaves number keep rest (place - 1) sections)

-- one call more was made
after-suc : (calls : List Call) (i : ℕ) (call : Call) (rest : List Call) (sections : List Section) → drop i calls ≡ call ∷ rest
    → after_calls (take (suc i) calls) sections ≡ after_call call (after_calls (take i calls) sections)
unfolding after_calls
after-suc [] zero call rest sections is = absurd cc
after-suc [] (suc i) call rest sections is = absurd cc
after-suc (c ∷ calls) zero call rest sections is = let e : c ≡ call = cc in rw e refl
after-suc (c ∷ calls) (suc i) call rest sections is = after-suc calls i call rest (after_call c sections) is

pub after-more : (calls : List Call) (i : ℕ) (call : Call) (rest : List Call) (sections : List Section) → drop i calls ≡ call ∷ rest
    → after_calls (take (i + 1) calls) sections ≡ after_call call (after_calls (take i calls) sections)
after-more calls i call rest sections is = rw add-one (after-suc calls i call rest sections is)

-- the call of this place fails
pub failing-here : (stop : Stop) (calls : List Call) (i : ℕ) (call : Call) (rest : List Call) (sections : List Section) → drop i calls ≡ call ∷ rest
    → failing_at stop calls i sections ≡ after_failing stop call sections
failing-here stop [] zero call rest sections is = absurd cc
failing-here stop [] (suc i) call rest sections is = absurd cc
failing-here stop (c ∷ calls) zero call rest sections is = let e : c ≡ call = cc in rw e refl
failing-here stop (c ∷ calls) (suc i) call rest sections is =
    let other : (suc i == 0) ≡ false = grind (arith, nat_tests) in
    let before : suc i - 1 ≡ i = omega arith in
    rw (other, before) (failing-here stop calls i call rest sections is)

-- ---- the loop

-- so many calls were made, and what the order names lies in those that are left
pub record Running (order : Order) (calls : List Call) (i : ℕ) (before now : List Section) (told : Option Order) : Type 0 where
  pub tells : Tells order told
  pub fails : journal_place order.call calls ≡ option_map (λ n. n + i) (journal_place tells.call (drop i calls))
  pub leaves : now ≡ after_calls (take i calls) before

map-zero : (x : Option ℕ) → x ≡ option_map (λ n. n + 0) x
map-zero None = refl
map-zero (Some n) = ap Some (omega arith)

map-shift : (i : ℕ) (x : Option ℕ) → option_map (λ n. n + i) (option_map (λ n. n + 1) x) ≡ option_map (λ n. n + (i + 1)) x
map-shift i None = refl
map-shift i (Some n) = ap Some (omega arith)

pub running-begins : (order : Order) (calls : List Call) (before : List Section) (told : Option Order) → told ≡ Some order → Running order calls 0 before before told
unfolding after_calls
running-begins order calls before told is =
    record {
      tells = record { call = order.call; is_told = is; stays = λ e. e };
      fails = map-zero (journal_place order.call calls);
      leaves = refl;
    }

-- the call is not the one that the order names
place-by : (order : Order) (call : Call) (rest : List Call) (b : Bool) → is_of_journal call ≡ b → fails_at call order ≡ false
    → journal_place order.call (call ∷ rest) ≡ option_map (λ n. n + 1) (journal_place (after_order call order).call rest)
unfolding journal_place
place-by order call rest true is goes = let e : (order.call == 1) ≡ false = rw is at goes in rw (is, e) refl
place-by order call rest false is goes = rw is refl

-- the call is the one
failed-by : (order : Order) (call : Call) (rest : List Call) (b : Bool) → is_of_journal call ≡ b → fails_at call order ≡ true → journal_place order.call (call ∷ rest) ≡ Some 0
unfolding journal_place
failed-by order call rest true is fails = let e : (order.call == 1) ≡ true = rw is at fails in rw (is, e) refl
failed-by order call rest false is fails = absurd (let e : false ≡ true = rw is at fails in cc)

-- what stays of an order when a call counts on it
sections-stay : (order : Order) (call : Call) (b : Bool) → is_of_journal call ≡ b → after_order call order ≡ record { call = (after_order call order).call; sections = order.sections }
sections-stay order call true is = rw is refl
sections-stay order call false is = rw is refl

zero-stays : (order : Order) (call : Call) (b : Bool) → is_of_journal call ≡ b → order.call ≡ 0 → (after_order call order).call ≡ 0
zero-stays order call true is none = rw (is, none) refl
zero-stays order call false is none = rw is none

-- the order now
abbrev pub order_now : {order : Order} {told : Option Order} → Tells order told → Order
order_now {order} t = record { call = t.call; sections = order.sections }

module _ (order : Order) (calls : List Call) (i : ℕ) (before now then : List Section) (told told' : Option Order) (call : Call) where
  -- one call more was made
  pub running-made : drop i calls ≡ call ∷ drop (i + 1) calls → (r : Running order calls i before now told) → then ≡ after_call call now
      → fails_at call (order_now r.tells) ≡ false → told' ≡ Some (after_order call (order_now r.tells)) → Running order calls (i + 1) before then told'
  running-made is r after goes tells =
      record {
        tells = record {
          call = (after_order call (order_now r.tells)).call;
          is_told = tells ∙ ap Some (sections-stay (order_now r.tells) call (is_of_journal call) refl);
          stays = λ e. zero-stays (order_now r.tells) call (is_of_journal call) refl (r.tells.stays e);
        };
        fails = r.fails ∙ ap (λ left. option_map (λ n. n + i) (journal_place r.tells.call left)) is
            ∙ ap (option_map (λ n. n + i)) (place-by (order_now r.tells) call (drop (i + 1) calls) (is_of_journal call) refl goes)
            ∙ map-shift i (journal_place (after_order call (order_now r.tells)).call (drop (i + 1) calls));
        leaves = after ∙ ap (after_call call) r.leaves ∙ sym (after-more calls i call (drop (i + 1) calls) before is);
      }

  -- this one failed
  pub running-failed : drop i calls ≡ call ∷ drop (i + 1) calls → (r : Running order calls i before now told)
      → then ≡ after_failing (stops.Fail r.tells.call order.sections) call now
      → fails_at call (order_now r.tells) ≡ true → told' ≡ Some (counted (order_now r.tells)) → Ran order calls before (Some i) then told'
  running-failed is r left fails tells =
      record {
        fails = sym (r.fails ∙ ap (λ left. option_map (λ n. n + i) (journal_place r.tells.call left)) is
            ∙ ap (option_map (λ n. n + i)) (failed-by (order_now r.tells) call (drop (i + 1) calls) (is_of_journal call) refl fails)
            ∙ ap Some (omega arith));
        leaves = left ∙ failing-as call now ∙ ap (after_failing (stops.Fail order.call order.sections) call) r.leaves
            ∙ sym (failing-here (stops.Fail order.call order.sections) calls i call (drop (i + 1) calls) (after_calls (take i calls) before) is);
        tells = record { call = r.tells.call - 1; is_told = tells; stays = λ e. let z = r.tells.stays e in omega (arith, z) };
      }
    where
      failing-as : (call : Call) (now : List Section) → after_failing (stops.Fail r.tells.call order.sections) call now ≡ after_failing (stops.Fail order.call order.sections) call now
      failing-as (made_calls.Prune least) now = refl
      failing-as _ now = refl

-- all were made
pub running-ended : (order : Order) (calls : List Call) (i : ℕ) (before now : List Section) (told : Option Order) → drop i calls ≡ [] → take i calls ≡ calls
    → Running order calls i before now told → Ran order calls before None now told
unfolding journal_place
running-ended order calls i before now told none all r =
    record {
      fails = sym (r.fails ∙ ap (λ left. option_map (λ n. n + i) (journal_place r.tells.call left)) none);
      leaves = r.leaves ∙ ap (λ made. after_calls made before) all;
      tells = r.tells;
    }

-- ---- what each stop makes of it

-- an order that names no call is still told
no-order-told : {told : Option Order} → Tells no_order told → told ≡ Some no_order
no-order-told t = t.is_told ∙ ap (λ (n : ℕ). Some (record { call = n; sections = 0 })) (t.stays refl)

-- where a failing call ends a step
pub place-failing : (number keep : ℕ) (calls : List Call) → stop_place (stops.Fail number keep) calls ≡ journal_place number calls
unfolding stop_place
place-failing zero keep calls = sym (none-at-zero calls)
place-failing (suc n) keep calls = let some : nat_lt 0 (suc n) ≡ true = grind (arith, nat_tests) in rw some refl

-- all calls were made where the order names none
pub passed : (calls : List Call) (before now : List Section) (failed : Option ℕ) (told : Option Order) → Ran no_order calls before failed now told
    → Passed calls before (option_map (λ place. record { place = place; outcome = outcomes.Journal }) failed) now told
passed calls before now failed told r =
    let none : failed ≡ None = r.fails ∙ none-at-zero calls in
    record { unbroken = rw none refl; leaves = rw none at r.leaves; tells = no-order-told r.tells }

module _ (calls : List Call) (before now : List Section) (broke : Option Break) (told : Option Order) where
  -- the stop names no call of the step
  pub made-whole : (stop : Stop) → stop_place stop calls ≡ None → Passed calls before broke now told → Made stop calls before broke now told
  made-whole stop none b = record { ends = rw none b.unbroken; leaves = rw none b.leaves; tells = b.tells }

-- where a call that failed ended the calls
abbrev pub ends_there : Option ℕ → Option Break
ends_there = option_map (λ place. record { place = place; outcome = outcomes.Journal })

-- a call was ordered to fail, and none did
pub unfailed-made : (calls : List Call) (before now : List Section) (failed : Option ℕ) (told told' : Option Order) (number keep : ℕ) → failed ≡ None
    → Ran (record { call = number; sections = keep }) calls before failed now told → told' ≡ Some no_order → Made (stops.Fail number keep) calls before (ends_there failed) now told'
unfailed-made calls before now failed told told' number keep none r tells =
    let at : journal_place number calls ≡ None = sym r.fails ∙ none in
    record {
      ends = rw (place-failing number keep calls, at, none) refl;
      leaves = rw (place-failing number keep calls, at) (rw none at r.leaves);
      tells = tells;
    }

-- one did
pub failing-made : (calls : List Call) (before now then : List Section) (failed : Option ℕ) (told told' : Option Order) (number keep p : ℕ) → failed ≡ Some p → then ≡ crashed keep now
    → Ran (record { call = number; sections = keep }) calls before failed now told → told' ≡ Some no_order → Made (stops.Fail number keep) calls before (ends_there failed) then told'
failing-made calls before now then failed told told' number keep p some left r tells =
    let at : journal_place number calls ≡ Some p = sym r.fails ∙ some in
    record {
      ends = rw (place-failing number keep calls, at, some) refl;
      leaves = rw (place-failing number keep calls, at) (left ∙ ap (crashed keep) (rw some at r.leaves));
      tells = tells;
    }

-- the step was cut off
pub made-until : (calls : List Call) (before now then : List Section) (broke : Option Break) (told told' : Option Order) (number keep place : ℕ)
    → stop_place (stops.Cut number keep) calls ≡ Some place → Passed (take place calls) before broke now told → then ≡ crashed keep now
    → (told ≡ Some no_order → told' ≡ Some no_order)
    → Made (stops.Cut number keep) calls before (Some (record { place = place; outcome = outcomes.Cut })) then told'
made-until calls before now then broke told told' number keep place at b left tells =
    record {
      ends = rw at refl;
      leaves = rw at (left ∙ ap (crashed keep) (b.leaves ∙ sym (cut-leaves number keep calls place (after_calls (take place calls) before))));
      tells = tells b.tells;
    }

-- no call is named
pub none-named : (calls : List Call) → stop_place stops.None calls ≡ None
unfolding stop_place
none-named calls = refl

-- the place of a cut
pub cut-named : (number keep : ℕ) (calls : List Call) → stop_place (stops.Cut number keep) calls ≡ cond (nat_lt 0 number && nat_le number (length calls)) (Some (number - 1)) None
unfolding stop_place
cut-named number keep calls = refl

-- ---- what is given

abbrev ended_at : Stop → ℕ → Break
ended_at stop place = record { place = place; outcome = stop_outcome stop }

settled-by : (stop : Stop) (doing : Doing) (before now : List Section) (out : StepOut) (place : Option ℕ) → stop_place stop doing.calls ≡ place
    → None ≡ option_map (ended_at stop) place
    → now ≡ option_map_or (λ at. crashed (kept_by stop) (broken_at stop doing.calls before at)) place (after_calls doing.calls before)
    → out ≡ out_of doing → Gave (performed stop doing before) outcomes.Done out now
unfolding performed
settled-by stop doing before now out None is ends left same = rw is (record { outcome_is = refl; out_is = same; leaves = left })
settled-by stop doing before now out (Some at) is ends left same = absurd cc

broken-by : (stop : Stop) (doing : Doing) (before now : List Section) (out : StepOut) (b : Break) (place : Option ℕ) → stop_place stop doing.calls ≡ place
    → Some b ≡ option_map (ended_at stop) place
    → now ≡ option_map_or (λ at. crashed (kept_by stop) (broken_at stop doing.calls before at)) place (after_calls doing.calls before)
    → out ≡ record no_out { calls = take b.place doing.calls } → Gave (performed stop doing before) b.outcome out now
unfolding performed
broken-by stop doing before now out b None is ends left made = absurd cc
broken-by stop doing before now out b (Some at) is ends left made =
    let same : b ≡ ended_at stop at = cc in
    rw is (record { outcome_is = ap (λ (x : Break). x.outcome) same; out_is = made ∙ ap (λ (x : Break). record no_out { calls = take x.place doing.calls }) same; leaves = left })

pub settled-whole : (stop : Stop) (planned : StepOut) (before now : List Section) (broke : Option Break) (told : Option Order) → broke ≡ None
    → Made stop planned.calls before broke now told → Settled stop planned before outcomes.Done planned now told
settled-whole stop planned before now broke told none m =
    record {
      gives = λ doing is.
          let m' : Made stop doing.calls before broke now told = rw (ap (λ (o : StepOut). o.calls) is) at m in
          settled-by stop doing before now planned (stop_place stop doing.calls) refl (rw none at m'.ends) m'.leaves is;
      tells = m.tells;
    }

pub settled-broken : (stop : Stop) (planned out : StepOut) (before now : List Section) (broke : Option Break) (b : Break) (told : Option Order) → broke ≡ Some b
    → out ≡ record no_out { calls = take b.place planned.calls }
    → Made stop planned.calls before broke now told → Settled stop planned before b.outcome out now told
settled-broken stop planned out before now broke b told some made m =
    record {
      gives = λ doing is.
          let m' : Made stop doing.calls before broke now told = rw (ap (λ (o : StepOut). o.calls) is) at m in
          broken-by stop doing before now out b (stop_place stop doing.calls) refl (rw some at m'.ends) m'.leaves (made ∙ ap (λ (o : StepOut). record no_out { calls = take b.place o.calls }) is);
      tells = m.tells;
    }

-- ---- the reading

-- no failing call is the reading
pub read-all : (stop : Stop) (before : List Section) (records : Option (Vec Artifact)) (now : List Section) (told : Option Order) → unreadable stop ≡ false
    → now ≡ before → Reads no_order before records told → Read stop before records now told
read-all stop before records now told readable same r = record { reads = rw readable r.reads; leaves = rw readable same; tells = r.tells }

-- which call of the journal is to fail, the reading or none of it
pub read-so : (call keep first : ℕ) (before : List Section) (records : Option (Vec Artifact)) (now : List Section) (told told' : Option Order) (b : Bool) → (call == 1) ≡ b
    → first ≡ cond b 1 0 → Reads (record { call = first; sections = keep }) before records told → now ≡ option_map_or (λ r. before) records (crashed keep before) → told' ≡ Some no_order
    → Read (stops.Fail call keep) before records now told'
read-so call keep first before None now told told' true is at r left tells = record { reads = rw is refl; leaves = rw is left; tells = tells }
read-so call keep first before (Some records) now told told' true is at r left tells = absurd (let e = rw at at r.reads in cc)
read-so call keep first before None now told told' false is at r left tells = absurd (let e = rw at at r.reads in cc)
read-so call keep first before (Some records) now told told' false is at r left tells =
    record { reads = rw is (rw at at r.reads); leaves = rw is left; tells = tells }

pub left-none : (keep : ℕ) (before : List Section) (records : Option (Vec Artifact)) (now : List Section) → is_some records ≡ false → now ≡ crashed keep before
    → now ≡ option_map_or (λ r. before) records (crashed keep before)
left-none keep before None now none left = left
left-none keep before (Some records) now none left = absurd cc

pub left-some : (keep : ℕ) (before : List Section) (records : Option (Vec Artifact)) (now : List Section) → is_some records ≡ true → now ≡ before
    → now ≡ option_map_or (λ r. before) records (crashed keep before)
left-some keep before None now some left = absurd cc
left-some keep before (Some records) now some left = left
