-- What the one transcript of a setup and events is.
use Rattle.std.proofs.Common.{◌≡◌, ℕ, ◌+◌, ◌-◌, ◌^◌, ◌<◌, ◌≤◌, not, nat_lt, nat_le, Bool, true, false, List, [], ◌∷◌, length, map, reverse, Option, Some, None, Result, Ok, Err, refl, sym, subst, arith, leb-true, if◌then◌else◌}
use mathlib.Core.List.{reverse_aux}
use Rattle.std.proofs.lemmas.Bool.Decides.{nat_tests}
use Rattle.simplex_values.specs.Quorum.{max_faulty}
use Rattle.simplex_transcript.specs.declared.entry.Entry.{Entry}
use Rattle.simplex_transcript.specs.declared.event.Event.{Event}
use Rattle.simplex_transcript.specs.declared.field.Field.{Field}
use Rattle.simplex_transcript.specs.declared.field.Field.TheVariants as fields
use Rattle.simplex_transcript.specs.declared.setup.Setup.{Setup}
use Rattle.simplex_transcript.specs.declared.refusal.Refusal.{Refusal}
use Rattle.simplex_transcript.specs.declared.refusal.RunError.{RunError}
use Rattle.simplex_transcript.specs.declared.refusal.RunError.TheVariants as refusals
use Rattle.model_run.specs.Setting.{Setting}
use Rattle.model_run.specs.Life.{Noted}
use Rattle.model_run.specs.Members.{members_of}
use Rattle.model_run.specs.Setups.{faulty_in, first_bad}
use Rattle.model_run.specs.Entries.{entry_of}
use Rattle.model_run.specs.Run.{refused, are_few, unless_refused, run, transcript_of, unless_bad, RunFrom}
use Rattle.law_run.specs.Histories.{IsRun}
use Rattle.law_run.specs.Sayings.{Each}
use Rattle.law_run.specs.Fitting.{IsTyped, AreTyped}
use Rattle.law_run.specs.MostlyHonest.{IsMostlyHonest}
use Rattle.law_run.specs.Safe.{IsSafe, RunsSafely}
use Rattle.law_run.proofs.Good.{both}
use Rattle.law_run.proofs.Safely.{mostly_honest_is_safe, faulty_counted}

ok_is : {E A : Type 0} (a b : A) → ◌≡◌ {A = Result A E} (Ok a) (Ok b) → a ≡ b
ok_is a b e = cc

-- what a run makes of entries of a run are entries of a run
pub run_is_run : (setting : Setting) (before : List Noted) (events : List Event) (noted : List Noted) → IsRun setting before → run setting before events ≡ Ok noted → IsRun setting noted
unfolding run unless_refused IsRun
run_is_run setting before [] noted ran e = subst (IsRun setting) (ok_is before noted e) ran
run_is_run setting before (event ∷ events) noted ran e =
    at (entry_of setting before event) refl e (λ n f h. run_is_run setting (n ∷ before) events noted (event, f, ran) h)
  where
    at : (r : Result Noted RunError) → entry_of setting before event ≡ r → unless_refused (length before + 1) r (λ n. run setting (n ∷ before) events) ≡ Ok noted
        → ((n : Noted) → entry_of setting before event ≡ Ok n → run setting (n ∷ before) events ≡ Ok noted → IsRun setting noted) → IsRun setting noted
    at (Err error) f h k = cc
    at (Ok n) f h k = k n f h

-- ---- what is not refused

pub not_refused : {A E : Type 0} (b : Bool) (x : E) (r : Result A E) (a : A) → (if not b then Err x else r) ≡ Ok a → (b ≡ true) × (r ≡ Ok a)
not_refused true x r a e = (refl, e)
not_refused false x r a e = cc

pub unbad : (o : Option Field) (r : Result (List Entry) Refusal) (entries : List Entry) → unless_bad o r ≡ Ok entries → (o ≡ None) × (r ≡ Ok entries)
unbad None r entries e = (refl, e)
unbad (Some field) r entries e = cc

goes_on : {A : Type 0} (b : Bool) (x : A) (o : Option A) → (if b then Some x else o) ≡ None → (b ≡ false) × (o ≡ None)
goes_on true x o e = cc
goes_on false x o e = (refl, e)

negated : (b : Bool) → not b ≡ false → b ≡ true
negated true e = refl
negated false e = cc

-- the limits of a setup that is taken
pub record IsLimited (setup : Setup) : Type 0 where
  pub some : 0 < members_of setup
  pub most : members_of setup ≤ 256
  pub few : faulty_in setup.members ≤ max_faulty (members_of setup)
  pub epoch : setup.epoch < 2 ^ 64
  pub term : 0 < setup.term

few_members : (b : Bool) (n : ℕ) → nat_le n (if b then 256 else 64) ≡ true → n ≤ 256
few_members true n e = leb-true n 256 e
few_members false n e = (let h = leb-true n 64 e in omega (arith, h))

not_more : (a b : ℕ) → nat_lt a b ≡ false → b ≤ a
not_more a b e = grind (arith, nat_tests, e)

low : (epoch : ℕ) → epoch ≤ 2 ^ 64 - 2 → epoch < 2 ^ 64
low epoch h = omega (arith, h)

pub limited : (setup : Setup) → first_bad setup ≡ None → IsLimited setup
unfolding first_bad
limited setup e =
    let a = goes_on _ _ _ e in
    let b = goes_on _ _ _ a.1 in
    let c = goes_on _ _ _ b.1 in
    let d = goes_on _ _ _ c.1 in
    let members = both _ _ (negated _ a.0) in
    let term = both _ _ (negated _ d.0) in
    record {
      some = leb-true 1 (length setup.members) members.0;
      most = few_members _ (length setup.members) members.1;
      few = not_more (max_faulty (length setup.members)) (faulty_in setup.members) b.0;
      epoch = low setup.epoch (leb-true setup.epoch (2 ^ 64 - 2) (negated _ c.0));
      term = leb-true 1 setup.term term.0;
    }

-- ---- the values of the entries

-- what holds of the items in one order holds of them in the other
each_turned : {A : Type 0} (P : A → Type 0) (xs ys : List A) → Each P (reverse_aux xs ys) → Each P xs × Each P ys
each_turned P [] ys h = (tt, h)
each_turned P (x ∷ xs) ys h = let r = each_turned P xs (x ∷ ys) h in ((r.1.0, r.0), r.1.1)

each_of : (noted : List Noted) → Each IsTyped (map (λ (n : Noted). n.entry) noted) → AreTyped noted
each_of [] h = tt
each_of (n ∷ noted) h = (h.0, each_of noted h.1)

entries_typed : (noted : List Noted) (entries : List Entry) → reverse (map (λ (n : Noted). n.entry) noted) ≡ entries → Each IsTyped entries → AreTyped noted
entries_typed noted entries e h =
    each_of noted (each_turned IsTyped (map (λ (n : Noted). n.entry) noted) [] (subst (Each IsTyped) (sym e) h)).0

pub mostly_honest : (setting : Setting) (noted : List Noted) → IsLimited setting.setup → IsRun setting noted → AreTyped noted → IsMostlyHonest setting noted
mostly_honest setting noted l ran typed =
    record {
      some = l.some;
      not_many = fewer (members_of setting.setup) l.most;
      term = l.term;
      epoch = l.epoch;
      few = subst (λ n. n ≤ max_faulty (members_of setting.setup)) (sym (faulty_counted 0 setting.setup.members)) l.few;
      ran = ran;
      typed = typed;
    }
  where
    fewer : (n : ℕ) → n ≤ 256 → n < 2 ^ 16
    fewer n h = omega (arith, h)

limited_is_safe : (setting : Setting) (noted : List Noted) → IsLimited setting.setup → IsRun setting noted → AreTyped noted → IsSafe setting noted
limited_is_safe setting noted l ran typed = mostly_honest_is_safe setting noted (mostly_honest setting noted l ran typed)

-- the whole run of any setup
pub runs_safely : (setting : Setting) (events : List Event) (entries : List Entry) → RunFrom setting events ≡ Ok entries → Each IsTyped entries → RunsSafely setting events
unfolding RunFrom IsRun
runs_safely setting events entries e typed noted ran =
    let few = not_refused (are_few setting.setup events) (refused (refusals.BadSetup fields.Events) 0) _ entries e in
    let parts = unbad (first_bad setting.setup) (transcript_of (run setting [] events)) entries few.1 in
    let made : transcript_of (Ok noted) ≡ Ok entries = subst (λ r. transcript_of r ≡ Ok entries) ran parts.1 in
    limited_is_safe setting noted (limited setting.setup parts.0) (run_is_run setting [] events noted tt ran) (entries_typed noted entries (ok_is _ entries made) typed)
