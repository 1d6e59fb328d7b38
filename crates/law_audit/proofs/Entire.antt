-- The record of a run is found sound.
use Rattle.std.proofs.Common.{◌≡◌, ◌+◌, ◌<◌, List, [], ◌∷◌, ◌++◌, length, map, reverse, Option, Some, None, Result, Ok, Err, refl, sym, ap, ◌∙◌, subst, inr, append_assoc, append-nil}
use mathlib.Core.List.{reverse_aux}
use Rattle.std.proofs.lemmas.List.{reverse-append}
use Rattle.std.specs.Prelude.{IsNone}
use Rattle.simplex_transcript.specs.declared.event.Event.{Event}
use Rattle.simplex_transcript.specs.declared.entry.Entry.{Entry}
use Rattle.simplex_transcript.specs.declared.refusal.RunError.{RunError}
use Rattle.simplex_transcript.specs.declared.refusal.Refusal.{Refusal}
use Rattle.model_run.specs.Setting.{Setting}
use Rattle.model_run.specs.Life.{Noted}
use Rattle.model_run.specs.Entries.{entry_of}
use Rattle.model_run.specs.Setups.{first_bad}
use Rattle.model_run.specs.Run.{unless_refused, run, RunFrom}
use Rattle.law_run.specs.Backed.{StandsIn}
use Rattle.law_run.specs.Fitting.{IsTyped, AreTyped}
use Rattle.law_run.specs.Histories.{IsRun, AreFloors}
use Rattle.law_run.specs.Safe.{AgreeAll}
use Rattle.law_run.specs.Sayings.{Each}
use Rattle.law_run.proofs.AskedEvents.{entry_event}
use Rattle.law_run.proofs.Ran.{run_is_run, limited, runs_safely}
use Rattle.law_run.proofs.Whole.{parts, noted_in}
use Rattle.model_audit.specs.declared.record.Verdict.TheVariants.{Sound}
use Rattle.model_audit.specs.Audit.{audited}
use Rattle.model_audit.specs.Holding.{IsFaultless, AreFaultless}
use Rattle.model_audit.specs.Record.{record_entry, record_of}
use Rattle.model_audit.specs.Rebuilt.{rebuilt, recorded}
use Rattle.law_audit.proofs.Agreeing.{agrees}
use Rattle.law_audit.proofs.Allowed.{allowed_read}
use Rattle.law_audit.proofs.Fitted.{fitted}
use Rattle.law_audit.proofs.Ordered.{votes_stored}
use Rattle.law_audit.proofs.Reaching.{ends_read}
use Rattle.law_audit.proofs.Sounding.{sound_exactly}
use Rattle.law_audit.proofs.Telling.{genuine}
use Rattle.law_audit.proofs.Voted.{votes_sent}

-- what is known of the entries of a whole run
record IsGood (setting : Setting) (noted : List Noted) : Type 0 where
  ran : IsRun setting noted
  floors : AreFloors noted
  agree : AgreeAll setting.setup noted
  typed : AreTyped noted

-- of the entries before one it is known as well
before_good : (setting : Setting) (noted : Noted) (before : List Noted) → IsGood setting (noted ∷ before) → IsGood setting before
unfolding IsRun AreFloors StandsIn
before_good setting noted before g =
    record {
      ran = g.ran.2;
      floors = g.floors.1;
      agree = λ a b sa sb. g.agree a b (inr sa.0, sa.1) (inr sb.0, sb.1);
      typed = g.typed.1;
    }

ok_same : (a b : List Noted) → ◌≡◌ {A = Result (List Noted) Refusal} (Ok a) (Ok b) → a ≡ b
ok_same a b h = cc

start_good : (setting : Setting) (before : List Noted) (events : List Event) (noted : List Noted) → run setting before events ≡ Ok noted → IsGood setting noted → IsGood setting before
unfolding run unless_refused
start_good setting before [] noted e g = subst (IsGood setting) (sym (ok_same before noted e)) g
start_good setting before (event ∷ events) noted e g = by (entry_of setting before event) e (λ n h. start_good setting (n ∷ before) events noted h g)
  where
    by : (r : Result Noted RunError) → unless_refused (length before + 1) r (λ n. run setting (n ∷ before) events) ≡ Ok noted
        → ((n : Noted) → run setting (n ∷ before) events ≡ Ok noted → IsGood setting (n ∷ before)) → IsGood setting before
    by (Err error) h old = cc
    by (Ok n) h old = before_good setting n before (old n h)

-- one entry
one_faultless : (setting : Setting) (before : List Noted) (event : Event) (noted : Noted) → 0 < setting.setup.term → IsGood setting (noted ∷ before) → entry_of setting before event ≡ Ok noted
    → IsFaultless setting (map recorded before) event (record_entry noted.entry)
one_faultless setting before event noted pos g e =
    let b = before_good setting noted before g in
    record {
      fitting = fitted setting before event noted b.ran e;
      allowed = allowed_read setting before event noted b.ran (ends_read setting before pos b.ran b.floors) e;
      genuine = genuine setting before event noted e;
      stored = votes_stored setting before event noted pos b.ran g.floors g.typed.0 e;
      ruled = votes_sent setting before event noted pos b.ran b.floors e;
      agrees = agrees setting.setup before noted g.agree;
    }

abbrev entry_in : Noted → Entry
entry_in n = n.entry

abbrev in_order : List Noted → List Entry
in_order noted = reverse (map entry_in noted)

in_order-push : (noted : Noted) (before : List Noted) → in_order (noted ∷ before) ≡ in_order before ++ noted.entry ∷ []
in_order-push noted before = rw (reverse-append (noted.entry ∷ []) (map entry_in before)) refl

-- behind the entries so far stand those of the events, each without fault
record Goes (setting : Setting) (before noted : List Noted) (events : List Event) : Type 0 where
  news : List Entry
  behind : in_order noted ≡ in_order before ++ news
  each : AreFaultless setting (map recorded before) events (map record_entry news)

run_goes : (setting : Setting) (before : List Noted) (events : List Event) (noted : List Noted) → 0 < setting.setup.term → IsGood setting noted → run setting before events ≡ Ok noted → Goes setting before noted events
unfolding run unless_refused AreFaultless
run_goes setting before [] noted pos g e =
    record { news = []; behind = ap in_order (sym (ok_same before noted e)) ∙ sym (append-nil (in_order before)); each = tt }
run_goes setting before (event ∷ events) noted pos g e =
    by (entry_of setting before event) refl e (λ n h. run_goes setting (n ∷ before) events noted pos g h)
  where
    by : (r : Result Noted RunError) → entry_of setting before event ≡ r → unless_refused (length before + 1) r (λ n. run setting (n ∷ before) events) ≡ Ok noted
        → ((n : Noted) → run setting (n ∷ before) events ≡ Ok noted → Goes setting (n ∷ before) noted events) → Goes setting before noted (event ∷ events)
    by (Err error) is h old = cc
    by (Ok n) is h old =
        let goes = old n h in
        record {
          news = n.entry ∷ goes.news;
          behind = goes.behind ∙ ap (λ list. list ++ goes.news) (in_order-push n before) ∙ append_assoc (in_order before) (n.entry ∷ []) goes.news;
          each = (
            one_faultless setting before event n pos (start_good setting (n ∷ before) events noted h g) is,
            subst (λ (x : Event). AreFaultless setting (rebuilt x (record_entry n.entry) ∷ map recorded before) events (map record_entry goes.news)) (entry_event setting before event n is) goes.each,
          );
        }

-- ---- the values of the entries

each_turned : (xs ys : List Entry) → Each IsTyped (reverse_aux xs ys) → Each IsTyped xs × Each IsTyped ys
each_turned [] ys h = (tt, h)
each_turned (x ∷ xs) ys h = let r = each_turned xs (x ∷ ys) h in ((r.1.0, r.0), r.1.1)

each_of : (noted : List Noted) → Each IsTyped (map entry_in noted) → AreTyped noted
each_of [] h = tt
each_of (n ∷ noted) h = (h.0, each_of noted h.1)

is_nothing : {A : Type 0} (o : Option A) → IsNone o → o ≡ None
is_nothing None h = refl
is_nothing (Some x) h = cc

-- ---- the whole record

pub runs_are_sound : (setting : Setting) (events : List Event) (entries : List Entry) → RunFrom setting events ≡ Ok entries → Each IsTyped entries → audited setting events (record_of entries) ≡ Sound
unfolding IsRun record_of
runs_are_sound setting events entries e typed =
    let p = parts setting events entries e in
    let n = noted_in (run setting [] events) entries p.ran in
    let safe = runs_safely setting events entries e typed n.0 n.1 in
    let pos = (limited setting.setup (is_nothing (first_bad setting.setup) p.is_good)).term in
    let good : IsGood setting n.0 =
    record {
      ran = run_is_run setting [] events n.0 tt n.1;
      floors = safe.above;
      agree = safe.agrees;
      typed = each_of n.0 (each_turned (map entry_in n.0) [] (subst (Each IsTyped) n.2 typed)).0;
    } in
    let goes = run_goes setting [] events n.0 pos good n.1 in
    let is : entries ≡ goes.news = n.2 ∙ goes.behind in
    (sound_exactly setting events (record_of entries)).1
    (record {
      valid = record { few = p.are_few; good = p.is_good };
      faultless = subst (λ (list : List Entry). AreFaultless setting [] events (map record_entry list)) (sym is) goes.each;
    })
