-- Which setups and events make a transcript, and how long it is.
use Rattle.std.proofs.Common.{◌≡◌, ◌+◌, not, Bool, true, false, List, [], ◌∷◌, ◌++◌, length, map, reverse, Option, Some, None, IsNone, Result, Ok, Err, is_ok, refl, sym, ap, ◌∙◌, subst, arith, append_assoc, if◌then◌else◌}
use Rattle.std.proofs.lemmas.List.{length-reverse, length-map}
use Rattle.simplex_transcript.specs.declared.event.Event.{Event}
use Rattle.simplex_transcript.specs.declared.entry.Entry.{Entry}
use Rattle.simplex_transcript.specs.declared.field.Field.{Field}
use Rattle.simplex_transcript.specs.declared.refusal.RunError.{RunError}
use Rattle.simplex_transcript.specs.declared.refusal.Refusal.{Refusal}
use Rattle.model_run.specs.Setting.{Setting}
use Rattle.model_run.specs.Life.{Noted}
use Rattle.model_run.specs.Entries.{entry_of}
use Rattle.model_run.specs.Setups.{first_bad}
use Rattle.model_run.specs.Run.{unless_refused, run, transcript_of, unless_bad, are_few, RunFrom}
use Rattle.law_run.specs.Complete.{MeetAll, IsPossible, HasRun}
use Rattle.law_run.proofs.Exact.{meets_ok, ok_meets}

-- ---- entry by entry

-- behind the first of the events the run goes on with the rest
run_on : (setting : Setting) (start : List Noted) (first rest : List Event) (before : List Noted) → run setting start first ≡ Ok before
    → run setting start (first ++ rest) ≡ run setting before rest
unfolding run unless_refused
run_on setting start [] rest before e = let same : start ≡ before = cc in ap (λ list. run setting list rest) same
run_on setting start (event ∷ first) rest before e = by (entry_of setting start event) e (λ noted. run_on setting (noted ∷ start) first rest before)
  where
    by : (r : Result Noted RunError) → unless_refused (length start + 1) r (λ noted. run setting (noted ∷ start) first) ≡ Ok before
        → ((noted : Noted) → run setting (noted ∷ start) first ≡ Ok before → run setting (noted ∷ start) (first ++ rest) ≡ run setting before rest)
        → unless_refused (length start + 1) r (λ noted. run setting (noted ∷ start) (first ++ rest)) ≡ run setting before rest
    by (Err error) h old = cc
    by (Ok noted) h old = old noted h

-- the run behind one more event
run_more : (setting : Setting) (first : List Event) (event : Event) (before : List Noted) (noted : Noted) → run setting [] first ≡ Ok before
    → entry_of setting before event ≡ Ok noted → run setting [] (first ++ event ∷ []) ≡ Ok (noted ∷ before)
unfolding run unless_refused
run_more setting first event before noted ran is = run_on setting [] first (event ∷ []) before ran ∙ rw is refl

-- ---- complete

met_runs : (setting : Setting) (first rest : List Event) (before : List Noted) → MeetAll setting (first ++ rest) → run setting [] first ≡ Ok before
    → is_ok (run setting before rest) ≡ true
unfolding run unless_refused MeetAll
met_runs setting first [] before met ran = refl
met_runs setting first (event ∷ rest) before met ran =
    by (entry_of setting before event) refl (meets_ok setting before event (met first event rest before refl ran))
    (λ noted is. met_runs setting (first ++ event ∷ []) rest (noted ∷ before) (subst (MeetAll setting) (sym (append_assoc first (event ∷ []) rest)) met)
    (run_more setting first event before noted ran is))
  where
    by : (r : Result Noted RunError) → entry_of setting before event ≡ r → is_ok r ≡ true
        → ((noted : Noted) → entry_of setting before event ≡ Ok noted → is_ok (run setting (noted ∷ before) rest) ≡ true)
        → is_ok (unless_refused (length before + 1) r (λ noted. run setting (noted ∷ before) rest)) ≡ true
    by (Err error) is ok old = cc
    by (Ok noted) is ok old = old noted is

all_run : (setting : Setting) (events : List Event) → MeetAll setting events → is_ok (run setting [] events) ≡ true
unfolding run
all_run setting events met = met_runs setting [] events [] met refl

answers : (r : Result (List Noted) Refusal) → is_ok r ≡ true → (entries : List Entry) × (transcript_of r ≡ Ok entries)
answers (Ok noted) ok = (_, refl)
answers (Err refusal) ok = cc

valid_run : (few : Bool) (bad : Option Field) (other : Refusal) (r : Result (List Entry) Refusal) → few ≡ true → IsNone bad
    → (if not few then Err other else unless_bad bad r) ≡ r
valid_run true None other r f g = refl
valid_run true (Some field) other r f g = cc
valid_run false bad other r f g = cc

pub possible : (setting : Setting) (events : List Event) → IsPossible setting events → HasRun setting events
unfolding RunFrom
possible setting events p =
    let ran = answers (run setting [] events) (all_run setting events p.met) in
    (ran.0, valid_run (are_few setting.setup events) (first_bad setting.setup) _ (transcript_of (run setting [] events)) p.valid.few p.valid.good ∙ ran.1)

-- ---- and nothing else

pub record Parts (few : Bool) (bad : Option Field) (r : Result (List Entry) Refusal) (entries : List Entry) : Type 0 where
  pub are_few : few ≡ true
  pub is_good : IsNone bad
  pub ran : r ≡ Ok entries

parts_of : (few : Bool) (bad : Option Field) (other : Refusal) (r : Result (List Entry) Refusal) (entries : List Entry)
    → (if not few then Err other else unless_bad bad r) ≡ Ok entries → Parts few bad r entries
parts_of true None other r entries e = record { are_few = refl; is_good = refl; ran = e }
parts_of true (Some field) other r entries e = cc
parts_of false bad other r entries e = cc

pub parts : (setting : Setting) (events : List Event) (entries : List Entry) → RunFrom setting events ≡ Ok entries
    → Parts (are_few setting.setup events) (first_bad setting.setup) (transcript_of (run setting [] events)) entries
unfolding RunFrom
parts setting events entries e = parts_of (are_few setting.setup events) (first_bad setting.setup) _ (transcript_of (run setting [] events)) entries e

-- the entries of a transcript, the newest first
pub noted_in : (r : Result (List Noted) Refusal) (entries : List Entry) → transcript_of r ≡ Ok entries
    → (noted : List Noted) × (r ≡ Ok noted) × (entries ≡ reverse (map (λ (n : Noted). n.entry) noted))
noted_in (Ok noted) entries e = (noted, refl, cc)
noted_in (Err refusal) entries e = cc

first_ok : (setting : Setting) (before : List Noted) (next : Event) (rest : List Event) (noted : List Noted) → run setting before (next ∷ rest) ≡ Ok noted
    → is_ok (entry_of setting before next) ≡ true
unfolding run unless_refused
first_ok setting before next rest noted e = by (entry_of setting before next) e
  where
    by : (r : Result Noted RunError) → unless_refused (length before + 1) r (λ n. run setting (n ∷ before) rest) ≡ Ok noted → is_ok r ≡ true
    by (Ok n) h = refl
    by (Err error) h = cc

ran_met : (setting : Setting) (events : List Event) (noted : List Noted) → run setting [] events ≡ Ok noted → MeetAll setting events
unfolding MeetAll
ran_met setting events noted e first next rest before is ran =
    let whole : run setting before (next ∷ rest) ≡ Ok noted = sym (run_on setting [] first (next ∷ rest) before ran) ∙ ap (λ list. run setting [] list) (sym is) ∙ e in
    ok_meets setting before next (first_ok setting before next rest noted whole)

pub run_possible : (setting : Setting) (events : List Event) (entries : List Entry) → RunFrom setting events ≡ Ok entries → IsPossible setting events
run_possible setting events entries e =
    let p = parts setting events entries e in
    let noted = noted_in (run setting [] events) entries p.ran in
    record { valid = record { few = p.are_few; good = p.is_good }; met = ran_met setting events noted.0 noted.1 }

-- ---- how long it is

run_long : (setting : Setting) (before : List Noted) (events : List Event) (noted : List Noted) → run setting before events ≡ Ok noted
    → length noted ≡ length before + length events
unfolding run unless_refused
run_long setting before [] noted e = let same : before ≡ noted = cc in omega (arith, ap length same)
run_long setting before (event ∷ events) noted e = by (entry_of setting before event) e (λ n. run_long setting (n ∷ before) events noted)
  where
    by : (r : Result Noted RunError) → unless_refused (length before + 1) r (λ n. run setting (n ∷ before) events) ≡ Ok noted
        → ((n : Noted) → run setting (n ∷ before) events ≡ Ok noted → length noted ≡ length (n ∷ before) + length events)
        → length noted ≡ length before + length (event ∷ events)
    by (Err error) h old = cc
    by (Ok n) h old = let longer = old n h in omega (arith, longer)

pub as_long : (setting : Setting) (events : List Event) (entries : List Entry) → RunFrom setting events ≡ Ok entries → length entries ≡ length events
unfolding run
as_long setting events entries e =
    let noted = noted_in (run setting [] events) entries (parts setting events entries e).ran in
    ap length noted.2 ∙ length-reverse (map (λ (n : Noted). n.entry) noted.0) ∙ length-map noted.0 (λ (n : Noted). n.entry) ∙ omega (arith, run_long setting [] events noted.0 noted.1)
