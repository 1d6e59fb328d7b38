-- The epochs, one before the others.
use Rattle.std.proofs.Common.{◌≡◌, ◌≢◌, ℕ, ◌<◌, ◌≤◌, ◌+◌, ◌-◌, ◌^◌, ◌==◌, Bool, true, false, not, List, [], ◌∷◌, length, Option, Some, None, Result, Ok, Err, refl, sym, ap, subst, ◌∙◌, arith}
use Rattle.std.specs.Prelude.{nat_le, if◌then◌else◌}
use Rattle.std.proofs.lemmas.Bool.Decides.{nat_tests}
use Rattle.simplex_transcript.specs.declared.entry.Entry.{Entry}
use Rattle.simplex_transcript.specs.declared.event.Event.{Event}
use Rattle.simplex_transcript.specs.declared.field.Field.{Field}
use Rattle.simplex_transcript.specs.declared.field.Field.TheVariants as fields
use Rattle.simplex_transcript.specs.declared.refusal.Refusal.{Refusal}
use Rattle.simplex_transcript.specs.declared.setup.Setup.{Setup}
use Rattle.model_rules.specs.Lists.{greatest_of}
use Rattle.model_run.specs.Run.{unless_bad, run, transcript_of, RunFrom}
use Rattle.model_run.specs.Setting.{Setting, setting_of}
use Rattle.model_run.specs.Setups.{first_bad, is_within, most_members}
use Rattle.law_log.specs.Logs.{logs_in}
use Rattle.law_log.specs.Transcripts.{IsTranscript}
use Rattle.simplex_run.specs.declared.run.Transcript.{Transcript}
use Rattle.law_run.specs.Complete.{IsOneEach}
use Rattle.law_run.specs.Limits.{KeepsTheLimit}
use Rattle.law_run.specs.OneChain.{ReportOneChain}
use Rattle.law_run.specs.Safe.{RunsSafely}
use Rattle.law_run.specs.Sayings.{Each}
use Rattle.simplex_form.specs.declared.input.Input as read
use Rattle.simplex_transcript.specs.declared.node.Node.{Node}
use Rattle.model_log.specs.declared.entry.LogEntry.{LogEntry}
use Rattle.simplex_network.specs.Answer as answers
use Rattle.simplex_network.specs.Stands.{MadeBy}
use Rattle.simplex_run.specs.WholeRuns.{WholeRunFrom}
use Rattle.model_epochs.specs.declared.chain.EpochError.{EpochError}
use Rattle.model_epochs.specs.declared.chain.EpochError.TheVariants.{WrongEpoch, Run, Open}
use Rattle.model_epochs.specs.Chain.{closing_payload}
use Rattle.model_epochs.specs.Epochs.{Input, Ran, behind, cut_at, epochs_from, lists_of, ran_of as ran_at}
use Rattle.simplex_epochs.specs.declared.epoch.EpochRun.{EpochRun}
use Rattle.simplex_epochs.specs.Runs.{IsEpochRun, WasRefused, given_of, is_memory, ran_of}

-- ---- one epoch

if_same : {A : Type 0} (a b : ℕ) (x y : A) → a ≡ b → (if a == b then x else y) ≡ x
if_same a b x y e = at (a == b) (grind (arith, nat_tests))
  where
    at : (t : Bool) → t ≡ true → (if t then x else y) ≡ x
    at true e = refl
    at false e = cc

if_other : {A : Type 0} (a b : ℕ) (x y : A) → a ≢ b → (if a == b then x else y) ≡ y
if_other a b x y e = at (a == b) (grind (arith, nat_tests))
  where
    at : (t : Bool) → t ≡ false → (if t then x else y) ≡ y
    at true e = cc
    at false e = refl

module _ (height place epoch : ℕ) (genesis : List ℕ) (input : Input) where
  pub wrong_number : (later : List Input) → input.setup.epoch ≢ epoch → epochs_from RunFrom height place epoch genesis (input ∷ later) ≡ Err (WrongEpoch place)
  unfolding epochs_from
  wrong_number [] other = if_other input.setup.epoch epoch _ _ other
  wrong_number (next ∷ later) other = if_other input.setup.epoch epoch _ _ other

  pub is_refused : (later : List Input) (refusal : Refusal) → input.setup.epoch ≡ epoch → RunFrom (setting_of input.setup genesis) input.events ≡ Err refusal
      → epochs_from RunFrom height place epoch genesis (input ∷ later) ≡ Err (Run place refusal)
  unfolding epochs_from
  is_refused [] refusal same ran = if_same input.setup.epoch epoch _ _ same ∙ rw ran refl
  is_refused (next ∷ later) refusal same ran = if_same input.setup.epoch epoch _ _ same ∙ rw ran refl

  pub is_last : (entries : List Entry) → input.setup.epoch ≡ epoch → RunFrom (setting_of input.setup genesis) input.events ≡ Ok entries
      → epochs_from RunFrom height place epoch genesis (input ∷ []) ≡ Ok (ran_at height input.setup genesis entries ∷ [])
  unfolding epochs_from
  is_last entries same ran = if_same input.setup.epoch epoch _ _ same ∙ rw ran refl

  pub is_open : (next : Input) (later : List Input) (entries : List Entry) → input.setup.epoch ≡ epoch → RunFrom (setting_of input.setup genesis) input.events ≡ Ok entries
      → closing_payload height (lists_of (logs_in input.setup entries)) ≡ None
      → epochs_from RunFrom height place epoch genesis (input ∷ next ∷ later) ≡ Err (Open place (greatest_of length (lists_of (logs_in input.setup entries))))
  unfolding epochs_from
  is_open next later entries same ran none = if_same input.setup.epoch epoch _ _ same ∙ rw ran (rw none refl)

  pub is_closed : (next : Input) (later : List Input) (entries : List Entry) (digest : List ℕ) → input.setup.epoch ≡ epoch → RunFrom (setting_of input.setup genesis) input.events ≡ Ok entries
      → closing_payload height (lists_of (logs_in input.setup entries)) ≡ Some digest
      → epochs_from RunFrom height place epoch genesis (input ∷ next ∷ later)
      ≡ behind (ran_at height input.setup genesis entries) (epochs_from RunFrom height (place + 1) (epoch + 1) digest (next ∷ later))
  unfolding epochs_from
  is_closed next later entries digest same ran some = if_same input.setup.epoch epoch _ _ same ∙ rw ran (rw some refl)

-- ---- the number of an epoch that ran

passed : {A E : Type 0} (b : Bool) (x : E) (r : Result A E) (a : A) → (if not b then Err x else r) ≡ Ok a → r ≡ Ok a
passed true x r a e = e
passed false x r a e = cc

no_bad : (o : Option Field) (r : Result (List Entry) Refusal) (entries : List Entry) → unless_bad o r ≡ Ok entries → o ≡ None
no_bad None r entries e = refl
no_bad (Some field) r entries e = cc

next_field : (b : Bool) (field : Field) (rest : Option Field) → (if b then Some field else rest) ≡ None → rest ≡ None
next_field true field rest e = cc
next_field false field rest e = e

no_field : (b : Bool) (field : Field) (rest : Option Field) → (if not b then Some field else rest) ≡ None → b ≡ true
no_field true field rest e = refl
no_field false field rest e = cc

low : (epoch : ℕ) → nat_le epoch (2 ^ 64 - 2) ≡ true → epoch ≤ 2 ^ 64 - 2
low epoch e = grind (arith, nat_tests)

epoch_fits : (setup : Setup) → first_bad setup ≡ None → setup.epoch ≤ 2 ^ 64 - 2
unfolding first_bad
epoch_fits setup good =
    low setup.epoch (no_field _ fields.Epoch _ (next_field _ fields.Faulty _ (next_field (not (is_within 1 (most_members setup) (length setup.members))) fields.Members _ good)))

pub low_epoch : (setup : Setup) (genesis : List ℕ) (events : List Event) (entries : List Entry) → RunFrom (setting_of setup genesis) events ≡ Ok entries → setup.epoch ≤ 2 ^ 64 - 2
unfolding RunFrom
low_epoch setup genesis events entries e = epoch_fits setup (no_bad (first_bad setup) (transcript_of (run (setting_of setup genesis) [] events)) entries (passed _ _ _ entries e))

-- ---- the run of an epoch

pub is_transcript : (setup : Setup) (genesis : List ℕ) (events : List Event) (made : Transcript) → WholeRunFrom (setting_of setup genesis) events made
    → (given : List Event) × IsTranscript setup given made.entries
is_transcript setup genesis events made whole = (events, record { genesis = genesis; ran = whole.entries; safe = whole.safe })

-- a whole run, as it was made
pub made_whole : (setting : Setting) (events : List Event) (made : Transcript)
    → RunFrom setting events ≡ Ok made.entries → IsOneEach made.entries events → MadeBy made.network setting (run setting [] events)
    → RunsSafely setting events → ReportOneChain made.entries → Each (KeepsTheLimit setting.setup) made.entries
    → WholeRunFrom setting events made
made_whole setting events made entries each network safe one_chain limit =
    record { entries = entries; each = each; network = network; safe = safe; one_chain = one_chain; limit = limit }

-- a refusal, where it is not want of memory
pub was_refused : (setting : Setting) (events : List Event) (place : ℕ) (refusal : Refusal) (error : EpochError)
    → (is_memory error ≡ false → error ≡ Run place refusal) → (is_memory error ≡ false → answers.is_memory refusal.error ≡ false)
    → (answers.is_memory refusal.error ≡ false → RunFrom setting events ≡ Err refusal)
    → is_memory error ≡ false → WasRefused setting events place error
was_refused setting events place refusal error run cause why other = record { refusal = refusal; told = run other; ran = why (cause other) }

-- ---- with its logs up to the height

same_ran : (height : ℕ) (setup : Setup) (genesis : List ℕ) (made : Transcript) (logs : List (Node × List LogEntry)) (ran : EpochRun)
    → logs ≡ logs_in setup made.entries → ran.genesis ≡ genesis → ran.transcript ≡ made → ran.logs ≡ cut_at height logs
    → ran_at height setup genesis made.entries ≡ ran_of ran
same_ran height setup genesis made logs ran whole at entries cut =
    let same : ran.logs ≡ cut_at height (logs_in setup made.entries) = cut ∙ ap (cut_at height) whole in
    ap (λ (digest : List ℕ). record { genesis = digest; entries = made.entries; logs = cut_at height (logs_in setup made.entries) }) (sym at)
    ∙ ap (λ (t : Transcript). record { genesis = ran.genesis; entries = t.entries; logs = cut_at height (logs_in setup made.entries) }) (sym entries)
    ∙ ap (λ (all : List (Node × List LogEntry)). record { genesis = ran.genesis; entries = ran.transcript.entries; logs = all }) (sym same)

pub cut_whole : (height : ℕ) (input : read.Input) (genesis : List ℕ) (made : Transcript) (logs : List (Node × List LogEntry)) (ran : EpochRun)
    → WholeRunFrom (setting_of input.setup genesis) input.events made → logs ≡ logs_in input.setup made.entries
    → ran.genesis ≡ genesis → ran.transcript ≡ made → ran.logs ≡ cut_at height logs → IsEpochRun height input ran
cut_whole height input genesis made logs ran whole same at entries cut =
    record {
      whole =
          subst (λ (digest : List ℕ). WholeRunFrom (setting_of input.setup digest) input.events ran.transcript) (sym at)
          (subst (λ (t : Transcript). WholeRunFrom (setting_of input.setup genesis) input.events t) (sym entries) whole);
      logs = cut ∙ ap (cut_at height) (same ∙ ap (λ (t : Transcript). logs_in input.setup t.entries) (sym entries));
    }

pub last_ran : (height place epoch : ℕ) (input : read.Input) (genesis : List ℕ) (made : Transcript) (logs : List (Node × List LogEntry)) (ran : EpochRun)
    → input.setup.epoch ≡ epoch → WholeRunFrom (setting_of input.setup genesis) input.events made → logs ≡ logs_in input.setup made.entries
    → ran.genesis ≡ genesis → ran.transcript ≡ made → ran.logs ≡ cut_at height logs
    → epochs_from RunFrom height place epoch genesis (given_of input ∷ []) ≡ Ok (ran_of ran ∷ [])
last_ran height place epoch input genesis made logs ran number whole same at entries cut =
    is_last height place epoch genesis (given_of input) made.entries number whole.entries
    ∙ ap (λ (r : Ran). Ok (r ∷ [])) (same_ran height input.setup genesis made logs ran same at entries cut)

pub next_ran : (height place epoch place_behind epoch_behind : ℕ) (input : read.Input) (genesis digest : List ℕ) (made : Transcript) (logs : List (Node × List LogEntry))
    (ran : EpochRun) → input.setup.epoch ≡ epoch → WholeRunFrom (setting_of input.setup genesis) input.events made → logs ≡ logs_in input.setup made.entries
    → ran.genesis ≡ genesis → ran.transcript ≡ made → ran.logs ≡ cut_at height logs → place_behind ≡ place + 1 → epoch_behind ≡ epoch + 1
    → closing_payload height (lists_of logs) ≡ Some digest → (next : Input) (later : List Input)
    → epochs_from RunFrom height place epoch genesis (given_of input ∷ next ∷ later)
    ≡ behind (ran_of ran) (epochs_from RunFrom height place_behind epoch_behind digest (next ∷ later))
next_ran height place epoch place_behind epoch_behind input genesis digest made logs ran number whole same at entries cut places epochs closed next later =
    is_closed height place epoch genesis (given_of input) next later made.entries digest number whole.entries
    (ap (λ (all : List (Node × List LogEntry)). closing_payload height (lists_of all)) (sym same) ∙ closed)
    ∙ ap (λ (r : Ran). behind r (epochs_from RunFrom height (place + 1) (epoch + 1) digest (next ∷ later))) (same_ran height input.setup genesis made logs ran same at entries cut)
    ∙ ap (λ (n : ℕ). behind (ran_of ran) (epochs_from RunFrom height n (epoch + 1) digest (next ∷ later))) (sym places)
    ∙ ap (λ (n : ℕ). behind (ran_of ran) (epochs_from RunFrom height place_behind n digest (next ∷ later))) (sym epochs)

-- ---- errors

pub wrong_error : (height place epoch : ℕ) (genesis : List ℕ) (input : Input) (error : EpochError) (later : List Input) → error ≡ WrongEpoch place
    → input.setup.epoch ≢ epoch → epochs_from RunFrom height place epoch genesis (input ∷ later) ≡ Err error
wrong_error height place epoch genesis input error later is other =
    wrong_number height place epoch genesis input later other ∙ ap (λ (e : EpochError). Err e) (sym is)

pub refused_error : (height place epoch : ℕ) (genesis : List ℕ) (input : Input) (error : EpochError) (later : List Input)
    → WasRefused (setting_of input.setup genesis) input.events place error → input.setup.epoch ≡ epoch
    → epochs_from RunFrom height place epoch genesis (input ∷ later) ≡ Err error
refused_error height place epoch genesis input error later was number =
    is_refused height place epoch genesis input later was.refusal number was.ran ∙ ap (λ (e : EpochError). Err e) (sym was.told)

pub open_error : (height place epoch : ℕ) (genesis : List ℕ) (input : Input) (made : Transcript) (logs : List (Node × List LogEntry)) (error : EpochError)
    → input.setup.epoch ≡ epoch → WholeRunFrom (setting_of input.setup genesis) input.events made → logs ≡ logs_in input.setup made.entries
    → error ≡ Open place (greatest_of length (lists_of logs)) → closing_payload height (lists_of logs) ≡ None → (next : Input) (later : List Input)
    → epochs_from RunFrom height place epoch genesis (input ∷ next ∷ later) ≡ Err error
open_error height place epoch genesis input made logs error number whole same is none next later =
    let open_at : List (Node × List LogEntry) → EpochError = λ all. Open place (greatest_of length (lists_of all)) in
    is_open height place epoch genesis input next later made.entries number whole.entries
    (ap (λ (all : List (Node × List LogEntry)). closing_payload height (lists_of all)) (sym same) ∙ none)
    ∙ ap (λ (all : List (Node × List LogEntry)). Err (open_at all)) (sym same)
    ∙ ap (λ (e : EpochError). Err e) (sym is)
