-- The runs of epochs, one after another.
use Rattle.std.specs.Prelude.{ℕ, ◌+◌, ◌==◌, List, [], ◌∷◌, map, take, length, Option, Some, None, Result, Ok, Err, if◌then◌else◌}
use Rattle.model_rules.specs.Lists.{greatest_of}
use Rattle.simplex_types.specs.Genesis.{genesis_of}
use Rattle.simplex_transcript.specs.declared.event.Event.{Event}
use Rattle.simplex_transcript.specs.declared.entry.Entry.{Entry}
use Rattle.simplex_transcript.specs.declared.node.Node.{Node}
use Rattle.simplex_transcript.specs.declared.setup.Setup.{Setup}
use Rattle.simplex_transcript.specs.declared.refusal.Refusal.{Refusal}
use Rattle.model_run.specs.Setting.{Setting, setting_of}
use Rattle.model_run.specs.Kinds.{is_same_node, node_of}
use Rattle.model_run.specs.Run.{RunFrom}
use Rattle.model_log.specs.declared.entry.LogEntry.{LogEntry}
use Rattle.law_log.specs.Logs.{logs_in}
use Rattle.model_epochs.specs.declared.chain.EpochError.{EpochError}
use Rattle.model_epochs.specs.declared.chain.EpochError.TheVariants.{WrongEpoch, Run, Open}
use Rattle.model_epochs.specs.Chain.{closing_payload}

pub record Input : Type 0 where
  pub setup : Setup
  pub events : List Event

-- the genesis digest with which the epoch ran, its transcript, and for each honest node its log up to the height
pub record Ran : Type 0 where
  pub genesis : List ℕ
  pub entries : List Entry
  pub logs : List (Node × List LogEntry)

-- what a setting and events make
abbrev pub Runs : Type 0
Runs = Setting → List Event → Result (List Entry) Refusal

abbrev pub lists_of : List (Node × List LogEntry) → List (List LogEntry)
lists_of logs = map (λ log. log.1) logs

-- each log up to the height
abbrev pub cut_at : ℕ → List (Node × List LogEntry) → List (Node × List LogEntry)
cut_at height logs = map (λ log. (log.0, take height log.1)) logs

abbrev pub ran_of : ℕ → Setup → List ℕ → List Entry → Ran
ran_of height setup genesis entries = record { genesis = genesis; entries = entries; logs = cut_at height (logs_in setup entries) }

abbrev pub behind : Ran → Result (List Ran) EpochError → Result (List Ran) EpochError
behind ran (Ok later) = Ok (ran ∷ later)
behind ran (Err error) = Err error

-- with the payload at which the epoch is closed, or open
abbrev pub unless_open : ℕ → List (Node × List LogEntry) → (List ℕ → Result (List Ran) EpochError) → Option (List ℕ) → Result (List Ran) EpochError
unless_open place logs next (Some digest) = next digest
unless_open place logs next None = Err (Open place (greatest_of length (lists_of logs)))

abbrev pub unless_refused : ℕ → Result (List Entry) Refusal → (List Entry → Result (List Ran) EpochError) → Result (List Ran) EpochError
unless_refused place (Err refusal) next = Err (Run place refusal)
unless_refused place (Ok entries) next = next entries

-- the epochs from this place on, of which the first has this number and this genesis digest
unfoldable pub epochs_from : Runs → ℕ → ℕ → ℕ → List ℕ → List Input → Result (List Ran) EpochError
epochs_from run height place epoch genesis [] = Ok []
epochs_from run height place epoch genesis (input ∷ []) =
    if input.setup.epoch == epoch
    then unless_refused place (run (setting_of input.setup genesis) input.events) (λ entries. Ok (ran_of height input.setup genesis entries ∷ []))
    else Err (WrongEpoch place)
epochs_from run height place epoch genesis (input ∷ next ∷ later) =
    if input.setup.epoch == epoch
    then unless_refused place (run (setting_of input.setup genesis) input.events) (λ entries.
    unless_open place (logs_in input.setup entries)
    (λ digest. behind (ran_of height input.setup genesis entries) (epochs_from run height (place + 1) (epoch + 1) digest (next ∷ later)))
    (closing_payload height (lists_of (logs_in input.setup entries))))
    else Err (WrongEpoch place)

-- the first runs at its epoch's genesis digest
unfoldable pub epochs_of : Runs → ℕ → List Input → Result (List Ran) EpochError
epochs_of run height [] = Ok []
epochs_of run height (input ∷ later) = epochs_from run height 0 input.setup.epoch (genesis_of input.setup.epoch) (input ∷ later)

-- the same of the runs as they are
abbrev pub Epochs : ℕ → List Input → Result (List Ran) EpochError
Epochs height inputs = epochs_of RunFrom height inputs

-- ---- a member through the epochs

-- the log that the run has of the member
abbrev pub log_in : List (Node × List LogEntry) → ℕ → List LogEntry
log_in [] member = []
log_in (log ∷ rest) member = if is_same_node log.0 (node_of member) then log.1 else log_in rest member

-- its log of each epoch, with the epoch
abbrev pub member_logs : List Input → List Ran → ℕ → List (ℕ × List LogEntry)
member_logs [] rans member = []
member_logs (input ∷ later) [] member = []
member_logs (input ∷ later) (ran ∷ rest) member = (input.setup.epoch, log_in ran.logs member) ∷ member_logs later rest member
