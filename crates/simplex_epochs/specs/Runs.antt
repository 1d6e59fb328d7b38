-- Inputs and runs of epochs as the definitions have them, and what holds of each.
use Rattle.std.specs.Prelude.{ℕ, ◌≡◌, Bool, true, false, List, [], ◌∷◌, ◌++◌, filter, flat_map, map, Result, Ok, Err}
use Rattle.simplex_form.specs.declared.input.Input as read
use Rattle.simplex_transcript.specs.declared.event.Event.{Event}
use Rattle.simplex_transcript.specs.declared.refusal.Refusal.{Refusal}
use Rattle.model_run.specs.Run.{RunFrom}
use Rattle.model_run.specs.Setting.{Setting, setting_of}
use Rattle.law_log.specs.Logs.{logs_in}
use Rattle.simplex_run.specs.WholeRuns.{WholeRunFrom}
use Rattle.model_epochs.specs.declared.chain.EpochError.{EpochError}
use Rattle.model_epochs.specs.declared.chain.EpochError.TheVariants as errors
use Rattle.model_epochs.specs.Epochs.{Input, Ran, behind, cut_at}
use Rattle.model_epochs.specs.Lines.{is_honest_in, member_lines}
use Rattle.simplex_epochs.specs.declared.epoch.EpochRun.{EpochRun}

abbrev pub given_of : read.Input → Input
given_of input = record { setup = input.setup; events = input.events }

abbrev pub inputs_of : List read.Input → List Input
inputs_of inputs = map given_of inputs

abbrev pub ran_of : EpochRun → Ran
ran_of run = record { genesis = run.genesis; entries = run.transcript.entries; logs = run.logs }

abbrev pub rans_of : List EpochRun → List Ran
rans_of runs = map ran_of runs

-- the whole run of the epoch from its genesis digest, and the logs of its honest nodes up to the height
pub record IsEpochRun (height : ℕ) (input : read.Input) (run : EpochRun) : Type 0 where
  pub whole : WholeRunFrom (setting_of input.setup run.genesis) input.events run.transcript
  pub logs : run.logs ≡ cut_at height (logs_in input.setup run.transcript.entries)

-- one for each epoch
unfoldable pub AreEpochRuns : ℕ → List read.Input → List EpochRun → Type 0
AreEpochRuns height [] [] = Unit {0}
AreEpochRuns height (input ∷ later) (run ∷ rest) = IsEpochRun height input run × AreEpochRuns height later rest
AreEpochRuns height _ _ = ⊥

-- the lines of the chains of those of these members that are honest in each epoch
abbrev pub honest_lines : (height : ℕ) → List Input → List Ran → (members : List ℕ) → List ℕ
honest_lines height inputs rans members =
    flat_map (member_lines height inputs rans) (filter (is_honest_in inputs) members)

abbrev pub is_memory : EpochError → Bool
is_memory errors.Memory = true
is_memory _ = false

-- the run of the epoch at this place is refused, and this is its error
pub record WasRefused (setting : Setting) (events : List Event) (place : ℕ) (error : EpochError) : Type 0 where
  pub refusal : Refusal
  pub told : error ≡ errors.Run place refusal
  pub ran : RunFrom setting events ≡ Err refusal

-- these runs first
unfoldable pub all_behind : List Ran → Result (List Ran) EpochError → Result (List Ran) EpochError
all_behind [] later = later
all_behind (ran ∷ rans) later = behind ran (all_behind rans later)

-- one more run stands behind those before: it is whole, and what the epochs come to is this run, and behind it what the rest comes to
pub record HasOneMore (height : ℕ) (before now : List EpochRun) (input : read.Input)
    (all rest : Result (List Ran) EpochError) : Type 0 where
  pub run : EpochRun
  pub pushed : now ≡ before ++ run ∷ []
  pub whole : IsEpochRun height input run
  pub ran : all ≡ behind (ran_of run) rest
