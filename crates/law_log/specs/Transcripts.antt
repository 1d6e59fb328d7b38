-- The entries of a whole run, and what their logs are.
use Rattle.std.specs.Prelude.{ℕ, ◌≡◌, List, ◌++◌, ◌∷◌, take, None, Ok}
use Rattle.simplex_types.specs.declared.activity.Activity.{Activity}
use Rattle.simplex_transcript.specs.declared.entry.Entry.{Entry}
use Rattle.simplex_transcript.specs.declared.event.Event.{Event}
use Rattle.simplex_transcript.specs.declared.node.Node.{Node}
use Rattle.simplex_transcript.specs.declared.setup.Setup.{Setup}
use Rattle.model_run.specs.Setting.{setting_of}
use Rattle.model_run.specs.Run.{RunFrom}
use Rattle.model_log.specs.declared.entry.LogEntry.{LogEntry}
use Rattle.model_log.specs.Fronts.{AreFronts}
use Rattle.model_log.specs.Observing.{clash_of}
use Rattle.law_run.specs.Safe.{RunsSafely}
use Rattle.law_log.specs.Logs.{verified_by, log_at, logs_in}
use Rattle.law_log.specs.Reports.{reported}

-- they are those of the whole run of the setup and events, from some genesis digest, and the run is safe
pub record IsTranscript (setup : Setup) (events : List Event) (entries : List Entry) : Type 0 where
  pub genesis : List ℕ
  pub ran : RunFrom (setting_of setup genesis) events ≡ Ok entries
  pub safe : RunsSafely (setting_of setup genesis) events

-- of the logs of any two nodes, at any two points, one begins the other
abbrev pub LogsAreFronts : Setup → List Entry → Type 0
LogsAreFronts setup entries = (a b : Node) (i j : ℕ)
    → AreFronts (log_at setup (take i entries) a) (log_at setup (take j entries) b)

-- nothing that a node reported clashes with what it reported before
abbrev pub ReportsDoNotClash : Setup → List Entry → Type 0
ReportsDoNotClash setup entries =
    (node : Node) (taken later : List Activity) (activity : Activity)
    → reported entries node ≡ taken ++ activity ∷ later → clash_of (verified_by setup) taken activity ≡ None

-- these are the logs of the honest nodes, and they are of one chain
pub record AreLogsOf (setup : Setup) (entries : List Entry) (logs : List (Node × List LogEntry)) : Type 0 where
  pub each : logs ≡ logs_in setup entries
  pub fronts : LogsAreFronts setup entries
