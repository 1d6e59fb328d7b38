-- The logs of a run's nodes.
use Rattle.std.specs.Prelude.{ℕ, ◌+◌, Bool, List, [], ◌∷◌, map, if◌then◌else◌}
use Rattle.simplex_types.specs.declared.activity.Activity.{Activity}
use Rattle.simplex_types.specs.Evidence.{activity_verifies}
use Rattle.simplex_types.specs.Keyed.{keyed_verifies}
use Rattle.simplex_transcript.specs.declared.entry.Entry.{Entry}
use Rattle.simplex_transcript.specs.declared.node.Node.{Node}
use Rattle.simplex_transcript.specs.declared.setup.Setup.{Setup}
use Rattle.simplex_transcript.specs.declared.setup.MemberKind.{MemberKind}
use Rattle.model_run.specs.Members.{members_of}
use Rattle.model_run.specs.Setups.{is_faulty}
use Rattle.model_run.specs.Entries.{node_of}
use Rattle.model_log.specs.declared.entry.LogEntry.{LogEntry}
use Rattle.model_log.specs.Log.{log_of}
use Rattle.law_log.specs.Reports.{reported}

-- whether an activity verifies by the keys of the setup's members
abbrev pub verified_by : Setup → Activity → Bool
verified_by setup activity =
    activity_verifies (keyed_verifies setup.key_base (members_of setup)) (members_of setup) activity

-- the log of what the node reported in these entries
abbrev pub log_at : Setup → List Entry → Node → List LogEntry
log_at setup entries node = log_of (verified_by setup) (reported entries node)

-- the nodes of the honest members, in rising order, the members counted from this number
abbrev pub honest_from : ℕ → List MemberKind → List Node
honest_from i [] = []
honest_from i (kind ∷ rest) = if is_faulty kind then honest_from (i + 1) rest else node_of i ∷ honest_from (i + 1) rest

-- for each honest node its log
unfoldable pub logs_in : Setup → List Entry → List (Node × List LogEntry)
logs_in setup entries = map (λ node. (node, log_at setup entries node)) (honest_from 0 setup.members)
