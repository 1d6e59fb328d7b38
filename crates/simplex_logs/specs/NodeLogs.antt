-- The logs of the honest members of a run, by what was taken of their reports.
use Rattle.std.specs.Prelude.{List, [], map}
use Rattle.simplex_transcript.specs.declared.entry.Entry.{Entry}
use Rattle.simplex_transcript.specs.declared.node.Node.{Node}
use Rattle.simplex_transcript.specs.declared.setup.Setup.{Setup}
use Rattle.model_log.specs.declared.entry.LogEntry.{LogEntry}
use Rattle.model_log.specs.Log.{log_of}
use Rattle.law_log.specs.Logs.{verified_by, honest_from}
use Rattle.law_log.specs.Reports.{reported}
use Rattle.simplex_logs.specs.Taken.{taken_of}

-- the log of what was taken of a node's reports
abbrev pub taken_log : Setup → List Entry → Node → List LogEntry
taken_log setup entries node = log_of (verified_by setup) (taken_of (verified_by setup) [] (reported entries node))

abbrev pub with_log : Setup → List Entry → Node → Node × List LogEntry
with_log setup entries node = (node, taken_log setup entries node)

-- for each honest member its node's
unfoldable pub taken_logs : Setup → List Entry → List (Node × List LogEntry)
taken_logs setup entries = map (with_log setup entries) (honest_from 0 setup.members)
