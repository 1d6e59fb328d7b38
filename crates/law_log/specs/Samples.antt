-- Small entries to try reports on.
use Rattle.std.specs.Prelude.{true, List, [], ◌∷◌, replicate, Option, Some, None, Result, Ok, Err}
use Rattle.simplex_types.specs.declared.activity.Activity.{Activity}
use Rattle.simplex_messages.specs.declared.call.Call.TheVariants as calls
use Rattle.simplex_values.specs.declared.answer.Answer.TheVariants as answers
use Rattle.simplex_messages.specs.declared.step.Stop.TheVariants as stops
use Rattle.simplex_transcript.specs.declared.event.Event.{Event}
use Rattle.simplex_transcript.specs.declared.event.Event.TheVariants as events
use Rattle.simplex_transcript.specs.declared.event.StepSource.{StepSource}
use Rattle.simplex_transcript.specs.declared.event.StepSource.TheVariants as sources
use Rattle.simplex_transcript.specs.declared.refusal.Refusal.{Refusal}
use Rattle.simplex_transcript.specs.declared.setup.Setup.{Setup}
use Rattle.model_run.specs.Samples.{at}
use Rattle.model_log.specs.declared.entry.LogEntry.{LogEntry}
use Rattle.law_log.specs.Logs.{logs_in}
use Rattle.simplex_transcript.specs.declared.entry.Entry.{Entry}
use Rattle.simplex_transcript.specs.declared.node.Node.{Node}
use Rattle.model_run.specs.Entries.{blank_entry}

-- an entry of the node with these reports, each behind a sync
abbrev pub entry_with : Option Node → Activity → Activity → Entry
entry_with who first second =
    record (blank_entry 1 who) { calls = calls.Sync 1 ∷ calls.Report first ∷ calls.Sync 2 ∷ calls.Report second ∷ [] }

-- ---- a member alone, up to the finalization of its proposal

abbrev pub step : StepSource → Event
step source = events.Step at source stops.None

abbrev pub finalizing : List Event
finalizing =
    events.Start at None stops.None
    ∷ events.Answer at (record { event = 1; place = 0 }) (answers.Payload (replicate 32 17))
    ∷ step sources.Propose ∷ step sources.Batcher ∷ step sources.Batcher ∷ step sources.Voter
    ∷ events.Answer at (record { event = 6; place = 0 }) (answers.Verdict true)
    ∷ step sources.Certify ∷ step sources.Batcher ∷ step sources.Voter ∷ []

abbrev pub logs_of_run : Setup → Result (List Entry) Refusal → Option (List (Node × List LogEntry))
logs_of_run setup (Ok entries) = Some (logs_in setup entries)
logs_of_run setup (Err refusal) = None
