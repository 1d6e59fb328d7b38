-- Small values to try epochs on.
use Rattle.std.specs.Prelude.{ℕ, List, [], Result, Ok, Err}
use Rattle.simplex_transcript.specs.declared.event.Event.{Event}
use Rattle.simplex_transcript.specs.declared.entry.Entry.{Entry}
use Rattle.simplex_transcript.specs.declared.refusal.Refusal.{Refusal}
use Rattle.simplex_transcript.specs.declared.refusal.RunError.TheVariants as refusals
use Rattle.model_run.specs.Setting.{Setting}
use Rattle.model_run.specs.Samples.{alone}
use Rattle.model_run.specs.Run.{refused}
use Rattle.model_log.specs.Samples.{line}
use Rattle.model_epochs.specs.declared.chain.ChainEntry.{ChainEntry}
use Rattle.model_epochs.specs.Epochs.{Input}

abbrev pub place : ℕ → ℕ → ChainEntry
place epoch view = record { epoch = epoch; entry = line view 0 view }

-- the setup of one member in this epoch, without events
abbrev pub epoch : ℕ → Input
epoch number = record { setup = record alone { epoch = number }; events = [] }

abbrev pub idle : Setting → List Event → Result (List Entry) Refusal
idle setting events = Ok []

abbrev pub refuses : Setting → List Event → Result (List Entry) Refusal
refuses setting events = Err (refused refusals.NotPending 3)
