-- Which entries of a log an honest member notarized.
use Rattle.std.specs.Prelude.{◌≡◌, List}
use Rattle.simplex_values.specs.declared.proposal.Proposal.{Proposal}
use Rattle.simplex_transcript.specs.declared.setup.Setup.{Setup}
use Rattle.model_run.specs.Life.{Noted}
use Rattle.law_run.specs.Founded.{IsNotarized}
use Rattle.model_log.specs.Log.{entry_for}
use Rattle.model_log.specs.declared.entry.LogEntry.{LogEntry}

-- the entry is for a proposal that a member which is not faulty notarized
abbrev pub IsFounded : Setup → List Noted → LogEntry → Type 0
IsFounded setup noted entry = (p : Proposal) × (entry ≡ entry_for p) × IsNotarized setup noted p
