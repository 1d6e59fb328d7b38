-- Small records.
use Rattle.std.specs.Prelude.{ℕ, List, None}
use Rattle.simplex_transcript.specs.declared.event.Event.{Event}
use Rattle.simplex_transcript.specs.declared.event.Event.TheVariants as events
use Rattle.simplex_transcript.specs.declared.setup.Setup.{Setup}
use Rattle.model_run.specs.Setting.{at_epoch_genesis}
use Rattle.model_run.specs.Entries.{blank_entry}
use Rattle.model_audit.specs.declared.record.AuditEntry.{AuditEntry}
use Rattle.model_audit.specs.declared.record.Verdict.{Verdict}
use Rattle.model_audit.specs.Audit.{audited}
use Rattle.model_audit.specs.Record.{record_entry}

abbrev pub verdict : Setup → List Event → List AuditEntry → Verdict
verdict setup events entries = audited (at_epoch_genesis setup) events entries

-- the entry of a tick
abbrev pub tick : ℕ → AuditEntry
tick number = record_entry (blank_entry number None)

abbrev pub ticks : ℕ → Event
ticks ms = events.Tick ms
