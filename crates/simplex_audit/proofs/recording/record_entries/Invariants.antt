use Rattle.std.proofs.Common.{◌≡◌, map, take}
use Rattle.model_audit.specs.Record.{record_entry}
use Rattle.simplex_audit.proofs.recording.record_entries.Given as goal

abbrev pub invariant-loop-entry : goal.invariant-loop-entry
invariant-loop-entry l = l.told.items ≡ map record_entry (take l.entry-index l.transcript)
