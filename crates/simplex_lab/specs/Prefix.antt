-- What came before the event that a run refuses.
use Rattle.std.specs.Prelude.{◌-◌, List, Option, take}
use Rattle.std.specs.Result.{result_ok}
use Rattle.simplex_transcript.specs.declared.entry.Entry.{Entry}
use Rattle.simplex_transcript.specs.declared.event.Event.{Event}
use Rattle.simplex_transcript.specs.declared.refusal.Refusal.{Refusal}
use Rattle.simplex_transcript.specs.declared.setup.Setup.{Setup}
use Rattle.simplex_form.specs.declared.input.Input.{Input}
use Rattle.model_run.specs.Run.{Run}

-- the entries of a run, if it is whole
unfoldable pub entries_of : Setup → List Event → Option (List Entry)
entries_of setup events = result_ok (Run setup events)

-- the events before the one that is refused
abbrev pub earlier : Input → Refusal → List Event
earlier input refusal = take (refusal.event - 1) input.events
