-- Entries with no own votes and no packets, whose values keep to their types whatever they are.
use Rattle.std.specs.Prelude.{◌&&◌, Bool, true, false, List, [], ◌∷◌, Result, Ok, Err}
use Rattle.std.specs.List.{list_all}
use Rattle.simplex_wire.specs.declared.artifact.Artifact.{Artifact}
use Rattle.simplex_wire.specs.declared.artifact.Artifact.TheVariants as artifacts
use Rattle.simplex_messages.specs.declared.batcher.Message.TheVariants as batcher
use Rattle.simplex_messages.specs.declared.call.Call.{Call}
use Rattle.simplex_messages.specs.declared.call.Call.TheVariants as calls
use Rattle.simplex_messages.specs.declared.handed.Handed.{Handed}
use Rattle.simplex_messages.specs.declared.handed.Handed.TheVariants as handed
use Rattle.simplex_transcript.specs.declared.entry.Entry.{Entry}
use Rattle.simplex_transcript.specs.declared.refusal.Refusal.{Refusal}

-- the record is no own vote
abbrev pub is_others : Artifact → Bool
is_others (artifacts.Notarize v) = false
is_others (artifacts.Nullify v) = false
is_others (artifacts.Finalize v) = false
is_others _ = true

-- the call appends no own vote, and the message brings none
abbrev pub is_quiet_call : Call → Bool
is_quiet_call (calls.Append section artifact) = is_others artifact
is_quiet_call _ = true

abbrev pub is_quiet_message : Handed → Bool
is_quiet_message (handed.Batcher (batcher.Constructed v)) = false
is_quiet_message _ = true

abbrev pub is_none : {A : Type 0} → List A → Bool
is_none [] = true
is_none (x ∷ xs) = false

abbrev pub is_quiet : Entry → Bool
is_quiet entry = list_all is_quiet_message entry.handed && list_all is_quiet_call entry.calls && is_none entry.packets

-- the events make a transcript of such entries
abbrev pub is_quiet_run : Result (List Entry) Refusal → Bool
is_quiet_run (Ok entries) = list_all is_quiet entries
is_quiet_run (Err refusal) = false
