-- A run: the one transcript that a setting and events make, or the one refusal.
use Rattle.std.specs.Prelude.{◌≡◌, ℕ, ◌+◌, ◌*◌, ◌^◌, ◌&&◌, nat_le, Bool, not, List, [], ◌∷◌, length, map, reverse, Option, Some, None, Result, Ok, Err, if◌then◌else◌}
use Rattle.simplex_transcript.specs.declared.event.Event.{Event}
use Rattle.simplex_transcript.specs.declared.entry.Entry.{Entry}
use Rattle.simplex_transcript.specs.declared.field.Field.{Field}
use Rattle.simplex_transcript.specs.declared.field.Field.TheVariants as fields
use Rattle.simplex_transcript.specs.declared.setup.Setup.{Setup}
use Rattle.simplex_transcript.specs.declared.refusal.RunError.{RunError}
use Rattle.simplex_transcript.specs.declared.refusal.RunError.TheVariants as refusals
use Rattle.simplex_transcript.specs.declared.refusal.Refusal.{Refusal}
use Rattle.model_run.specs.Setting.{Setting, at_epoch_genesis}
use Rattle.model_run.specs.Kinds.{members_of}
use Rattle.model_run.specs.Setups.{first_bad}
use Rattle.model_run.specs.Life.{Noted}
use Rattle.model_run.specs.Entries.{entry_of}

-- at most 2^20 events, and at most 2^25 of them times members
abbrev pub are_few : Setup → List Event → Bool
are_few setup events = nat_le (length events) (2 ^ 20) && nat_le (members_of setup * length events) (2 ^ 25)

-- ---- the run

abbrev pub refused : RunError → ℕ → Refusal
refused error event = record { error = error; event = event }

-- an event that is refused ends the run; else it goes on behind the event's entry
unfoldable pub unless_refused : ℕ → Result Noted RunError → (Noted → Result (List Noted) Refusal)
    → Result (List Noted) Refusal
unless_refused number (Err error) next = Err (refused error number)
unless_refused number (Ok noted) next = next noted

-- the entries behind those, the newest first
unfoldable pub run : Setting → List Noted → List Event → Result (List Noted) Refusal
run setting before [] = Ok before
run setting before (event ∷ events) =
    unless_refused (length before + 1) (entry_of setting before event) (λ noted. run setting (noted ∷ before) events)

-- in order of events
abbrev pub transcript_of : Result (List Noted) Refusal → Result (List Entry) Refusal
transcript_of (Ok noted) = Ok (reverse (map (λ n. n.entry) noted))
transcript_of (Err refusal) = Err refusal

-- an item of the setup that breaks its limit
abbrev pub unless_bad : Option Field → Result (List Entry) Refusal → Result (List Entry) Refusal
unless_bad (Some field) ran = Err (refused (refusals.BadSetup field) 0)
unless_bad None ran = ran

-- the transcript of a setting and events, or the first refusal
unfoldable pub RunFrom : Setting → List Event → Result (List Entry) Refusal
RunFrom setting events =
    if not (are_few setting.setup events) then Err (refused (refusals.BadSetup fields.Events) 0)
    else unless_bad (first_bad setting.setup) (transcript_of (run setting [] events))

-- the same of a setup and events, where the epoch's own genesis digest is the payload of view 0
abbrev pub Run : Setup → List Event → Result (List Entry) Refusal
Run setup events = RunFrom (at_epoch_genesis setup) events

-- whatever run there is, this holds of its setting, its events, and their entries
abbrev pub OfRun : (Setting → List Event → List Entry → Type 0) → Type 0
OfRun Says =
    (setting : Setting) (events : List Event) (entries : List Entry)
    → RunFrom setting events ≡ Ok entries → Says setting events entries
