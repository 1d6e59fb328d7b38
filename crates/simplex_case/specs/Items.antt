-- What stands at a place of the entries of a record.
use Rattle.std.specs.Prelude.{◌≡◌, ◌-◌, ◌==◌, List, length, Option, None, if◌then◌else◌}
use Rattle.std.specs.List.{slice_get}
use Rattle.std.specs.Option.{option_and_then}
use Rattle.model_rules.specs.declared.request.Asked.{Asked}
use Rattle.simplex_transcript.specs.declared.entry.Packet.{Packet}
use Rattle.simplex_transcript.specs.declared.node.Ref.{Ref}
use Rattle.model_run.specs.Life.{Noted}
use Rattle.model_run.specs.Requests.{packet_at}
use Rattle.model_audit.specs.Running.{asked_at}
use Rattle.model_audit.specs.declared.record.AuditEntry.{AuditEntry}

-- what an event lists at this place, where there is such an event
unfoldable pub listed_at : {A : Type 0} → (AuditEntry → List A) → List AuditEntry → Ref → Option A
listed_at list prior at = if at.event == 0 then None else option_and_then (λ e. slice_get (list e) at.place) (slice_get prior (at.event - 1))

abbrev pub packet_listed : List AuditEntry → Ref → Option Packet
packet_listed = listed_at (λ e. e.packets)

abbrev pub asked_listed : List AuditEntry → Ref → Option Asked
asked_listed = listed_at (λ e. e.asked)

-- the entries of the record are these, the newest first
pub record AreItems (prior : List AuditEntry) (before : List Noted) : Type 0 where
  pub count : length prior ≡ length before
  pub packets : (at : Ref) → packet_listed prior at ≡ packet_at before at
  pub asked : (at : Ref) → asked_listed prior at ≡ asked_at before at
