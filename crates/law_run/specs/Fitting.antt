-- That the values of a run keep to their types.
use Rattle.std.specs.Prelude.{List}
use Rattle.simplex_values.specs.declared.proposal.Subject.TheVariants as subjects
use Rattle.simplex_wire.specs.declared.artifact.Artifact.{Artifact}
use Rattle.simplex_wire.specs.declared.artifact.Artifact.TheVariants as artifacts
use Rattle.simplex_wire.specs.Fields.{vote_subject}
use Rattle.simplex_wire.specs.Fits.{IsBytes}
use Rattle.simplex_messages.specs.declared.call.Call.{Call}
use Rattle.simplex_messages.specs.declared.call.Call.TheVariants as calls
use Rattle.simplex_messages.specs.declared.handed.Handed.{Handed}
use Rattle.simplex_messages.specs.declared.handed.Handed.TheVariants as handed
use Rattle.simplex_messages.specs.declared.batcher.Message.TheVariants as batcher
use Rattle.simplex_transcript.specs.declared.entry.Entry.{Entry}
use Rattle.simplex_transcript.specs.declared.entry.Packet.{Packet}
use Rattle.model_run.specs.Life.{Noted}
use Rattle.law_member.specs.Wire.{Fits}
use Rattle.law_run.specs.Sayings.{Each}

-- of an own vote that is handed on the numbers keep to their types, and the payload has 32 bytes
abbrev pub HandedFits : Handed → Type 0
HandedFits (handed.Batcher (batcher.Constructed v)) = Fits (vote_subject v)
HandedFits _ = Unit {0}

-- so it is with one that is appended
abbrev pub RecordFits : Artifact → Type 0
RecordFits (artifacts.Notarize v) = Fits (subjects.Notarize v.proposal)
RecordFits (artifacts.Nullify v) = Fits (subjects.Nullify v.round)
RecordFits (artifacts.Finalize v) = Fits (subjects.Finalize v.proposal)
RecordFits _ = Unit {0}

abbrev pub CallFits : Call → Type 0
CallFits (calls.Append section artifact) = RecordFits artifact
CallFits _ = Unit {0}

-- and packets are of bytes
abbrev pub IsOfBytes : Packet → Type 0
IsOfBytes packet = IsBytes packet.bytes

pub record IsTyped (entry : Entry) : Type 0 where
  pub handed : Each HandedFits entry.handed
  pub calls : Each CallFits entry.calls
  pub bytes : Each IsOfBytes entry.packets

abbrev pub AreTyped : List Noted → Type 0
AreTyped noted = Each (λ (n : Noted). IsTyped n.entry) noted
