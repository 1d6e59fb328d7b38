-- The certificates that an event of a run says.
use Rattle.std.specs.Prelude.{Some}
use Rattle.simplex_wire.specs.declared.certificate.Certificate.{Certificate}
use Rattle.simplex_wire.specs.declared.certificate.Certificate.TheVariants as certificates
use Rattle.simplex_transcript.specs.declared.event.Event.{Event}
use Rattle.simplex_transcript.specs.declared.event.Event.TheVariants as events
use Rattle.model_run.specs.Life.{Noted}
use Rattle.law_run.specs.Sayings.{Each, InCall, InMessage}

-- what holds of a certificate holds of the floor of a start
abbrev pub InStart : (Certificate → Type 0) → Event → Type 0
InStart Good (events.Start node (Some f) stop) = Good (certificates.Finalization f)
InStart Good _ = Unit {0}

-- and of each that stands in what an event did: that was added, handed on, appended, reported or sent
pub record InNoted (Good : Certificate → Type 0) (noted : Noted) : Type 0 where
  pub floor : InStart Good noted.event
  pub added : Each Good noted.entry.added
  pub handed : Each (InMessage Good noted.entry.calls) noted.entry.handed
  pub calls : Each (InCall Good) noted.entry.calls
