-- That what an engine says for a certificate verifies, and in time.
use Rattle.std.specs.Prelude.{◌++◌, List, [], ◌∷◌, Contains, Some}
use Rattle.std.specs.List.{flat_map}
use Rattle.simplex_wire.specs.declared.certificate.Certificate.{Certificate}
use Rattle.simplex_wire.specs.declared.certificate.Certificate.TheVariants as certificates
use Rattle.simplex_transcript.specs.declared.event.Event.{Event}
use Rattle.simplex_transcript.specs.declared.event.Event.TheVariants as events
use Rattle.simplex_transcript.specs.declared.setup.Setup.{Setup}
use Rattle.model_run.specs.Life.{Noted}
use Rattle.law_run.specs.Backed.{of_call, of_message, IsVerifying, StandsIn}

-- the finalization that a node starts at
abbrev pub floor_in : Event → List Certificate
floor_in (events.Start node (Some f) stop) = certificates.Finalization f ∷ []
floor_in _ = []

-- the floor, and what was added, handed on, appended and reported: all but what stands in packets
abbrev pub said_in : Noted → List Certificate
said_in noted = floor_in noted.event ++ noted.entry.added ++ flat_map of_message noted.entry.handed
    ++ flat_map of_call noted.entry.calls

-- each of them verifies, and the floor stood in an entry before
pub record IsGenuine (setup : Setup) (noted : Noted) (before : List Noted) : Type 0 where
  pub verifies : (c : Certificate) → Contains (said_in noted) c → IsVerifying setup c
  pub stood : (c : Certificate) → Contains (floor_in noted.event) c → StandsIn before c

-- so it is with each entry
unfoldable pub AreGenuine : Setup → List Noted → Type 0
AreGenuine setup [] = Unit {0}
AreGenuine setup (noted ∷ before) = IsGenuine setup noted before × AreGenuine setup before
