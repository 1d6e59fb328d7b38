-- A faulty member that sends more than the limit.
use Rattle.std.specs.Prelude.{◌≡◌, ◌≤◌, List, length, replicate, Ok}
use Rattle.simplex_transcript.specs.declared.entry.Entry.{Entry}
use Rattle.simplex_transcript.specs.declared.entry.Packet.{Packet}
use Rattle.simplex_transcript.specs.declared.event.Event.{Event}
use Rattle.simplex_transcript.specs.declared.setup.Setup.{Setup}
use Rattle.model_run.specs.Kinds.{members_of}
use Rattle.model_run.specs.Run.{Run}
use Rattle.model_run.specs.Samples.{at, injects}
use Rattle.law_run.specs.Sayings.{Each}
use Rattle.law_run.specs.Fitting.{IsTyped}
use Rattle.simplex_report.specs.Limit.{longest_payload}

-- member 3 is made to send 231 bytes that are nothing
abbrev pub shouts : Event
shouts = injects 3 at (replicate 231 7)

-- every packet of these entries, whoever sent it, is within the limit
abbrev pub AllAreShort : Setup → List Entry → Type 0
AllAreShort setup entries =
    Each (λ (entry : Entry).
    Each (λ (packet : Packet). length packet.bytes ≤ longest_payload (members_of setup)) entry.packets) entries

-- the events make a transcript, whose values keep to their types, and not all of whose packets are within the limit
pub record BreaksTheLimit (setup : Setup) (events : List Event) : Type 0 where
  pub entries : List Entry
  pub ran : Run setup events ≡ Ok entries
  pub typed : Each IsTyped entries
  pub broken : ¬ (AllAreShort setup entries)
