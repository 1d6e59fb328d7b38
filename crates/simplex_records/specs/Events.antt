-- What is said of an event and its entry, for an entry to be taken in.
use Rattle.std.specs.Prelude.{◌≡◌, ℕ, ◌==◌, All, Bool, List, Option, Some}
use Rattle.simplex_messages.specs.declared.step.Outcome.{Outcome}
use Rattle.simplex_messages.specs.declared.step.StepOut.{StepOut}
use Rattle.simplex_transcript.specs.declared.entry.Entry.{Entry}
use Rattle.simplex_transcript.specs.declared.event.Event.{Event}
use Rattle.simplex_transcript.specs.declared.entry.Packet.{Packet}
use Rattle.simplex_transcript.specs.declared.entry.Took.{Took}
use Rattle.simplex_transcript.specs.declared.node.Node.{Node}
use Rattle.model_run.specs.Life.{is_of}
use Rattle.model_run.specs.Requests.{is_start}
use Rattle.model_run.specs.Entries.{blank_entry}
use Rattle.simplex_records.specs.Seats.{node_at}

-- the event is one of the node that sits there, and starts it or not
pub record IsOf (event : Event) (seat : ℕ) (starts : Bool) : Type 0 where
  pub of : (at : ℕ) → is_of (node_at at) event ≡ (seat == at)
  pub start : is_start event ≡ starts

-- the packets are the node's
abbrev pub AreFrom : Node → List Packet → Type 0
AreFrom node packets = All (λ packet. packet.from ≡ node) packets

-- the entry of what a step of the node's engine gave, with these packets
abbrev pub entry_of : ℕ → Node → Option Took → StepOut → List Packet → Outcome → Entry
entry_of number node took out packets outcome =
    record {
      event = number;
      who = Some node;
      took = took;
      added = out.added;
      asked = out.asked;
      dropped = out.dropped;
      handed = out.handed;
      calls = out.calls;
      packets = packets;
      outcome = outcome;
    }

-- an entry in which nothing happens but its outcome
abbrev pub idle_entry : ℕ → Option Node → Outcome → Entry
idle_entry number who outcome = record (blank_entry number who) { outcome = outcome }

-- an entry of packets that no engine made
abbrev pub spoken_entry : ℕ → Node → Option Took → List Packet → Entry
spoken_entry number node took packets = record (blank_entry number (Some node)) { took = took; packets = packets }
