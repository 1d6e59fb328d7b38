-- What is taken in of an entry.
use Rattle.std.specs.Prelude.{◌≡◌, ℕ, ◌+◌, ◌||◌, Bool, true, false, List, length, Option, None, Some, filter_map}
use Rattle.std.specs.List.{list_any}
use Rattle.std.specs.Option.{option_map_or}
use Rattle.simplex_values.specs.declared.proposal.Subject.{Subject}
use Rattle.simplex_wire.specs.declared.certificate.Finalization.{Finalization}
use Rattle.simplex_transcript.specs.declared.entry.Packet.{Packet}
use Rattle.simplex_transcript.specs.declared.event.Event.{Event}
use Rattle.simplex_transcript.specs.declared.event.Event.TheVariants as events
use Rattle.simplex_transcript.specs.declared.node.Node.{Node}
use Rattle.simplex_transcript.specs.declared.node.Ref.{Ref}
use Rattle.simplex_transcript.specs.declared.setup.Setup.{Setup}
use Rattle.model_run.specs.Entries.{reports}
use Rattle.model_run.specs.Kinds.{is_honest, members_of}
use Rattle.model_run.specs.Life.{Noted}
use Rattle.model_run.specs.SentVotes.{vote_sent, has_sent}
use Rattle.simplex_records.specs.declared.sent_votes.SentVotes.{SentVotes}
use Rattle.simplex_records.specs.Votes.{has_vote, is_on}
use Rattle.model_audit.specs.declared.record.AuditCall.{AuditCall}
use Rattle.model_audit.specs.Rebuilt.{call_for}

-- the node whose event it is
abbrev pub own_node : Event → Option Node
own_node (events.Start node floor stop) = Some node
own_node (events.Deliver node at) = Some node
own_node (events.Step node source stop) = Some node
own_node (events.Answer node at answer) = Some node
own_node (events.Crash node) = Some node
own_node _ = None

-- which request an event answers
abbrev pub answer_place : Event → Option Ref
answer_place (events.Answer node at answer) = Some at
answer_place _ = None

-- the clock behind an event
abbrev pub clock_behind : ℕ → Event → ℕ
clock_behind clock (events.Tick ms) = clock + ms
clock_behind clock _ = clock

-- whether a call of a record reports this very finalization
abbrev pub tells : Finalization → AuditCall → Bool
tells f call = option_map_or (reports f) (call_for call) false

-- the votes of honest members that were sent in these entries and in these packets are kept
pub record VotesAlong (votes : SentVotes) (setup : Setup) (before : List Noted) (packets : List Packet) : Type 0 where
  pub base : votes.scheme.key_base ≡ setup.key_base
  pub members : votes.scheme.participants ≡ members_of setup
  pub count : length votes.members.items ≡ members_of setup
  pub sent : (member : ℕ) (subject : Subject) → is_honest setup member ≡ true → has_vote votes.members.items member subject
      ≡ (list_any (is_on subject) (filter_map (vote_sent member) packets) || has_sent before member subject)
