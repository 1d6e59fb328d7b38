-- Which node a follower follows, and through which entries.
use Rattle.std.specs.Prelude.{◌≡◌, ◌∷◌, ◌&&◌, ◌||◌, ℕ, true, not, List, map, filter_map, Bool, Option, Some, None}
use Rattle.simplex_values.specs.declared.proposal.Subject.{Subject}
use Rattle.simplex_wire.specs.declared.attestation.Attestation.{Attestation}
use Rattle.simplex_wire.specs.declared.certificate.Finalization.{Finalization}
use Rattle.simplex_wire.specs.declared.vote.Vote.{Vote}
use Rattle.simplex_wire.specs.Message as format
use Rattle.simplex_types.specs.Keyed.{keyed_attests, keyed_verifies}
use Rattle.simplex_messages.specs.declared.step.Stop.{Stop}
use Rattle.simplex_transcript.specs.declared.event.Event.{Event}
use Rattle.simplex_transcript.specs.declared.event.Event.TheVariants as events
use Rattle.simplex_transcript.specs.declared.event.StepSource.{StepSource}
use Rattle.simplex_transcript.specs.declared.node.Node.{Node}
use Rattle.simplex_transcript.specs.declared.setup.Setup.{Setup}
use Rattle.model_faults.specs.Wrapped.{wrapped_attests}
use Rattle.model_rules.specs.declared.request.Asked.{Asked}
use Rattle.model_run.specs.Kinds.{runs_engine}
use Rattle.model_run.specs.Life.{Noted}
use Rattle.model_run.specs.Members.{rules_of}
use Rattle.model_run.specs.Setting.{Setting}
use Rattle.model_audit.specs.declared.record.AuditEntry.{AuditEntry}
use Rattle.model_audit.specs.declared.record.AuditTook.{AuditTook}
use Rattle.model_audit.specs.declared.record.AuditTook.TheVariants as taken
use Rattle.model_audit.specs.Conditions.{is_allowed}
use Rattle.model_audit.specs.Fitting.{fits}
use Rattle.model_audit.specs.Rebuilt.{rebuilt, rebuilt_entry}
use Rattle.model_audit.specs.Running.{is_done}
use Rattle.model_audit.specs.VotesDue.{are_those, is_of_voter, sends_due, vote_bytes}
use Rattle.simplex_members.specs.NodeEngine.{NodeScheme}
use Rattle.simplex_case.specs.Items.{AreItems, asked_listed}
use Rattle.simplex_case.specs.Taking.{own_node}
use Rattle.simplex_reader.specs.Follows.{Follows}
use Rattle.simplex_judge.specs.declared.follower.Follower.{Follower}

-- how a scheme signs
abbrev pub signs_of : NodeScheme → Subject → Option Attestation
signs_of s = wrapped_attests s.behavior (keyed_attests s.inner.key_base s.inner.me) (keyed_verifies s.inner.key_base s.inner.participants)

-- the scheme signs as the member's rules do
abbrev pub attests_by : NodeScheme → Setup → ℕ → Type 0
attests_by scheme setup member = (setting : Setting) (start : ℕ) → setting.setup ≡ setup → signs_of scheme ≡ (rules_of setting member start).signs

pub record IsFollowed (follower : Follower) (setting : Setting) (before : List Noted) (node : Node) : Type 0 where
  pub follows : Follows follower.reader setting before node
  pub signs : attests_by follower.scheme setting.setup node.member

-- the request whose answer was taken, as the entries list it
abbrev pub request_listed : List AuditEntry → AuditTook → Option Asked
request_listed prior (taken.Request at answer) = asked_listed prior at
request_listed prior took = None

-- a whole step of the voter sends these votes and no other
abbrev pub whole_sends : StepSource → AuditEntry → List Vote → Bool
whole_sends source e due = not (is_of_voter source && is_done e.outcome) || are_those (map format.vote.spelling due) (filter_map vote_bytes e.packets)

-- the entry fits the event, which could be taken behind these entries
pub record IsNext (setting : Setting) (prior : List AuditEntry) (before : List Noted) (event : Event) (e : AuditEntry) : Type 0 where
  pub items : AreItems prior before
  pub fitting : fits before event e ≡ true
  pub allowed : is_allowed setting before event ≡ true

-- and it is the event of a node with an engine
pub record IsTaken (setting : Setting) (prior : List AuditEntry) (before : List Noted) (event : Event) (e : AuditEntry) (node : Node) : Type 0 where
  pub next : IsNext setting prior before event e
  pub named : own_node event ≡ Some node
  pub engine : runs_engine setting.setup node.member ≡ true

-- whichever node was followed, it is followed behind the entry; and this is whether the entry sends the votes that are due
pub record GoesOn (old new : Follower) (prior : List AuditEntry) (event : Event) (e : AuditEntry) (due : Bool) : Type 0 where
  pub follows : (setting : Setting) (before : List Noted) (node : Node) → IsFollowed old setting before node → IsTaken setting prior before event e node
      → IsFollowed new setting (rebuilt event e ∷ before) node
  pub sends : (setting : Setting) (before : List Noted) (node : Node) → IsFollowed old setting before node → IsTaken setting prior before event e node
      → due ≡ sends_due setting before (rebuilt_entry e) node event

-- likewise at a start, and in a step
abbrev pub StartsOn : Follower → Follower → Option Finalization → Stop → AuditEntry → Bool → Type 0
StartsOn old new floor stop e due = (node : Node) (prior : List AuditEntry) → GoesOn old new prior (events.Start node floor stop) e due

abbrev pub StepsOn : Follower → Follower → List AuditEntry → StepSource → Stop → AuditEntry → Bool → Type 0
StepsOn old new prior source stop e due = (node : Node) → GoesOn old new prior (events.Step node source stop) e due
