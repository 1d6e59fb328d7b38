-- What a node did in a run, and the member whose life that is.
use Rattle.simplex_wire.specs.declared.artifact.Artifact.TheVariants as artifacts
use Rattle.simplex_wire.specs.declared.vote.Nullify.{Nullify}
use Rattle.simplex_values.specs.declared.proposal.Subject.{Subject}
use Rattle.simplex_values.specs.declared.proposal.Subject.TheVariants as subjects
use Rattle.simplex_values.specs.declared.round.Round.{Round}
use Rattle.simplex_values.specs.Terms.{greatest_view}
use Rattle.std.specs.Prelude.{true, ℕ, ◌≡◌, ◌<◌, ◌++◌, ◌⊎◌, List, [], ◌∷◌, map, Contains, Ok, Some, if◌then◌else◌}
use Rattle.simplex_wire.specs.declared.certificate.Certificate.TheVariants as certificates
use Rattle.simplex_transcript.specs.declared.event.Event.{Event}
use Rattle.simplex_transcript.specs.declared.event.Event.TheVariants as events
use Rattle.simplex_transcript.specs.declared.node.Node.{Node}
use Rattle.simplex_transcript.specs.declared.setup.Setup.{Setup}
use Rattle.simplex_messages.specs.declared.call.Call.{Call}
use Rattle.model_steps.specs.VoterLife.{place_of}
use Rattle.model_steps.specs.Engine.{voter_in, voter_past}
use Rattle.simplex_journal.specs.Journal.{Section}
use Rattle.simplex_journal.specs.Contents as journal
use Rattle.model_rules.specs.Known.{view_of}
use Rattle.model_run.specs.Setting.{Setting}
use Rattle.model_run.specs.Life.{Noted, Life, Stopped, Running, is_of, life_in, sections_in}
use Rattle.model_run.specs.Members.{is_same_node, rules_of}
use Rattle.model_run.specs.Entries.{entry_of}
use Rattle.law_agreement.specs.World as agreement
use Rattle.law_agreement.specs.World.{Sent}
use Rattle.law_agreement.specs.Member as life
use Rattle.law_agreement.specs.Member.{Member, newborn}
use Rattle.law_member.specs.Life.{statement_of, taken, voted, AreSent, AreVotesSent, IsRunning, IsStopped}
use Rattle.law_member.specs.Storing.{IsOwn, AreStoredFirst}

-- entries of a run, the newest first: each is what its event makes of those before it
unfoldable pub IsRun : Setting → List Noted → Type 0
IsRun setting [] = Unit {0}
IsRun setting (noted ∷ before) = (event : Event) × (entry_of setting before event ≡ Ok noted) × IsRun setting before

-- no start is at the finalization of view 0
abbrev pub IsStartAbove : Event → Type 0
IsStartAbove (events.Start node (Some f) stop) = 0 < view_of f.proposal
IsStartAbove _ = Unit {0}

unfoldable pub AreFloors : List Noted → Type 0
AreFloors [] = Unit {0}
AreFloors (noted ∷ before) = IsStartAbove noted.event × AreFloors before

-- all calls of a node, in order
unfoldable pub calls_of : Node → List Noted → List Call
calls_of node [] = []
calls_of node (noted ∷ before) =
    if is_of node noted.event then calls_of node before ++ noted.entry.calls else calls_of node before

-- a nullify of a view below the greatest, in the setup's epoch
abbrev pub IsEpochNullify : Setup → Subject → Type 0
IsEpochNullify setup s = (r : Round) × (s ≡ subjects.Nullify r) × (r.epoch ≡ setup.epoch) × (r.view < greatest_view)

-- the floors of its starts
abbrev pub floor_in : Node → Event → List agreement.Certificate
floor_in node (events.Start at (Some f) stop) =
    if is_same_node at node then statement_of (certificates.Finalization f) ∷ [] else []
floor_in node _ = []

unfoldable pub floors_of : Node → List Noted → List agreement.Certificate
floors_of node [] = []
floors_of node (noted ∷ before) = floors_of node before ++ floor_in node noted.event

-- the member is where the life of its node is, whose engine keeps the setup's rules
unfoldable pub IsAt : Setting → Node → Life → Member → Type 0
IsAt setting node (Stopped sections) m = IsStopped (rules_of setting node.member 0) sections m
IsAt setting node (Running made past) m =
    ((start : ℕ) → (made.voter start).rules ≡ rules_of setting node.member start)
    × IsRunning (voter_in made past).rules (place_of (voter_in made past) (voter_past past)).standing.desk.known
    (place_of (voter_in made past) (voter_past past)).sections m

-- a nullify of this round stands in the journal, synced
abbrev pub IsHeld : List Section → Nullify → Type 0
IsHeld sections v = (w : Nullify) × (w.round ≡ v.round) × Contains (journal.kept sections) (artifacts.Nullify w)

-- In each event of the node whatever went out on the vote channel is an own vote of its member, as the setup's rules sign
-- it, that was appended and synced before it in this event, or a nullify again: one of its round stood in the node's
-- journal, synced, before the event
unfoldable pub AreStored : Setting → Node → List Noted → Type 0
AreStored setting node [] = Unit {0}
AreStored setting node (noted ∷ before) =
    (is_of node noted.event ≡ true → AreStoredFirst (IsHeld (sections_in (life_in setting before node)))
    (IsOwn (rules_of setting node.member 0)) noted.entry.calls)
    × AreStored setting node before

-- each vote that the node's voter handed to its batcher as constructed is on a subject of these votes
unfoldable pub AreConstructed : Node → List Noted → List Sent → Type 0
AreConstructed node [] sent = Unit {0}
AreConstructed node (noted ∷ before) sent = (is_of node noted.event ≡ true → AreVotesSent sent noted.entry.handed)
    × AreConstructed node before sent

-- What the node did is the life of an honest member: its calls are legal, certificates come to it only as records that
-- the node appended or as floors of its starts, it sent the votes that went out of the node, and it is where the node is. Each vote
-- was stored before it was sent, and each that the batcher was handed was sent. Each is on the subject of a record that the
-- node appended, or a nullify again
pub record IsLivedBy (setting : Setting) (noted : List Noted) (node : Node) : Type 0 where
  pub calls : List life.Call
  pub legal : life.IsLegal setting.setup.term newborn calls
  pub brought : (c : agreement.Certificate) → Contains (life.brought calls) c
      → Contains (taken (calls_of node noted)) c ⊎ Contains (floors_of node noted) c
  pub votes : AreSent (calls_of node noted) (map (λ (s : Sent). s.subject) (life.run newborn calls).sent)
  pub at : IsAt setting node (life_in setting noted node) (life.run newborn calls)
  pub stored : AreStored setting node noted
  pub constructed : AreConstructed node noted (life.run newborn calls).sent
  pub own : (s : Subject) → Contains (map (λ (x : Sent). x.subject) (life.run newborn calls).sent) s
      → Contains (voted (calls_of node noted)) s ⊎ IsEpochNullify setting.setup s
