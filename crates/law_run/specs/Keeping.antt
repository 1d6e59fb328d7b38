-- What a node keeps of the votes that it sent, and knows of what it keeps.
use Rattle.std.specs.Prelude.{ℕ, ◌≡◌, ◌<◌, ◌≤◌, ◌⊎◌, ◌++◌, true, List, ◌∷◌, Contains}
use Rattle.simplex_values.specs.declared.proposal.Proposal.{Proposal}
use Rattle.simplex_values.specs.declared.proposal.Subject.TheVariants as subjects
use Rattle.simplex_wire.specs.declared.artifact.Artifact.{Artifact}
use Rattle.simplex_wire.specs.declared.vote.Vote.{Vote}
use Rattle.simplex_wire.specs.Fields.{vote_subject}
use Rattle.model_rules.specs.Known.{Fact}
use Rattle.model_rules.specs.Views.{last_finalized}
use Rattle.simplex_journal.specs.Journal.{Section}
use Rattle.simplex_journal.specs.Contents.{kept}
use Rattle.model_steps.specs.Voter.{floor_view}
use Rattle.model_steps.specs.VoterLife.{place_of}
use Rattle.model_steps.specs.Engine.{voter_in, voter_past}
use Rattle.model_run.specs.Setting.{Setting}
use Rattle.model_run.specs.Life.{Noted, Life, Stopped, Running, life_in, sections_in}
use Rattle.model_run.specs.Entries.{node_of}
use Rattle.law_agreement.specs.World.{view_of}
use Rattle.law_agreement.specs.Artifacts as member
use Rattle.law_agreement.specs.Artifacts.{subject_view, artifact_view, finalized_view}
use Rattle.law_member.specs.Life.{memory_of, remembered}
use Rattle.law_run.specs.Voting.{sent_votes}

-- one of the records is this own vote, certificate or verdict
abbrev pub HasRecord : List Artifact → member.Artifact → Type 0
HasRecord records x = (a : Artifact) × Contains records a × (memory_of a ≡ x)

-- one of the records is a finalization of a greater view
abbrev pub IsOutrun : List Artifact → ℕ → Type 0
IsOutrun records view = (a : Artifact) × Contains records a × (view < finalized_view (memory_of a))

-- the own finalize stands in the section of its view, synced, and before it there the notarization and the true verdict
pub record IsGrounded (sections : List Section) (p : Proposal) : Type 0 where
  pub section : Section
  pub here : Contains sections section
  pub view : section.number ≡ view_of p
  pub before : List Artifact
  pub own : Artifact
  pub behind : List Artifact
  pub place : section.synced ≡ before ++ own ∷ behind
  pub is : memory_of own ≡ member.Own (subjects.Finalize p)
  pub notarized : (signers : List ℕ)
      × HasRecord before (member.Proved (record { subject = subjects.Notarize p; signers = signers }))
  pub judged : HasRecord before (member.Judged (view_of p) true)

-- the record of each of these votes stands synced, and that of a finalize behind what it needs, or a finalization of a
-- greater view stands synced
pub record AreKept (sections : List Section) (sent : List Vote) : Type 0 where
  pub stands : (v : Vote) → Contains sent v → HasRecord (kept sections) (member.Own (vote_subject v))
      ⊎ IsOutrun (kept sections) (subject_view (vote_subject v))
  pub grounded : (v : Vote) (p : Proposal) → Contains sent v
      → vote_subject v ≡ subjects.Finalize p → IsGrounded sections p ⊎ IsOutrun (kept sections) (view_of p)

-- What is final to it is at least all that a synced record makes final, and a synced record makes it final, if any does; and
-- it knows each synced record above it
pub record IsAware (sections : List Section) (known : List Fact) : Type 0 where
  pub finals : (a : Artifact) → Contains (kept sections) a → finalized_view (memory_of a) ≤ last_finalized known
  pub seen : (a : Artifact) → Contains (kept sections) a → last_finalized known < artifact_view (memory_of a)
      → Contains (remembered known) (memory_of a)
  pub final : 0 < last_finalized known → (a : Artifact) × Contains (kept sections) a
      × (finalized_view (memory_of a) ≡ last_finalized known)

-- so it is with a voter that runs
abbrev pub IfRuns : (List Section → List Fact → Type 0) → Life → Type 0
IfRuns Holds (Stopped sections) = Unit {0}
IfRuns Holds (Running made past) =
    (let place = place_of (voter_in made past) (voter_past past) in Holds place.sections place.standing.desk.known)

-- what is final to a voter that runs is at least the floor that it was started at
abbrev pub IsAboveFloor : Life → Type 0
IsAboveFloor (Stopped sections) = Unit {0}
IsAboveFloor (Running made past) =
    floor_view (voter_in made past).floor
    ≤ last_finalized (place_of (voter_in made past) (voter_past past)).standing.desk.known

-- the member's node keeps what it sent, and where it runs it is aware of what it keeps and of its floor
pub record KeepsInvariant (setting : Setting) (noted : List Noted) (member : ℕ) : Type 0 where
  pub sent : AreKept (sections_in (life_in setting noted (node_of member))) (sent_votes noted member)
  pub aware : IfRuns IsAware (life_in setting noted (node_of member))
  pub above : IsAboveFloor (life_in setting noted (node_of member))
