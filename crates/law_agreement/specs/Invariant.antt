-- What holds of a member at every moment of its lives.
use Rattle.std.specs.Prelude.{ℕ, ◌≡◌, ◌<◌, ◌≤◌, ◌⊎◌, true, List, [], ◌∷◌, ◌++◌, map, Contains}
use Rattle.simplex_values.specs.declared.proposal.Proposal.{Proposal}
use Rattle.simplex_values.specs.declared.proposal.Subject.{Subject}
use Rattle.simplex_values.specs.declared.proposal.Subject.TheVariants.{Notarize, Finalize}
use Rattle.law_agreement.specs.World.{Sent, view_of}
use Rattle.law_agreement.specs.Artifacts.{Artifact, Own, Proved, Judged, subject_view, artifact_view, finalized_view, last_finalized}
use Rattle.law_agreement.specs.Journal.{Section, kept, waiting}
use Rattle.law_agreement.specs.Member.{Member, Call, Start, StartAt, Take, Judge, Vote, Repeat, Sync, Send, Prune, Crash}

-- a finalization of a greater view is among these
abbrev pub IsOutrun : List Artifact → ℕ → Type 0
IsOutrun records view = (a : Artifact) × Contains records a × (view < finalized_view a)

-- the member sent a vote on the subject
abbrev pub HasSent : Member → Subject → Type 0
HasSent m s = Contains (map (λ (x : Sent). x.subject) m.sent) s

-- the own finalize is among these, and before it the notarization and the true verdict
pub record IsGroundedIn (records : List Artifact) (p : Proposal) : Type 0 where
  pub before : List Artifact
  pub behind : List Artifact
  pub place : records ≡ before ++ Own (Finalize p) ∷ behind
  pub notarized : (signers : List ℕ) × Contains before (Proved (record { subject = Notarize p; signers = signers }))
  pub judged : Contains before (Judged (view_of p) true)

-- so it is in the section of its view, synced
pub record IsGrounded (journal : List Section) (p : Proposal) : Type 0 where
  pub section : Section
  pub here : Contains journal section
  pub view : section.view ≡ view_of p
  pub grounded : IsGroundedIn section.synced p

-- The record of each vote that was sent stands synced, and that of a finalize behind what it needs, or a finalization of a
-- greater view stands synced. While the member runs, what is final to it is at least the floor of its last start and all
-- that a synced record makes final, and it knows each synced record above it. And where nothing is pending, as at a prune, a
-- synced record makes it final, if any does
pub record KeepsInvariant (floor : ℕ) (m : Member) : Type 0 where
  pub stands : (s : Subject) → HasSent m s → Contains (kept m.journal) (Own s)
      ⊎ IsOutrun (kept m.journal) (subject_view s)
  pub grounded : (p : Proposal) → HasSent m (Finalize p)
      → IsGrounded m.journal p ⊎ IsOutrun (kept m.journal) (view_of p)
  pub above : m.up ≡ true → floor ≤ last_finalized m.known
  pub finals : m.up ≡ true → (a : Artifact) → Contains (kept m.journal) a → finalized_view a ≤ last_finalized m.known
  pub seen : m.up ≡ true → (a : Artifact) → Contains (kept m.journal) a
      → last_finalized m.known < artifact_view a → Contains m.known a
  pub final : m.up ≡ true → waiting m.journal ≡ [] → 0 < last_finalized m.known
      → (a : Artifact) × Contains (kept m.journal) a × (finalized_view a ≡ last_finalized m.known)

-- the view of the floor of the last start: 0 of a start at genesis, and this one before any
abbrev pub floor_from : ℕ → List Call → ℕ
floor_from view [] = view
floor_from view (Start ∷ rest) = floor_from 0 rest
floor_from view (StartAt p signers ∷ rest) = floor_from (view_of p) rest
floor_from view (Take c ∷ rest) = floor_from view rest
floor_from view (Judge v verdict ∷ rest) = floor_from view rest
floor_from view (Vote s ∷ rest) = floor_from view rest
floor_from view (Repeat r ∷ rest) = floor_from view rest
floor_from view (Sync v ∷ rest) = floor_from view rest
floor_from view (Send ∷ rest) = floor_from view rest
floor_from view (Prune min ∷ rest) = floor_from view rest
floor_from view (Crash keep ∷ rest) = floor_from view rest
