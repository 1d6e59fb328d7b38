-- The lives of one member: what its engine was given since each start, and what its journal held when that ended.
use Rattle.std.specs.Prelude.{ℕ, ◌≡◌, ◌<◌, ◌⊎◌, Bool, true, List, [], ◌∷◌, Some}
use Rattle.simplex_values.specs.declared.answer.Answer.{Answer}
use Rattle.simplex_values.specs.declared.plan.Channel.{Channel}
use Rattle.simplex_values.specs.declared.proposal.Subject.{Subject}
use Rattle.simplex_values.specs.Terms.{greatest_view}
use Rattle.simplex_wire.specs.declared.attestation.Attestation.{Attestation}
use Rattle.simplex_wire.specs.declared.certificate.Certificate.{Certificate}
use Rattle.simplex_wire.specs.declared.certificate.Certificate.TheVariants as certificates
use Rattle.simplex_wire.specs.Certified.{is_certified}
use Rattle.simplex_wire.specs.Fields.{certificate_subject, certificate_signatures}
use Rattle.simplex_types.specs.declared.floor.Floor.{Floor}
use Rattle.simplex_types.specs.declared.floor.Floor.TheVariants as floors
use Rattle.simplex_journal.specs.Journal.{Section, crashed}
use Rattle.simplex_messages.specs.declared.step.Stop.{Stop}
use Rattle.simplex_transcript.specs.declared.event.StepSource.{StepSource}
use Rattle.model_rules.specs.Known.{Made, view_of}
use Rattle.model_rules.specs.Views.{current_of}
use Rattle.model_steps.specs.VoterLife.{place_of}
use Rattle.model_steps.specs.Engine.{EngineMade, Did, voter_in, voter_past, sections_of, runs, begun, heard, stepped, replied}
use Rattle.law_member.specs.Certificates.{IsSchemeOfMembers}
use Rattle.law_run.specs.Fitting.{CallFits}
use Rattle.law_run.specs.Sayings.{Each}

-- what all members know: how many they are, how many views a term has, their epoch, and which signatures verify
pub record Group : Type 0 where
  pub members : ℕ
  pub term : ℕ
  pub epoch : ℕ
  pub verifies : Subject → Attestation → Bool

-- a quorum of the members signed it, in rising order, and each signature verifies
abbrev pub IsVerifying : Group → Certificate → Type 0
IsVerifying group c =
    is_certified (group.verifies (certificate_subject c)) group.members (certificate_signatures c) ≡ true

-- ---- an engine of a member

-- a start is at genesis, or at a finalization that verifies, of a view above it
abbrev pub IsFloorOf : Group → Floor → Type 0
IsFloorOf group (floors.Genesis payload) = Unit {0}
IsFloorOf group (floors.Finalized f) = (0 < view_of f.proposal) × IsVerifying group (certificates.Finalization f)

-- what it votes by: the group's terms and epoch, and the member's own signatures
pub record IsRulesOf (group : Group) (member : ℕ) (rules : Made) : Type 0 where
  pub term : rules.term_length ≡ group.term
  pub epoch : rules.epoch ≡ group.epoch
  pub signs : (subject : Subject) (a : Attestation) → rules.signs subject ≡ Some a → a.signer ≡ member

-- the engine is one of the member: whenever it starts, it does at such a floor, with such rules, over a journal that holds this.
-- It counts the group's members and verifies their signatures
pub record IsEngineOf (group : Group) (member : ℕ) (sections : List Section) (made : EngineMade) : Type 0 where
  pub journal : (now : ℕ) → (made.voter now).sections ≡ sections
  pub floor : Floor
  pub stands : (now : ℕ) → (made.voter now).floor ≡ floor
  pub sound : IsFloorOf group floor
  pub rules : (now : ℕ) → IsRulesOf group member (made.voter now).rules
  pub scheme : IsSchemeOfMembers made.batcher
  pub counts : made.batcher.members ≡ group.members
  pub verifies : made.batcher.scheme.verifies ≡ group.verifies
  pub resolver_counts : made.resolver.members ≡ group.members
  pub resolver_verifies : made.resolver.verifies ≡ group.verifies

-- ---- what it did

-- the view that the engine is in
abbrev pub view_in : EngineMade → List Did → ℕ
view_in made past =
    let voter = voter_in made past in current_of voter.rules (place_of voter (voter_past past)).standing.desk.known

-- whatever comes, at whatever clock: bytes that are said to be of a member, a step on a source below the greatest view, an answer
-- of the application
pub record IsHearing (made : EngineMade) (past : List Did) (did : Did) : Type 0 where
  pub sender : ℕ
  pub channel : Channel
  pub bytes : List ℕ
  pub now : ℕ
  pub is : did ≡ heard made past sender channel bytes now

pub record IsStep (made : EngineMade) (past : List Did) (did : Did) : Type 0 where
  pub source : StepSource
  pub low : view_in made past < greatest_view
  pub now : ℕ
  pub stop : Stop
  pub is : did ≡ stepped made past source now stop

pub record IsReply (did : Did) : Type 0 where
  pub number : ℕ
  pub answer : Answer
  pub now : ℕ
  pub is : did ≡ replied number answer now

pub record IsStart (made : EngineMade) (did : Did) : Type 0 where
  pub now : ℕ
  pub stop : Stop
  pub is : did ≡ begun made now stop

-- the engine ran, and did this next
pub record GoesOn (made : EngineMade) (past : List Did) (did : Did) : Type 0 where
  pub running : runs past ≡ true
  pub next : IsHearing made past did ⊎ (IsStep made past did ⊎ IsReply did)

-- the engine was started and did this, the newest first. At most the last was broken off, by any stop
unfoldable pub IsHistory : EngineMade → List Did → Type 0
IsHistory made [] = ⊥
IsHistory made (did ∷ past) = ((past ≡ []) × IsStart made did) ⊎ (GoesOn made past did × IsHistory made past)

-- ---- lives

-- one life: the engine, what it did, the newest first, and what its journal held when the life had ended
pub record Life : Type 0 where
  pub made : EngineMade
  pub past : List Did
  pub left : List Section

-- A life of the member over a journal that holds this. However it ended, the journal keeps what was synced, and of each section
-- as many pending records as it happens. The numbers in its own records keep to their types
pub record IsLife (group : Group) (member : ℕ) (sections : List Section) (life : Life) : Type 0 where
  pub engine : IsEngineOf group member sections life.made
  pub history : IsHistory life.made life.past
  pub keep : ℕ
  pub left : life.left ≡ crashed keep (sections_of life.made life.past)
  pub typed : Each (λ (did : Did). Each CallFits did.out.calls) life.past

-- what the last of them left
abbrev pub left_by : List Life → List Section
left_by [] = []
left_by (life ∷ before) = life.left

-- each is over what the one before left, the first over an empty journal; the newest first
unfoldable pub AreLives : Group → ℕ → List Life → Type 0
AreLives group member [] = Unit {0}
AreLives group member (life ∷ before) = IsLife group member (left_by before) life × AreLives group member before
