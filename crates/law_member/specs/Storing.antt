-- That a vote is stored before it is sent.
use Rattle.std.specs.Prelude.{ℕ, ◌≡◌, ◌++◌, ◌⊎◌, List, ◌∷◌, ◌<◌, Some}
use Rattle.simplex_values.specs.declared.plan.Channel.TheVariants as channels
use Rattle.simplex_values.specs.declared.plan.Recipients.{Recipients}
use Rattle.simplex_wire.specs.declared.artifact.Artifact.{Artifact}
use Rattle.simplex_wire.specs.declared.artifact.Artifact.TheVariants as artifacts
use Rattle.simplex_wire.specs.declared.vote.Nullify.{Nullify}
use Rattle.simplex_wire.specs.declared.vote.Vote.{Vote}
use Rattle.simplex_wire.specs.declared.vote.Vote.TheVariants as votes
use Rattle.simplex_wire.specs.Fields.{artifact_round, vote_subject, vote_attestation}
use Rattle.simplex_wire.specs.Message as format
use Rattle.simplex_messages.specs.declared.call.Call.{Call}
use Rattle.simplex_messages.specs.declared.call.Call.TheVariants as calls
use Rattle.simplex_values.specs.Terms.{greatest_view}
use Rattle.model_rules.specs.Known.{Made}

-- the record of an own vote
abbrev pub record_of_vote : Vote → Artifact
record_of_vote (votes.Notarize v) = artifacts.Notarize v
record_of_vote (votes.Nullify v) = artifacts.Nullify v
record_of_vote (votes.Finalize v) = artifacts.Finalize v

-- among these calls the record is appended to the section of its view, and behind that the section is synced
pub record IsStored (artifact : Artifact) (made : List Call) : Type 0 where
  pub before : List Call
  pub between : List Call
  pub behind : List Call
  pub place : made ≡ before ++ (calls.Append (artifact_round artifact).view artifact
      ∷ (between ++ (calls.Sync (artifact_round artifact).view ∷ behind)))

-- the vote is a nullify, and one of these
abbrev pub IsRepeated : (Nullify → Type 0) → Vote → Type 0
IsRepeated Earlier (votes.Notarize v) = ⊥
IsRepeated Earlier (votes.Nullify v) = Earlier v
IsRepeated Earlier (votes.Finalize v) = ⊥

-- the vote has the attestation that its member's scheme gives on its subject
abbrev pub IsSigned : Made → Vote → Type 0
IsSigned made v = made.signs (vote_subject v) ≡ Some (vote_attestation v)

-- a nullify is of the member's epoch, for a view below the greatest
abbrev pub IsLow : Made → Vote → Type 0
IsLow made (votes.Nullify v) = (v.round.epoch ≡ made.epoch) × (v.round.view < greatest_view)
IsLow made _ = Unit {0}

-- the vote is the member's own
abbrev pub IsOwn : Made → Vote → Type 0
IsOwn made v = IsSigned made v × IsLow made v

-- Whatever goes out on the vote channel is an own vote, which was appended and synced before it among these calls, or is
-- a nullify that was made in an earlier step
abbrev pub AreStoredFirst : (Nullify → Type 0) → (Vote → Type 0) → List Call → Type 0
AreStoredFirst Earlier Own made =
    (before behind : List Call) (to : Recipients) (bytes : List ℕ)
    → made ≡ before ++ (calls.Send channels.Vote to bytes ∷ behind)
    → (v : Vote) × (bytes ≡ format.vote.spelling v)
    × (IsStored (record_of_vote v) before ⊎ IsRepeated Earlier v) × Own v
