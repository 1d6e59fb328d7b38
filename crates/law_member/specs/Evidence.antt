-- Whom evidence names, and when a batcher is given a member's own votes.
use Rattle.std.specs.Prelude.{ℕ, ◌≡◌, ◌==◌, ◌||◌, Bool, false, List, map, All, AllPairs, Contains}
use Rattle.simplex_values.specs.declared.proposal.Subject.{Subject}
use Rattle.simplex_wire.specs.declared.vote.Vote.{Vote}
use Rattle.simplex_wire.specs.Fields.{vote_subject}
use Rattle.simplex_types.specs.declared.activity.Activity.{Activity}
use Rattle.simplex_types.specs.declared.activity.Activity.TheVariants as activities
use Rattle.simplex_round.specs.Votes.{vote_signer}
use Rattle.simplex_messages.specs.declared.call.Call.{Call}
use Rattle.simplex_messages.specs.declared.call.Call.TheVariants as calls
use Rattle.model_steps.specs.Batcher.{Timed}
use Rattle.law_member.specs.BatcherVotes.{Came}
use Rattle.law_agreement.specs.World.{Sent, MayFollow}

-- whether it is evidence, and the member is the signer of one of its two votes
abbrev pub names : Activity → ℕ → Bool
names (activities.ConflictingNotarize e) member =
    e.first.attestation.signer == member || e.second.attestation.signer == member
names (activities.ConflictingFinalize e) member =
    e.first.attestation.signer == member || e.second.attestation.signer == member
names (activities.NullifyFinalize e) member =
    e.nullify.attestation.signer == member || e.finalize.attestation.signer == member
names _ member = false

-- whether the call reports evidence that names the member
abbrev pub blames : Call → ℕ → Bool
blames (calls.Report activity) member = names activity member
blames _ member = false

-- none of these calls does
abbrev pub BlameNot : ℕ → List Call → Type 0
BlameNot member made = All (λ call. blames call member ≡ false) made

-- what the votes that a member sent are on
abbrev pub subjects_of : List Sent → List Subject
subjects_of sent = map (λ (s : Sent). s.subject) sent

-- each vote may follow all that were sent before it, in terms of this length
abbrev pub AreInOrder : ℕ → List Sent → Type 0
AreInOrder length sent = AllPairs (λ s t. MayFollow length s.subject t.subject t.known) sent

-- each vote of the member that came in these inputs is on a subject of these votes
abbrev pub IsAuthentic : ℕ → List Timed → List Sent → Type 0
IsAuthentic member given sent = (vote : Vote) → Came given vote
    → vote_signer vote ≡ member → Contains (subjects_of sent) (vote_subject vote)
