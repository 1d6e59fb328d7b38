-- What a report says, by which votes came and which were accepted.
use Rattle.std.specs.Prelude.{◌≡◌, ◌⊎◌, Bool, true, false, not}
use Rattle.simplex_values.specs.Proposal.{is_same_proposal}
use Rattle.simplex_wire.specs.declared.vote.Vote.{Vote}
use Rattle.simplex_wire.specs.declared.vote.Vote.TheVariants as votes
use Rattle.simplex_types.specs.declared.activity.Activity.{Activity}
use Rattle.simplex_types.specs.declared.activity.Activity.TheVariants as activities
use Rattle.simplex_round.specs.Votes.{vote_signer}
use Rattle.simplex_messages.specs.declared.call.Call.{Call}
use Rattle.simplex_messages.specs.declared.call.Call.TheVariants as call
use Rattle.model_steps.specs.Batcher.{vote_view}

-- whether no honest member signs both in one view: two proposals notarized or finalized, or a nullify beside a finalize
abbrev pub conflict : Vote → Vote → Bool
conflict (votes.Notarize a) (votes.Notarize b) = not (is_same_proposal a.proposal b.proposal)
conflict (votes.Finalize a) (votes.Finalize b) = not (is_same_proposal a.proposal b.proposal)
conflict (votes.Nullify a) (votes.Finalize b) = true
conflict _ _ = false

-- both votes are one signer's and came from it, one of them was accepted, and in one view they conflict
pub record SignedBoth (accepted came : Vote → Type 0) (first second : Vote) : Type 0 where
  pub signer : vote_signer first ≡ vote_signer second
  pub view : vote_view first ≡ vote_view second
  pub conflicts : conflict first second ≡ true
  pub came_first : came first
  pub came_second : came second
  pub one_accepted : accepted first ⊎ accepted second

-- an accepted vote, or evidence of two votes of one signer
abbrev pub IsFounded : (Vote → Type 0) → (Vote → Type 0) → Activity → Type 0
IsFounded accepted came (activities.Notarize v) = accepted (votes.Notarize v)
IsFounded accepted came (activities.Nullify v) = accepted (votes.Nullify v)
IsFounded accepted came (activities.Finalize v) = accepted (votes.Finalize v)
IsFounded accepted came (activities.ConflictingNotarize e) =
    SignedBoth accepted came (votes.Notarize e.first) (votes.Notarize e.second)
IsFounded accepted came (activities.ConflictingFinalize e) =
    SignedBoth accepted came (votes.Finalize e.first) (votes.Finalize e.second)
IsFounded accepted came (activities.NullifyFinalize e) =
    SignedBoth accepted came (votes.Nullify e.nullify) (votes.Finalize e.finalize)
IsFounded accepted came (activities.Notarization c) = ⊥
IsFounded accepted came (activities.Certification c) = ⊥
IsFounded accepted came (activities.Nullification c) = ⊥
IsFounded accepted came (activities.Finalization c) = ⊥

-- the call is no report, or it is founded
abbrev pub IsFoundedCall : (Vote → Type 0) → (Vote → Type 0) → Call → Type 0
IsFoundedCall accepted came (call.Report activity) = IsFounded accepted came activity
IsFoundedCall accepted came _ = Unit {0}
