-- Which votes a round accepts, and what it reports, and whom it blocks for them and why.
use Rattle.std.specs.Prelude.{ℕ, ◌==◌, nat_lt, Bool, true, false, List, [], ◌∷◌, if◌then◌else◌, Option, Some, None}
use Rattle.std.specs.List.{list_any}
use Rattle.simplex_values.specs.Proposal.{is_same_proposal}
use Rattle.simplex_wire.specs.declared.vote.Vote.{Vote}
use Rattle.simplex_wire.specs.declared.vote.Vote.TheVariants as votes
use Rattle.simplex_types.specs.declared.activity.Activity.{Activity}
use Rattle.simplex_types.specs.declared.activity.Activity.TheVariants as activities
use Rattle.simplex_types.specs.declared.cause.BlockCause.{BlockCause}
use Rattle.simplex_types.specs.declared.cause.BlockCause.TheVariants.{WrongSender, ConflictingVotes, NullifyAndFinalize}
use Rattle.simplex_round.specs.declared.ballot.Ballot.{Ballot}
use Rattle.simplex_round.specs.declared.evidence.Evidence.{Evidence}
use Rattle.simplex_round.specs.declared.evidence.Evidence.TheVariants as proofs
use Rattle.simplex_round.specs.Votes.{vote_kind, vote_signer, is_nullify}
use Rattle.std.specs.Ordering.{nat_cmp}
use Rattle.std.specs.BTreeMap.{is_at}
use Rattle.std.specs.BTreeSet.{insert_key}
use Rattle.simplex_round.specs.Known.{Known, Given, side_of, with_side, ballot_of}

-- the ballot put in its place by signer
unfoldable pub placed : Ballot → List Ballot → List Ballot
placed ballot [] = ballot ∷ []
placed ballot (other ∷ others) = if nat_lt (vote_signer ballot.vote) (vote_signer other.vote)
    then ballot ∷ other ∷ others else other ∷ placed ballot others

-- the vote accepted: it was not checked
unfoldable pub with_accepted : Known → Vote → Known
with_accepted known vote =
    with_side known (vote_kind vote) (placed (record { vote = vote; found = None }) (side_of known (vote_kind vote)))

-- ---- evidence

-- what an accepted vote and a later one of its signer prove together: the accepted one first, nullify and finalize by name
abbrev pub evidence_of : Vote → Vote → Option Evidence
evidence_of (votes.Notarize old) (votes.Notarize new) =
    if is_same_proposal old.proposal new.proposal then None
    else Some (proofs.Notarizes (record { first = old; second = new }))
evidence_of (votes.Finalize old) (votes.Finalize new) =
    if is_same_proposal old.proposal new.proposal then None
    else Some (proofs.Finalizes (record { first = old; second = new }))
evidence_of (votes.Nullify old) (votes.Finalize new) =
    Some (proofs.NullifyFinalize (record { nullify = old; finalize = new }))
evidence_of (votes.Finalize old) (votes.Nullify new) =
    Some (proofs.NullifyFinalize (record { nullify = new; finalize = old }))
evidence_of _ _ = None

-- whether evidence of this kind against this signer was given
abbrev pub was_given : Evidence → Given → Bool
was_given (proofs.Notarizes e) given = list_any (is_at (nat_cmp e.first.attestation.signer)) given.by_notarizes
was_given (proofs.Finalizes e) given = list_any (is_at (nat_cmp e.first.attestation.signer)) given.by_finalizes
was_given (proofs.NullifyFinalize e) given = list_any (is_at (nat_cmp e.nullify.attestation.signer)) given.by_both

-- the evidence is given: its signer is put in its place
abbrev pub with_given : Evidence → Given → Given
with_given (proofs.Notarizes e) given =
    record given { by_notarizes = insert_key nat_cmp given.by_notarizes e.first.attestation.signer }
with_given (proofs.Finalizes e) given =
    record given { by_finalizes = insert_key nat_cmp given.by_finalizes e.first.attestation.signer }
with_given (proofs.NullifyFinalize e) given =
    record given { by_both = insert_key nat_cmp given.by_both e.nullify.attestation.signer }

-- evidence as it is reported
abbrev pub evidence_activity : Evidence → Activity
evidence_activity (proofs.Notarizes e) = activities.ConflictingNotarize e
evidence_activity (proofs.Finalizes e) = activities.ConflictingFinalize e
evidence_activity (proofs.NullifyFinalize e) = activities.NullifyFinalize e

-- why its signer is blocked
abbrev pub evidence_cause : Evidence → BlockCause
evidence_cause (proofs.Notarizes e) = ConflictingVotes
evidence_cause (proofs.Finalizes e) = ConflictingVotes
evidence_cause (proofs.NullifyFinalize e) = NullifyAndFinalize

-- ---- what comes of a vote

abbrev pub vote_activity : Vote → Activity
vote_activity (votes.Notarize v) = activities.Notarize v
vote_activity (votes.Nullify v) = activities.Nullify v
vote_activity (votes.Finalize v) = activities.Finalize v

pub record Heard : Type 0 where
  pub accepted : Bool
  pub reports : List Activity
  -- the members that are blocked, and why
  pub blocks : List (ℕ × BlockCause)
  pub known : Known

-- nothing comes of it
abbrev pub unheard : Known → Heard
unheard known = record { accepted = false; reports = []; blocks = []; known = known }

-- evidence is given once for each signer and kind of evidence, and blocks the signer
unfoldable pub accused : Known → ℕ → Option Evidence → Heard
accused known signer None = unheard known
accused known signer (Some proof) =
    if was_given proof known.given then unheard known
    else record {
      accepted = false;
      reports = evidence_activity proof ∷ [];
      blocks = (signer, evidence_cause proof) ∷ [];
      known = record known { given = with_given proof known.given };
    }

-- a vote is accepted and reported where its signer has none there
unfoldable pub heard_beside : Known → Vote → Option Ballot → Heard
heard_beside known vote None =
    record { accepted = true; reports = vote_activity vote ∷ []; blocks = []; known = with_accepted known vote }
heard_beside known vote (Some old) = accused known (vote_signer vote) (evidence_of old.vote vote)

-- an own vote, or one whose sender is its signer
unfoldable pub heard : Known → Vote → Heard
heard known vote = heard_beside known vote (ballot_of (side_of known (vote_kind vote)) (vote_signer vote))

-- a sender that is not the signer is blocked
unfoldable pub heard_from : Known → ℕ → Vote → Heard
heard_from known sender vote =
    if vote_signer vote == sender then heard known vote
    else record { accepted = false; reports = []; blocks = (sender, WrongSender) ∷ []; known = known }

-- whether a nullify of the member was accepted
abbrev pub is_nullify_ballot : Option Ballot → Bool
is_nullify_ballot None = false
is_nullify_ballot (Some b) = is_nullify b.vote

unfoldable pub has_nullify : Known → ℕ → Bool
has_nullify known member = is_nullify_ballot (ballot_of known.others member)
