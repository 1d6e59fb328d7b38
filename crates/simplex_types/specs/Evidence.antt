-- What evidence shows, and which activities were verified before they were reported.
use Rattle.std.specs.Prelude.{ℕ, Bool, true, false, not, ◌&&◌, ◌==◌}
use Rattle.simplex_values.specs.declared.round.Round.{Round}
use Rattle.simplex_values.specs.declared.proposal.Subject.{Subject}
use Rattle.simplex_values.specs.declared.proposal.Subject.TheVariants as subjects
use Rattle.simplex_values.specs.Proposal.{is_same_round, is_same_proposal}
use Rattle.simplex_wire.specs.declared.attestation.Attestation.{Attestation}
use Rattle.simplex_wire.specs.declared.vote.Notarize.{Notarize}
use Rattle.simplex_wire.specs.declared.vote.Nullify.{Nullify}
use Rattle.simplex_wire.specs.declared.vote.Finalize.{Finalize}
use Rattle.simplex_wire.specs.Certified.{is_certified}
use Rattle.simplex_types.specs.declared.evidence.ConflictingNotarize.{ConflictingNotarize}
use Rattle.simplex_types.specs.declared.evidence.ConflictingFinalize.{ConflictingFinalize}
use Rattle.simplex_types.specs.declared.evidence.NullifyFinalize.{NullifyFinalize}
use Rattle.simplex_types.specs.declared.activity.Activity.{Activity}
use Rattle.simplex_types.specs.declared.activity.Activity.TheVariants as activities

-- whether a vote's signature verifies, by a scheme's test
abbrev pub notarize_verifies : (Subject → Attestation → Bool) → Notarize → Bool
notarize_verifies verifies v = verifies (subjects.Notarize v.proposal) v.attestation

abbrev pub nullify_verifies : (Subject → Attestation → Bool) → Nullify → Bool
nullify_verifies verifies v = verifies (subjects.Nullify v.round) v.attestation

abbrev pub finalize_verifies : (Subject → Attestation → Bool) → Finalize → Bool
finalize_verifies verifies v = verifies (subjects.Finalize v.proposal) v.attestation

-- two verifying notarizes of one signer in one round, for two proposals
unfoldable pub conflicting_notarize_verifies : (Subject → Attestation → Bool) → ConflictingNotarize → Bool
conflicting_notarize_verifies verifies e =
    (e.first.attestation.signer == e.second.attestation.signer
    && is_same_round e.first.proposal.round e.second.proposal.round
    && not (is_same_proposal e.first.proposal e.second.proposal))
    && (notarize_verifies verifies e.first && notarize_verifies verifies e.second)

-- two verifying finalizes of one signer in one round, for two proposals
unfoldable pub conflicting_finalize_verifies : (Subject → Attestation → Bool) → ConflictingFinalize → Bool
conflicting_finalize_verifies verifies e =
    (e.first.attestation.signer == e.second.attestation.signer
    && is_same_round e.first.proposal.round e.second.proposal.round
    && not (is_same_proposal e.first.proposal e.second.proposal))
    && (finalize_verifies verifies e.first && finalize_verifies verifies e.second)

-- a verifying nullify and a verifying finalize of one signer in one round
unfoldable pub nullify_finalize_verifies : (Subject → Attestation → Bool) → NullifyFinalize → Bool
nullify_finalize_verifies verifies e =
    (e.nullify.attestation.signer == e.finalize.attestation.signer
    && is_same_round e.nullify.round e.finalize.proposal.round)
    && (nullify_verifies verifies e.nullify && finalize_verifies verifies e.finalize)

-- whether an activity verifies, by the test of a scheme of n members
abbrev pub activity_verifies : (Subject → Attestation → Bool) → ℕ → Activity → Bool
activity_verifies verifies n (activities.Notarize v) = notarize_verifies verifies v
activity_verifies verifies n (activities.Notarization c) = is_certified (verifies (subjects.Notarize c.proposal)) n c.certificate
activity_verifies verifies n (activities.Certification c) = is_certified (verifies (subjects.Notarize c.proposal)) n c.certificate
activity_verifies verifies n (activities.Nullify v) = nullify_verifies verifies v
activity_verifies verifies n (activities.Nullification c) = is_certified (verifies (subjects.Nullify c.round)) n c.certificate
activity_verifies verifies n (activities.Finalize v) = finalize_verifies verifies v
activity_verifies verifies n (activities.Finalization c) = is_certified (verifies (subjects.Finalize c.proposal)) n c.certificate
activity_verifies verifies n (activities.ConflictingNotarize e) = conflicting_notarize_verifies verifies e
activity_verifies verifies n (activities.ConflictingFinalize e) = conflicting_finalize_verifies verifies e
activity_verifies verifies n (activities.NullifyFinalize e) = nullify_finalize_verifies verifies e

-- the certificates were verified before they were reported
abbrev pub was_verified : Activity → Bool
was_verified (activities.Notarization c) = true
was_verified (activities.Certification c) = true
was_verified (activities.Nullification c) = true
was_verified (activities.Finalization c) = true
was_verified _ = false

-- the round of an activity, and of its first vote where it has two
abbrev pub activity_round : Activity → Round
activity_round (activities.Notarize v) = v.proposal.round
activity_round (activities.Notarization c) = c.proposal.round
activity_round (activities.Certification c) = c.proposal.round
activity_round (activities.Nullify v) = v.round
activity_round (activities.Nullification c) = c.round
activity_round (activities.Finalize v) = v.proposal.round
activity_round (activities.Finalization c) = c.proposal.round
activity_round (activities.ConflictingNotarize e) = e.first.proposal.round
activity_round (activities.ConflictingFinalize e) = e.first.proposal.round
activity_round (activities.NullifyFinalize e) = e.nullify.round
