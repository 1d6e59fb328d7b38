-- The proposal of a round, its certificates, and who did not notarize it.
use Rattle.std.specs.Prelude.{ℕ, ◌==◌, nat_lt, Bool, false, not, ◌&&◌, List, filter, if◌then◌else◌, Option, Some, None}
use Rattle.std.specs.List.{range_with_len}
use Rattle.std.specs.Option.{is_some, option_or, option_map, option_and_then, option_eq}
use Rattle.simplex_values.specs.declared.proposal.Proposal.{Proposal}
use Rattle.simplex_values.specs.declared.proposal.Subject.TheVariants as subjects
use Rattle.simplex_values.specs.Proposal.{is_same_proposal}
use Rattle.simplex_wire.specs.declared.certificate.Certificate.{Certificate}
use Rattle.simplex_wire.specs.declared.certificate.Certificate.TheVariants as certificates
use Rattle.simplex_wire.specs.declared.certificate.CertificateKind.{CertificateKind}
use Rattle.simplex_wire.specs.declared.certificate.CertificateKind.TheVariants as kinds
use Rattle.simplex_wire.specs.Fields.{vote_subject}
use Rattle.simplex_round.specs.declared.ballot.Ballot.{Ballot}
use Rattle.simplex_round.specs.Votes.{is_same_subject, vote_proposal}
use Rattle.simplex_round.specs.Known.{Made, Known, ballot_of}

-- whether a certificate of the kind is held
abbrev pub is_held : Known → CertificateKind → Bool
is_held known kinds.Notarization = is_some known.notarization
is_held known kinds.Nullification = is_some known.nullification
is_held known kinds.Finalization = is_some known.finalization

-- the certificate is held, unless one of its kind was: another changes nothing
abbrev pub after_certificate : Known → Certificate → Known
after_certificate known (certificates.Notarization c) =
    record known { notarization = option_or known.notarization (Some c) }
after_certificate known (certificates.Nullification c) =
    record known { nullification = option_or known.nullification (Some c) }
after_certificate known (certificates.Finalization c) =
    record known { finalization = option_or known.finalization (Some c) }

-- the proposal of the leader's accepted notarize
unfoldable pub leader_proposal : Known → Option Proposal
leader_proposal known =
    option_and_then
    (λ leader. option_and_then (λ b. vote_proposal b.vote) (ballot_of known.notarizes leader)) known.leader

-- the round's proposal: of the notarization that is held, else of the finalization, else of the leader's notarize
unfoldable pub proposal_of : Known → Option Proposal
proposal_of known =
    option_or (option_map (λ c. c.proposal) known.notarization)
    (option_or (option_map (λ c. c.proposal) known.finalization) (leader_proposal known))

-- whether there is a proposal now, and it is not the one that there was
abbrev pub is_another : Option Proposal → Option Proposal → Bool
is_another before None = false
is_another before (Some now) = not (option_eq is_same_proposal before (Some now))

-- whether the certificate gives the round its first proposal, or another than before
unfoldable pub gives_proposal : Known → Certificate → Bool
gives_proposal known certificate = is_another (proposal_of known) (proposal_of (after_certificate known certificate))

-- the proposal that is handed to the voter: once only, where a leader is set that is not this member
unfoldable pub forwarded_to_voter : Known → ℕ → Option Proposal
forwarded_to_voter known me =
    if known.forwarded then None
    else option_and_then (λ leader. if leader == me then None else proposal_of known) known.leader

-- whether the ballot is a notarize of the proposal
abbrev pub is_notarize_of : Proposal → Option Ballot → Bool
is_notarize_of proposal None = false
is_notarize_of proposal (Some b) = is_same_subject (vote_subject b.vote) (subjects.Notarize proposal)

-- whether it is a member without an accepted notarize of the proposal
unfoldable pub is_missing_voter : Made → Known → Proposal → ℕ → Bool
is_missing_voter made known proposal member =
    nat_lt member made.members && not (is_notarize_of proposal (ballot_of known.notarizes member))

-- the members without an accepted notarize of the proposal, in rising order
unfoldable pub missing_voters : Made → Known → Proposal → List ℕ
missing_voters made known proposal = filter (is_missing_voter made known proposal) (range_with_len 0 made.members)
