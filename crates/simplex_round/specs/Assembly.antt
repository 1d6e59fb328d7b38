-- Checking votes, and assembling certificates of those that verify.
use Rattle.std.specs.Prelude.{ℕ, nat_lt, nat_le, Bool, true, false, not, ◌&&◌, ◌||◌, List, length, map, filter, if◌then◌else◌, Option, Some, None}
use Rattle.std.specs.Option.{is_some, is_none, option_or, option_map, option_and_then}
use Rattle.std.specs.Result.{result_ok}
use Rattle.simplex_values.specs.declared.proposal.Subject.{Subject}
use Rattle.simplex_values.specs.declared.proposal.Subject.TheVariants as subjects
use Rattle.simplex_wire.specs.declared.attestation.Attestation.{Attestation}
use Rattle.simplex_wire.specs.declared.certificate.Certificate.{Certificate}
use Rattle.simplex_wire.specs.declared.certificate.CertificateKind.{CertificateKind}
use Rattle.simplex_wire.specs.declared.certificate.CertificateKind.TheVariants as kinds
use Rattle.simplex_wire.specs.Certified.{assembled}
use Rattle.simplex_wire.specs.Fields.{vote_subject, vote_attestation}
use Rattle.simplex_round.specs.declared.ballot.Ballot.{Ballot}
use Rattle.simplex_round.specs.declared.batch.Batch.{Batch}
use Rattle.simplex_round.specs.Votes.{is_same_subject, vote_signer, certificate_on}
use Rattle.simplex_round.specs.Known.{Made, Known, side_of, with_side}
use Rattle.simplex_round.specs.Forwarding.{is_held, after_certificate, proposal_of}

-- a scheme, as far as a round asks it
pub record Scheme : Type 0 where
  pub verifies : Subject → Attestation → Bool
  pub recovers : Bool
  pub members : ℕ

-- these as a scheme
abbrev pub as_scheme : (Subject → Attestation → Bool) → Bool → ℕ → Scheme
as_scheme verifies recovers members = record { verifies = verifies; recovers = recovers; members = members }

-- what these say of a value, as a scheme
abbrev pub scheme_by : {S : Type 0} → (S → Subject → Attestation → Bool) → (S → Bool) → (S → ℕ) → S → Scheme
scheme_by verifies recovers members value = as_scheme (verifies value) (recovers value) (members value)

-- what a certificate of a kind would be on
unfoldable pub subject_of : Made → Known → CertificateKind → Option Subject
subject_of made known kinds.Notarization = option_map subjects.Notarize (proposal_of known)
subject_of made known kinds.Nullification = Some (subjects.Nullify made.round)
subject_of made known kinds.Finalization = option_map subjects.Finalize (proposal_of known)

-- whether checking found this
abbrev pub was_found : Bool → Option Bool → Bool
was_found valid None = false
was_found true (Some found) = found
was_found false (Some found) = not found

-- an accepted vote on the subject is a candidate, unless it was found invalid
unfoldable pub is_candidate : Subject → Ballot → Bool
is_candidate subject b = is_same_subject (vote_subject b.vote) subject && not (was_found false b.found)

-- a candidate that was not checked
unfoldable pub is_unchecked : Subject → Ballot → Bool
is_unchecked subject b = is_same_subject (vote_subject b.vote) subject && is_none b.found

-- a candidate that was found valid
unfoldable pub is_valid : Subject → Ballot → Bool
is_valid subject b = is_same_subject (vote_subject b.vote) subject && was_found true b.found

-- whether its signature verifies
abbrev pub verifies_by : Scheme → Subject → Ballot → Bool
verifies_by scheme subject b = scheme.verifies subject (vote_attestation b.vote)

-- the ballot with what checking it finds, where it is a candidate that was not checked
unfoldable pub checked : Scheme → Subject → Ballot → Ballot
checked scheme subject b =
    if is_unchecked subject b then record b { found = Some (verifies_by scheme subject b) } else b

-- the attestations of the candidates that are valid when all are checked
unfoldable pub valid_on : Scheme → Subject → List Ballot → List Attestation
valid_on scheme subject ballots =
    map (λ b. vote_attestation b.vote) (filter (is_valid subject) (map (checked scheme subject) ballots))

-- what is done for a kind: how many votes are checked, whose are invalid, and the certificate
pub record Work : Type 0 where
  pub kind : CertificateKind
  pub ballots : List Ballot
  pub processed : ℕ
  pub invalid : List ℕ
  pub certificate : Option Certificate

-- a quorum of valid votes gives a certificate of all, where the scheme makes one of them
unfoldable pub assembled_on : Made → Scheme → Subject → List Attestation → Option Certificate
assembled_on made scheme subject valid =
    if nat_le made.quorum (length valid)
    then option_map (certificate_on subject) (result_ok (assembled scheme.recovers scheme.members valid))
    else None

-- the candidates that were not checked are checked now
unfoldable pub work_on : Made → Scheme → CertificateKind → Subject → List Ballot → Work
work_on made scheme kind subject ballots =
    record {
      kind = kind;
      ballots = map (checked scheme subject) ballots;
      processed = length (filter (is_unchecked subject) ballots);
      invalid = map (λ b. vote_signer b.vote)
          (filter (λ b. not (verifies_by scheme subject b)) (filter (is_unchecked subject) ballots));
      certificate = assembled_on made scheme subject (valid_on scheme subject ballots);
    }

-- nothing is done where no vote would be checked and no certificate made
abbrev pub some_work : Work → Option Work
some_work work = if nat_lt 0 work.processed || is_some work.certificate then Some work else None

-- nor for fewer candidates than a quorum
unfoldable pub work_if_any : Made → Scheme → CertificateKind → List Ballot → Subject → Option Work
work_if_any made scheme kind ballots subject =
    if nat_le made.quorum (length (filter (is_candidate subject) ballots))
    then some_work (work_on made scheme kind subject ballots) else None

-- nor for a kind of which a certificate is held
unfoldable pub work_of : Made → Scheme → Known → CertificateKind → Option Work
work_of made scheme known kind =
    if made.skipped || is_held known kind then None
    else option_and_then (work_if_any made scheme kind (side_of known kind)) (subject_of made known kind)

-- the work of the first kind that has any
unfoldable pub first_work : Made → Scheme → Known → Option Work
first_work made scheme known =
    option_or (work_of made scheme known kinds.Notarization)
    (option_or (work_of made scheme known kinds.Nullification) (work_of made scheme known kinds.Finalization))

abbrev pub batch_of : Work → Batch
batch_of work = record { processed = work.processed; invalid = work.invalid; certificate = work.certificate }

-- what is answered of it
unfoldable pub constructed : Made → Scheme → Known → Option Batch
constructed made scheme known = option_map batch_of (first_work made scheme known)

abbrev pub after_assembly : Known → Option Certificate → Known
after_assembly known None = known
after_assembly known (Some certificate) = after_certificate known certificate

unfoldable pub after_work : Known → Option Work → Known
after_work known None = known
after_work known (Some work) = after_assembly (with_side known work.kind work.ballots) work.certificate
