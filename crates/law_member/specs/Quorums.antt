-- Where a round has a quorum, and a certificate comes of it.
use Rattle.std.specs.Prelude.{ℕ, ◌≡◌, ◌≤◌, ◌<◌, ◌&&◌, Bool, true, false, List, length, filter, Some, Contains}
use Rattle.simplex_values.specs.Quorum.{quorum_of}
use Rattle.simplex_values.specs.declared.proposal.Subject.{Subject}
use Rattle.simplex_wire.specs.declared.certificate.Certificate.{Certificate}
use Rattle.simplex_wire.specs.declared.certificate.CertificateKind.{CertificateKind}
use Rattle.simplex_wire.specs.Fields.{vote_subject, vote_attestation, certificate_subject}
use Rattle.simplex_round.specs.declared.ballot.Ballot.{Ballot}
use Rattle.simplex_round.specs.Votes.{is_same_subject}
use Rattle.simplex_round.specs.Known.{side_of}
use Rattle.simplex_round.specs.Forwarding.{is_held}
use Rattle.simplex_round.specs.Assembly.{subject_of}
use Rattle.simplex_messages.specs.declared.step.StepOut.{StepOut}
use Rattle.model_steps.specs.Batcher.{Made, Timed, RoundHistory, Doing, known_in, begun, acted, admits_view, standing_after}
use Rattle.law_member.specs.Certificates.{HandsOn}

-- whether the accepted vote is on the subject and verifies
abbrev pub verifies_on : Made → Subject → Ballot → Bool
verifies_on made subject b =
    is_same_subject (vote_subject b.vote) subject && made.scheme.verifies subject (vote_attestation b.vote)

-- how many of these are
abbrev pub verifying_on : Made → Subject → List Ballot → ℕ
verifying_on made subject ballots = length (filter (verifies_on made subject) ballots)

-- what a step behind these has done when it has taken its input, before it works the views that it marked
abbrev pub taken : Made → List Timed → Timed → Doing
taken made past given = acted made given.input given.now (begun (standing_after made past))

-- the view is worked: it is marked, above the finalized one, and admitted
pub record IsWorked (made : Made) (doing : Doing) (view : ℕ) : Type 0 where
  pub marked : Contains doing.dirty view
  pub above : doing.standing.finalized < view
  pub admitted : admits_view made doing.standing view ≡ true

-- the round assembles, its certificate of the kind would be on the subject, none is held, and a quorum of the accepted
-- votes are on the subject and verify
pub record HasQuorum (made : Made) (round : RoundHistory) (kind : CertificateKind) (subject : Subject) : Type 0 where
  pub assembles : round.made.skipped ≡ false
  pub about : subject_of round.made (known_in round) kind ≡ Some subject
  pub none_held : is_held (known_in round) kind ≡ false
  pub quorum : quorum_of made.members ≤ verifying_on made subject (side_of (known_in round) kind)

-- the step hands a certificate on the subject to the voter
pub record HandsOnOne (out : StepOut) (subject : Subject) : Type 0 where
  pub certificate : Certificate
  pub about : certificate_subject certificate ≡ subject
  pub is_handed : HandsOn out certificate
