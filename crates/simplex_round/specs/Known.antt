-- What a round is made with, and what is known in it.
use Rattle.std.specs.Prelude.{ℕ, ◌==◌, Bool, false, List, [], find, Option, None}
use Rattle.simplex_values.specs.declared.round.Round.{Round}
use Rattle.simplex_wire.specs.declared.certificate.Notarization.{Notarization}
use Rattle.simplex_wire.specs.declared.certificate.Nullification.{Nullification}
use Rattle.simplex_wire.specs.declared.certificate.Finalization.{Finalization}
use Rattle.simplex_wire.specs.declared.certificate.CertificateKind.{CertificateKind}
use Rattle.simplex_wire.specs.declared.certificate.CertificateKind.TheVariants as kinds
use Rattle.simplex_round.specs.declared.ballot.Ballot.{Ballot}
use Rattle.simplex_round.specs.Votes.{vote_signer}

-- what a round is made with: a skipped one never assembles
pub record Made : Type 0 where
  pub round : Round
  pub members : ℕ
  pub quorum : ℕ
  pub skipped : Bool

-- the members against whom evidence was given, by its kind, each list in rising order
pub record Given : Type 0 where
  pub by_notarizes : List ℕ
  pub by_finalizes : List ℕ
  pub by_both : List ℕ

-- what is known in a round. A ballot is an accepted vote, with what checking it found
pub record Known : Type 0 where
  -- the accepted votes in rising order of signer: the notarizes, and the nullifies and finalizes
  pub notarizes : List Ballot
  pub others : List Ballot
  -- the evidence that was given
  pub given : Given
  -- the certificates that are held
  pub notarization : Option Notarization
  pub nullification : Option Nullification
  pub finalization : Option Finalization
  -- the leader, and whether a proposal was handed on
  pub leader : Option ℕ
  pub forwarded : Bool

-- a round as it stands: how it was made, and what is known
pub record Standing : Type 0 where
  pub made : Made
  pub known : Known

abbrev pub nothing_known : Known
nothing_known = record {
  notarizes = [];
  others = [];
  given = record { by_notarizes = []; by_finalizes = []; by_both = [] };
  notarization = None;
  nullification = None;
  finalization = None;
  leader = None;
  forwarded = false;
}

-- the accepted votes among which a member has one at most: of a kind, and nullify beside finalize
abbrev pub side_of : Known → CertificateKind → List Ballot
side_of known kinds.Notarization = known.notarizes
side_of known kinds.Nullification = known.others
side_of known kinds.Finalization = known.others

-- the same with another list in the place of that one
abbrev pub with_side : Known → CertificateKind → List Ballot → Known
with_side known kinds.Notarization ballots = record known { notarizes = ballots }
with_side known kinds.Nullification ballots = record known { others = ballots }
with_side known kinds.Finalization ballots = record known { others = ballots }

-- the ballot of a member
unfoldable pub ballot_of : List Ballot → ℕ → Option Ballot
ballot_of ballots member = find (λ b. vote_signer b.vote == member) ballots
