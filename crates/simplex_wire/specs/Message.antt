-- The formats of the messages.
use Rattle.std.specs.Prelude.{ℕ, zero, suc, ◌+◌, ◌++◌, List, [], ◌∷◌, length, Result, Ok, Err, nat_lt, if◌then◌else◌}
use Rattle.std.specs.List.{flat_map}
use Rattle.simplex_wire.specs.declared.error.DecodeError.{DecodeError}
use Rattle.simplex_wire.specs.declared.error.DecodeCause.TheVariants.{Tag, Order}
use Rattle.simplex_values.specs.declared.round.Round.{Round}
use Rattle.simplex_values.specs.declared.proposal.Proposal.{Proposal}
use Rattle.simplex_wire.specs.declared.attestation.Attestation.{Attestation}
use Rattle.simplex_wire.specs.declared.vote.Notarize.{Notarize}
use Rattle.simplex_wire.specs.declared.vote.Nullify.{Nullify}
use Rattle.simplex_wire.specs.declared.vote.Finalize.{Finalize}
use Rattle.simplex_wire.specs.declared.vote.Vote.{Vote}
use Rattle.simplex_wire.specs.declared.vote.Vote.TheVariants as votes
use Rattle.simplex_wire.specs.declared.certificate.Notarization.{Notarization}
use Rattle.simplex_wire.specs.declared.certificate.Nullification.{Nullification}
use Rattle.simplex_wire.specs.declared.certificate.Finalization.{Finalization}
use Rattle.simplex_wire.specs.declared.certificate.Certificate.{Certificate}
use Rattle.simplex_wire.specs.declared.certificate.Certificate.TheVariants as certificates
use Rattle.simplex_wire.specs.Format.{◌>>=◌, fault_at, Format, Left, both, seen_as, raw, byte}
use Rattle.simplex_wire.specs.Number.{varint, number32, number64}

unfoldable pub round : Format Round
round = seen_as (λ p. record { epoch = p.0; view = p.1 }) (λ r. (r.epoch, r.view)) (both number64 number64)

unfoldable pub proposal : Format Proposal
proposal = seen_as (λ p. record { round = p.0; parent = p.1.0; payload = p.1.1 })
    (λ p. (p.round, (p.parent, p.payload))) (both round (both number64 (raw 32)))

unfoldable pub attestation : Format Attestation
attestation =
    seen_as (λ p. record { signer = p.0; signature = p.1 }) (λ a. (a.signer, a.signature)) (both number32 (raw 32))

unfoldable pub notarize : Format Notarize
notarize = seen_as (λ p. record { proposal = p.0; attestation = p.1 })
    (λ v. (v.proposal, v.attestation)) (both proposal attestation)

unfoldable pub nullify : Format Nullify
nullify =
    seen_as (λ p. record { round = p.0; attestation = p.1 }) (λ v. (v.round, v.attestation)) (both round attestation)

unfoldable pub finalize : Format Finalize
finalize = seen_as (λ p. record { proposal = p.0; attestation = p.1 })
    (λ v. (v.proposal, v.attestation)) (both proposal attestation)

abbrev pub vote_spelling : Vote → List ℕ
vote_spelling (votes.Notarize v) = 0 ∷ notarize.spelling v
vote_spelling (votes.Nullify v) = 1 ∷ nullify.spelling v
vote_spelling (votes.Finalize v) = 2 ∷ finalize.spelling v

-- the vote behind this tag, which stands at `start`
abbrev pub vote_behind : Left → ℕ → Left → Result (Vote × Left) DecodeError
vote_behind start zero left = notarize.reading left >>= λ v. Ok (votes.Notarize v.0, v.1)
vote_behind start (suc zero) left = nullify.reading left >>= λ v. Ok (votes.Nullify v.0, v.1)
vote_behind start (suc (suc zero)) left = finalize.reading left >>= λ v. Ok (votes.Finalize v.0, v.1)
vote_behind start (suc (suc (suc _))) left = Err (fault_at Tag start)

unfoldable pub vote : Format Vote
vote = record { spelling = vote_spelling; reading = λ left. byte.reading left >>= λ tag. vote_behind left tag.0 tag.1 }

-- ---- lists

-- the attestation at the front, whose signer is to be at least this
unfoldable pub attestation_from : ℕ → Left → Result (Attestation × Left) DecodeError
attestation_from least left = do
  signer ← number32.reading left
  if nat_lt signer.0 least
      then Err (fault_at Order left)
      else ((raw 32).reading signer.1
      >>= λ signature. Ok (record { signer = signer.0; signature = signature.0 }, signature.1))

-- so many of them
unfoldable pub attestations_from : ℕ → ℕ → Left → Result (List Attestation × Left) DecodeError
attestations_from zero least left = Ok ([], left)
attestations_from (suc n) least left = do
  first ← attestation_from least left
  others ← attestations_from n (first.0.signer + 1) first.1
  Ok (first.0 ∷ others.0, others.1)

unfoldable pub signatures : Format (List Attestation)
signatures = record {
  spelling = λ list. varint (length list) ++ flat_map attestation.spelling list;
  reading = λ left. number32.reading left >>= λ count. attestations_from count.0 0 count.1;
}

-- ---- certificates

unfoldable pub notarization : Format Notarization
notarization = seen_as (λ p. record { proposal = p.0; certificate = p.1 })
    (λ c. (c.proposal, c.certificate)) (both proposal signatures)

unfoldable pub nullification : Format Nullification
nullification =
    seen_as (λ p. record { round = p.0; certificate = p.1 }) (λ c. (c.round, c.certificate)) (both round signatures)

unfoldable pub finalization : Format Finalization
finalization = seen_as (λ p. record { proposal = p.0; certificate = p.1 })
    (λ c. (c.proposal, c.certificate)) (both proposal signatures)

abbrev pub certificate_spelling : Certificate → List ℕ
certificate_spelling (certificates.Notarization c) = 0 ∷ notarization.spelling c
certificate_spelling (certificates.Nullification c) = 1 ∷ nullification.spelling c
certificate_spelling (certificates.Finalization c) = 2 ∷ finalization.spelling c

-- the certificate behind this tag, which stands at `start`
abbrev pub certificate_behind : Left → ℕ → Left → Result (Certificate × Left) DecodeError
certificate_behind start zero left = notarization.reading left >>= λ c. Ok (certificates.Notarization c.0, c.1)
certificate_behind start (suc zero) left = nullification.reading left >>= λ c. Ok (certificates.Nullification c.0, c.1)
certificate_behind start (suc (suc zero)) left =
    finalization.reading left >>= λ c. Ok (certificates.Finalization c.0, c.1)
certificate_behind start (suc (suc (suc _))) left = Err (fault_at Tag start)

unfoldable pub certificate : Format Certificate
certificate = record {
  spelling = certificate_spelling;
  reading = λ left. byte.reading left
      >>= λ tag. certificate_behind left tag.0 tag.1;
}
