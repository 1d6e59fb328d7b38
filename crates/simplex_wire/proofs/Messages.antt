-- Each message's format is lawful.
use Rattle.std.proofs.Common.{◌≡◌, ℕ, zero, suc, List, ◌++◌, Ok, refl}
use Rattle.simplex_wire.specs.declared.vote.Vote.{Vote}
use Rattle.simplex_wire.specs.declared.vote.Vote.TheVariants as votes
use Rattle.simplex_wire.specs.Format.{Left, byte}
use Rattle.simplex_wire.specs.Fits.{IsBytes, FitsRound, FitsProposal, FitsAttestation, FitsNotarize, FitsNullify, FitsFinalize, FitsVote}
use Rattle.simplex_wire.specs.Message.{round, proposal, attestation, notarize, nullify, finalize, vote_spelling, vote_behind, vote}
use Rattle.simplex_wire.proofs.Bytes.{bind_ok, Takes}
use Rattle.simplex_wire.proofs.Formats.{IsFormat, both_is, seen_is, raw_is, number32_is, number64_is, tag_takes}

pub round_is : IsFormat round FitsRound
unfolding round
round_is = seen_is _ _ _ _ (λ a. refl) (λ b. refl) (both_is _ _ _ _ number64_is number64_is)

pub proposal_is : IsFormat proposal FitsProposal
unfolding proposal
proposal_is = seen_is _ _ _ _ (λ a. refl) (λ b. refl) (both_is _ _ _ _ round_is (both_is _ _ _ _ number64_is (raw_is 32)))

pub attestation_is : IsFormat attestation FitsAttestation
unfolding attestation
attestation_is = seen_is _ _ _ _ (λ a. refl) (λ b. refl) (both_is _ _ _ _ number32_is (raw_is 32))

pub notarize_is : IsFormat notarize FitsNotarize
unfolding notarize
notarize_is = seen_is _ _ _ _ (λ a. refl) (λ b. refl) (both_is _ _ _ _ proposal_is attestation_is)

pub nullify_is : IsFormat nullify FitsNullify
unfolding nullify
nullify_is = seen_is _ _ _ _ (λ a. refl) (λ b. refl) (both_is _ _ _ _ round_is attestation_is)

pub finalize_is : IsFormat finalize FitsFinalize
unfolding finalize
finalize_is = seen_is _ _ _ _ (λ a. refl) (λ b. refl) (both_is _ _ _ _ proposal_is attestation_is)

-- ---- votes

vote_takes : (left : Left) (b : ℕ) (after : Left) (x : Vote × Left) → IsBytes left.bytes → byte.reading left ≡ Ok (b, after) → vote_behind left b after ≡ Ok x
    → Takes left (vote_spelling x.0) x.1 × FitsVote x.0
vote_takes left zero after x fits tag e =
    let t = tag_takes notarize FitsNotarize votes.Notarize notarize_is left (0, after) x fits tag e in
    rw t.1 (t.2, t.3)
vote_takes left (suc zero) after x fits tag e =
    let t = tag_takes nullify FitsNullify votes.Nullify nullify_is left (1, after) x fits tag e in
    rw t.1 (t.2, t.3)
vote_takes left (suc (suc zero)) after x fits tag e =
    let t = tag_takes finalize FitsFinalize votes.Finalize finalize_is left (2, after) x fits tag e in
    rw t.1 (t.2, t.3)
vote_takes left (suc (suc (suc b))) after x fits tag e = absurd cc

vote_again : (end : ℕ) (v : Vote) (rest : List ℕ) → FitsVote v → vote.reading (record { end = end; bytes = vote.spelling v ++ rest }) ≡ Ok (v, record { end = end; bytes = rest })
unfolding vote
vote_again end (votes.Notarize v) rest fits = rw (notarize_is.again end v rest fits) refl
vote_again end (votes.Nullify v) rest fits = rw (nullify_is.again end v rest fits) refl
vote_again end (votes.Finalize v) rest fits = rw (finalize_is.again end v rest fits) refl

pub vote_is : IsFormat vote FitsVote
unfolding vote
vote_is = record {
  takes = λ left x fits e.
      let tag = bind_ok (byte.reading left) (λ tag. vote_behind left tag.0 tag.1) x e in
      vote_takes left tag.0.0 tag.0.1 x fits tag.1 tag.2;
  again = vote_again;
}
