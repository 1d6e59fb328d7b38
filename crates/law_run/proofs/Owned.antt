-- Votes that their sender signed as itself: a faulty member forges nothing by them.
use Rattle.std.proofs.Common.{◌≡◌, ℕ, List, Contains, Ok, sym, ap, ◌∙◌, subst, inl}
use Rattle.simplex_values.specs.declared.plan.Channel.TheVariants as channels
use Rattle.simplex_wire.specs.declared.vote.Vote.{Vote}
use Rattle.simplex_wire.specs.Fields.{vote_subject, vote_attestation}
use Rattle.simplex_wire.specs.Fits.{FitsVote}
use Rattle.simplex_wire.specs.Format.{whole}
use Rattle.simplex_wire.specs.Message as format
use Rattle.simplex_wire.proofs.Bytes.{ok_is}
use Rattle.simplex_wire.proofs.Formats.{whole_again}
use Rattle.simplex_wire.proofs.Messages.{vote_is}
use Rattle.simplex_transcript.specs.declared.setup.Setup.{Setup}
use Rattle.model_run.specs.Life.{Noted}
use Rattle.law_member.specs.Wire.{Fits}
use Rattle.law_run.specs.Faulty.{faulty_of}
use Rattle.law_run.proofs.Packets.{fits_vote}
use Rattle.law_run.proofs.Signing.{IsMembers}
use Rattle.law_run.proofs.Testing.{PassesOn}

-- the bytes are a vote under the member's own number, whose values keep to their types
pub record IsOwnVote (member : ℕ) (bytes : List ℕ) : Type 0 where
  pub vote : Vote
  pub spelled : bytes ≡ format.vote.spelling vote
  pub own : IsMembers member (vote_attestation vote)
  pub fits : Fits (vote_subject vote)

-- what is read of them is that vote
own_read : (member : ℕ) (bytes : List ℕ) (o : IsOwnVote member bytes) → whole format.vote bytes ≡ Ok o.vote
own_read member bytes o = ap (whole format.vote) o.spelled ∙ whole_again format.vote FitsVote vote_is o.vote (fits_vote o.vote o.fits o.own.1)

pub own_passes : (setup : Setup) (before : List Noted) (member : ℕ) (bytes : List ℕ) → Contains (faulty_of setup) member → IsOwnVote member bytes → PassesOn setup before channels.Vote bytes
own_passes setup before member bytes faulty o v e verifies =
    let same : o.vote ≡ v = ok_is o.vote v (sym (own_read member bytes o) ∙ e) in
    inl (subst (λ (w : Vote). Contains (faulty_of setup) (vote_attestation w).signer) same (subst (Contains (faulty_of setup)) (sym o.own.0) faulty))
