-- The ballots of a round are of accepted votes, rise by signer, and were checked rightly.
use Rattle.std.proofs.Common.{◌≡◌, ℕ, ◌≤◌, ◌+◌, Bool, List, [], ◌∷◌, All, arith}
use Rattle.std.specs.Prelude.{⊤, Some, None, nat_lt}
use Rattle.std.proofs.lemmas.Grind.{common_steps}
use Rattle.std.proofs.lemmas.List.Elements.{All-cons, All-head, All-tail, All-weaker}
use Rattle.simplex_values.specs.declared.proposal.Subject.{Subject}
use Rattle.simplex_wire.specs.declared.attestation.Attestation.{Attestation}
use Rattle.simplex_wire.specs.declared.vote.Vote.{Vote}
use Rattle.simplex_wire.specs.Fields.{vote_subject, vote_attestation}
use Rattle.simplex_round.specs.declared.ballot.Ballot.{Ballot}
use Rattle.simplex_round.specs.Votes.{vote_signer}
use Rattle.simplex_round.specs.Known.{Known, ballot_of}
use Rattle.simplex_round.specs.Acceptance.{placed}
use Rattle.law_member.specs.BatcherVotes.{HoldsOnly}
use Rattle.law_member.proofs.Choices.{if_case}

pub record GoodBallot (verifies : Subject → Attestation → Bool) (accepted : Vote → Type 0) (b : Ballot) : Type 0 where
  pub was_accepted : accepted b.vote
  pub checked : (valid : Bool) → b.found ≡ Some valid → verifies (vote_subject b.vote) (vote_attestation b.vote) ≡ valid

-- each signer is above the one before, and the first is at least this
abbrev pub Rise : ℕ → List Ballot → Type 0
Rise least [] = ⊤
Rise least (b ∷ bs) = (least ≤ vote_signer b.vote) × Rise (vote_signer b.vote + 1) bs

pub record GoodBallots (verifies : Subject → Attestation → Bool) (accepted : Vote → Type 0) (ballots : List Ballot) : Type 0 where
  pub each : All (GoodBallot verifies accepted) ballots
  pub rise : Rise 0 ballots

pub record GoodKnown (verifies : Subject → Attestation → Bool) (accepted : Vote → Type 0) (known : Known) : Type 0 where
  pub notarizes : GoodBallots verifies accepted known.notarizes
  pub others : GoodBallots verifies accepted known.others

pub placed_each : (Q : Ballot → Type 0) (b : Ballot) (bs : List Ballot) → Q b → All Q bs → All Q (placed b bs)
unfolding placed
placed_each Q b [] q all = All-cons Q b [] q all
placed_each Q b (other ∷ bs) q all =
    if_case (All Q) (nat_lt (vote_signer b.vote) (vote_signer other.vote)) (b ∷ other ∷ bs) (other ∷ placed b bs)
    (λ h. All-cons Q b (other ∷ bs) q all)
    (λ h. All-cons Q other (placed b bs) (All-head Q other bs all) (placed_each Q b bs q (All-tail Q other bs all)))

pub placed_rise : (least : ℕ) (b : Ballot) (bs : List Ballot) → least ≤ vote_signer b.vote → ballot_of bs (vote_signer b.vote) ≡ None → Rise least bs → Rise least (placed b bs)
unfolding placed ballot_of
placed_rise least b [] le none rise = (le, tt)
placed_rise least b (other ∷ bs) le none rise = grind (arith, common_steps, le, none, rise, placed_rise (vote_signer other.vote + 1) b bs)

-- what is accepted stays so
pub ballots_more : (verifies : Subject → Attestation → Bool) (accepted later : Vote → Type 0) (bs : List Ballot) → ((v : Vote) → accepted v → later v)
    → GoodBallots verifies accepted bs → GoodBallots verifies later bs
ballots_more verifies accepted later bs more good = record {
  each = All-weaker (GoodBallot verifies accepted) (GoodBallot verifies later) (λ b g. record { was_accepted = more b.vote g.was_accepted; checked = g.checked }) bs good.each;
  rise = good.rise;
}

pub known_more : (verifies : Subject → Attestation → Bool) (accepted later : Vote → Type 0) (known : Known) → ((v : Vote) → accepted v → later v)
    → GoodKnown verifies accepted known → GoodKnown verifies later known
known_more verifies accepted later known more good = record {
  notarizes = ballots_more verifies accepted later known.notarizes more good.notarizes;
  others = ballots_more verifies accepted later known.others more good.others;
}

pub holds_only : (verifies : Subject → Attestation → Bool) (accepted : Vote → Type 0) (known : Known) → GoodKnown verifies accepted known → HoldsOnly accepted known
holds_only verifies accepted known good = record {
  notarizes = All-weaker (GoodBallot verifies accepted) (λ (b : Ballot). accepted b.vote) (λ b g. g.was_accepted) known.notarizes good.notarizes.each;
  others = All-weaker (GoodBallot verifies accepted) (λ (b : Ballot). accepted b.vote) (λ b g. g.was_accepted) known.others good.others.each;
}
