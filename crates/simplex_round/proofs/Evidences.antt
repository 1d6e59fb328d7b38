-- Evidence is of two votes of one signer.
use Rattle.std.proofs.Common.{rules, arith, ℕ, ◌≡◌, List, [], ◌∷◌, refl}
use Rattle.std.proofs.lemmas.Grind.{common_steps}
use Rattle.std.specs.Prelude.{Some}
use Rattle.simplex_wire.specs.declared.vote.Vote.{Vote}
use Rattle.simplex_wire.specs.declared.vote.Vote.TheVariants as votes
use Rattle.simplex_round.specs.declared.ballot.Ballot.{Ballot}
use Rattle.simplex_round.specs.declared.evidence.Evidence.{Evidence}
use Rattle.simplex_round.specs.Votes.{vote_kind, vote_signer}
use Rattle.simplex_round.specs.Known.{Known, side_of, ballot_of}
use Rattle.simplex_round.specs.Acceptance.{evidence_of}
use Rattle.simplex_round.specs.Laws.{SignedBoth}

-- the ballot of a member is one that it signed
ballot_signer : (ballots : List Ballot) (member : ℕ) (b : Ballot) → ballot_of ballots member ≡ Some b → vote_signer b.vote ≡ member
unfolding ballot_of
ballot_signer [] member b found = search rules
ballot_signer (first ∷ ballots) member b found = grind (arith, common_steps, found, ballot_signer ballots member b)

by_both : (old new : Vote) (proof : Evidence) (signer : ℕ) → vote_signer old ≡ signer → vote_signer new ≡ signer → evidence_of old new ≡ Some proof → SignedBoth proof signer
by_both (votes.Notarize a) (votes.Notarize b) proof signer o n e = grind (arith, common_steps, o, n, e)
by_both (votes.Finalize a) (votes.Finalize b) proof signer o n e = grind (arith, common_steps, o, n, e)
by_both (votes.Nullify a) (votes.Finalize b) proof signer o n e = grind (arith, common_steps, o, n, e)
by_both (votes.Finalize a) (votes.Nullify b) proof signer o n e = grind (arith, common_steps, o, n, e)
by_both (votes.Notarize a) (votes.Nullify b) proof signer o n e = search rules
by_both (votes.Notarize a) (votes.Finalize b) proof signer o n e = search rules
by_both (votes.Nullify a) (votes.Notarize b) proof signer o n e = search rules
by_both (votes.Nullify a) (votes.Nullify b) proof signer o n e = search rules
by_both (votes.Finalize a) (votes.Notarize b) proof signer o n e = search rules

pub signed_both : (known : Known) (vote : Vote) (old : Ballot) (proof : Evidence) → ballot_of (side_of known (vote_kind vote)) (vote_signer vote) ≡ Some old
    → evidence_of old.vote vote ≡ Some proof → SignedBoth proof (vote_signer vote)
signed_both known vote old proof found is = by_both old.vote vote proof (vote_signer vote) (ballot_signer _ _ _ found) refl is
