-- The accepted votes as the values of a map by signer.
use Rattle.std.proofs.Common.{rules, arith, ℕ, ◌≡◌, List, [], ◌∷◌, nat_cmp, refl}
use Rattle.std.proofs.lemmas.Grind.{common_steps}
use Rattle.std.specs.Prelude.{None}
use Rattle.std.specs.Map.{values_of, lookup}
use Rattle.std.specs.BTreeMap.{insert_entry, is_at}
use Rattle.simplex_round.specs.declared.ballot.Ballot.{Ballot}
use Rattle.simplex_round.specs.Votes.{vote_signer}
use Rattle.simplex_round.specs.Ballots.{AtSigners}
use Rattle.simplex_round.specs.Known.{ballot_of}
use Rattle.simplex_round.specs.Acceptance.{placed}

-- the ballot that stands at a member is the one that the member signed
pub found_at_signer : (es : List (ℕ × Ballot)) (member : ℕ) → AtSigners es
    → lookup (is_at (nat_cmp member)) es ≡ ballot_of (values_of es) member
unfolding ballot_of
found_at_signer [] member at = refl
found_at_signer (e ∷ es) member at = grind (arith, common_steps, found_at_signer es member at.1, at.0)

-- a new vote among the values of the map is in its place by signer
pub placed_values : (es : List (ℕ × Ballot)) (ballot : Ballot) → AtSigners es → ballot_of (values_of es) (vote_signer ballot.vote) ≡ None
    → values_of (insert_entry nat_cmp es (vote_signer ballot.vote) ballot) ≡ placed ballot (values_of es)
unfolding placed ballot_of
placed_values [] ballot at none = refl
placed_values (e ∷ es) ballot at none = grind (arith, common_steps, placed_values es ballot at.1, none, at.0)

-- and each stands at its signer still
pub placed_at_signers : (es : List (ℕ × Ballot)) (ballot : Ballot) → AtSigners es
    → AtSigners (insert_entry nat_cmp es (vote_signer ballot.vote) ballot)
placed_at_signers [] ballot at = search rules
placed_at_signers (e ∷ es) ballot at = grind (arith, common_steps, placed_at_signers es ballot at.1, at.0)
