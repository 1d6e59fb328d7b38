-- How accepted votes are kept: each at its signer.
use Rattle.std.specs.Prelude.{◌≡◌, ℕ, ⊤, Bool, List, [], ◌∷◌, drop, if◌then◌else◌}
use Rattle.std.specs.List.{slice_get}
use Rattle.simplex_values.specs.declared.proposal.Subject.{Subject}
use Rattle.simplex_round.specs.declared.ballot.Ballot.{Ballot}
use Rattle.simplex_round.specs.Votes.{vote_signer}
use Rattle.simplex_round.specs.Assembly.{is_unchecked}

-- each ballot stands at its signer
abbrev pub AtSigners : List (ℕ × Ballot) → Type 0
AtSigners [] = ⊤
AtSigners (e ∷ es) = (e.0 ≡ vote_signer e.1.vote) × AtSigners es

-- what is found of these: the first of the list, and so on, for each ballot on the subject that was not checked
unfoldable pub marked : Subject → List Ballot → List Bool → List Ballot
marked subject [] found = []
marked subject (b ∷ bs) found =
    if is_unchecked subject b then record b { found = slice_get found 0 } ∷ marked subject bs (drop 1 found)
    else b ∷ marked subject bs found
