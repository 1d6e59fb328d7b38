-- One turn of a loop that adds to a list what the item gives.
use Rattle.std.proofs.Common.{arith, ◌≡◌, List, [], ◌∷◌, ◌++◌, append_assoc, Bool, map, filter, if◌then◌else◌}
use Rattle.std.proofs.lemmas.Grind.{common_steps}
use Rattle.std.specs.Prelude.{◌&&◌}
use Rattle.simplex_values.specs.declared.proposal.Subject.{Subject}
use Rattle.simplex_wire.specs.Fields.{vote_attestation}
use Rattle.simplex_round.specs.declared.ballot.Ballot.{Ballot}
use Rattle.simplex_round.specs.Assembly.{Scheme, is_valid, checked}

-- what the list is when all is added stays the same
pub turned : {A B : Type 0} (run : List A → List B) (so_far after add all : List B) (x : A) (xs left : List A)
    → left ≡ x ∷ xs → run (x ∷ xs) ≡ add ++ run xs → after ≡ so_far ++ add → so_far ++ run left ≡ all → after ++ run xs ≡ all
turned run so_far after add all x xs left is gives added whole =
    grind (arith, common_steps, is, gives, added, whole, append_assoc so_far add (run xs))

pub filter_turn : {A B : Type 0} (test : A → Bool) (f : A → B) (x : A) (xs : List A)
    → map f (filter test (x ∷ xs)) ≡ (if test x then f x ∷ [] else []) ++ map f (filter test xs)
filter_turn test f x xs = grind (arith, common_steps)

pub filters_turn : {A B : Type 0} (test other : A → Bool) (f : A → B) (x : A) (xs : List A)
    → map f (filter other (filter test (x ∷ xs))) ≡ (if test x && other x then f x ∷ [] else []) ++ map f (filter other (filter test xs))
filters_turn test other f x xs = grind (arith, common_steps)

pub valid_turn : (scheme : Scheme) (subject : Subject) (x : Ballot) (xs : List Ballot)
    → map (λ b. vote_attestation b.vote) (filter (is_valid subject) (map (checked scheme subject) (x ∷ xs)))
    ≡ (if is_valid subject (checked scheme subject x) then vote_attestation x.vote ∷ [] else [])
    ++ map (λ b. vote_attestation b.vote) (filter (is_valid subject) (map (checked scheme subject) xs))
unfolding checked
valid_turn scheme subject x xs = grind (arith, common_steps)
