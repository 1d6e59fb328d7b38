-- What is done for a kind is the work that the definitions name.
use Rattle.std.proofs.Common.{arith, refl, ◌≡◌, ℕ, List, [], ◌∷◌, Bool, true, length, map, filter, nat_lt, nat_le}
use Rattle.std.proofs.lemmas.Grind.{common_steps}
use Rattle.std.specs.Prelude.{not, ◌||◌, Option, Some}
use Rattle.std.specs.Option.{is_some}
use Rattle.simplex_values.specs.declared.proposal.Subject.{Subject}
use Rattle.simplex_wire.specs.declared.certificate.Certificate.{Certificate}
use Rattle.simplex_wire.specs.declared.certificate.CertificateKind.{CertificateKind}
use Rattle.simplex_wire.specs.Fields.{vote_attestation}
use Rattle.simplex_round.specs.declared.ballot.Ballot.{Ballot}
use Rattle.simplex_round.specs.Votes.{vote_signer}
use Rattle.simplex_round.specs.Known.{Made, Known, with_side}
use Rattle.simplex_round.specs.Ballots.{marked}
use Rattle.simplex_round.specs.Assembly.{Scheme, Work, is_candidate, is_unchecked, valid_on, assembled_on, work_on, work_if_any, after_assembly, after_work}
use Rattle.simplex_round.proofs.Marks.{marked_checked}

length_map : {A B : Type 0} (f : A → B) (xs : List A) → length (map f xs) ≡ length xs
length_map f [] = refl
length_map f (x ∷ xs) = grind (arith, common_steps, length_map f xs)

-- where a quorum of candidates stands, and there is something to do
pub worked : (made : Made) (scheme : Scheme) (kind : CertificateKind) (subject : Subject) (ballots : List Ballot)
    (found : List Bool) (processed : ℕ) (invalid : List ℕ) (certificate : Option Certificate)
    → nat_le made.quorum (length (filter (is_candidate subject) ballots)) ≡ true
    → found ≡ map (λ b. scheme.verifies subject (vote_attestation b.vote)) (filter (is_unchecked subject) ballots)
    → processed ≡ length found
    → invalid ≡ map (λ b. vote_signer b.vote) (filter (λ b. not (scheme.verifies subject (vote_attestation b.vote))) (filter (is_unchecked subject) ballots))
    → certificate ≡ assembled_on made scheme subject (valid_on scheme subject ballots)
    → (nat_lt 0 processed || is_some certificate) ≡ true
    → work_if_any made scheme kind ballots subject
    ≡ Some (record { kind = kind; ballots = marked subject ballots found; processed = processed; invalid = invalid; certificate = certificate })
unfolding work_if_any work_on
worked made scheme kind subject ballots found processed invalid certificate enough founds count wrong made_is some =
    let marks = marked_checked scheme subject ballots in
    let counts = length_map (λ b. scheme.verifies subject (vote_attestation b.vote)) (filter (is_unchecked subject) ballots) in
    grind (arith, common_steps, marks, counts, enough, founds, count, wrong, made_is, some)

-- what it leaves known
pub after_worked : (known : Known) (kind : CertificateKind) (ballots : List Ballot) (processed : ℕ) (invalid : List ℕ) (certificate : Option Certificate) (work : Option Work)
    → work ≡ Some (record { kind = kind; ballots = ballots; processed = processed; invalid = invalid; certificate = certificate })
    → after_work known work ≡ after_assembly (with_side known kind ballots) certificate
unfolding after_work
after_worked known kind ballots processed invalid certificate work is = grind (arith, common_steps, is)
