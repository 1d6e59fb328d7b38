use Rattle.std.proofs.Common.{ℕ, zero, suc, ◌<◌, ◌≤◌, ◌^◌, List, [], ◌∷◌, get_or, map, All, Contains, refl, arith}
use Rattle.std.specs.Prelude.{replicate}
use Rattle.std.proofs.lemmas.List.Elements.{All-nil, All-cons}
use Rattle.simplex_values.specs.declared.plan.Recipients.TheVariants as recipients
use Rattle.simplex_wire.specs.declared.vote.Vote.{Vote}
use Rattle.simplex_wire.specs.Fields.{vote_subject}
use Rattle.simplex_wire.specs.Fits.{FitsProposal}
use Rattle.simplex_messages.specs.declared.call.Call.{Call}
use Rattle.model_steps.specs.Batcher.{Timed}
use Rattle.law_agreement.specs.WorldExamples.{first, third, proposal_of}
use Rattle.law_member.specs.Life.{AreSent}
use Rattle.law_member.specs.Wire.{Fits, IsItsOwn, AreItsOwn}
use Rattle.law_member.specs.EvidenceSamples.{sent, arrived, good_votes, late_votes}
use Rattle.law_member.proofs.evidence_samples.premises_can_be_met.Goals as goal

repeated : (n b i : ℕ) → get_or (replicate n b) i 0 ≤ b
repeated zero b i = omega arith
repeated (suc n) b zero = omega arith
repeated (suc n) b (suc i) = repeated n b i

proposal_fits : (view parent byte : ℕ) → view < 2 ^ 64 → parent < 2 ^ 64 → byte < 256 → FitsProposal (proposal_of view parent byte)
proposal_fits view parent byte v p b =
    ((omega arith, v), (p, record { len = refl; each = λ i. omega (arith, repeated 32 byte i, b) }))

-- each, one by one
abbrev Every : {X : Type 0} → (X → Type 0) → List X → Type 0
Every P [] = Unit {0}
Every P (x ∷ xs) = P x × Every P xs

all_of : {X : Type 0} (P : X → Type 0) (xs : List X) → Every P xs → All P xs
all_of P [] each = All-nil P
all_of P (x ∷ xs) each = All-cons P x xs each.0 (all_of P xs each.1)

pub returns-clause-fits : goal.returns-clause-fits
returns-clause-fits c =
    let one : FitsProposal first = proposal_fits 1 0 7 (omega arith) (omega arith) (omega arith) in
    let three : FitsProposal third = proposal_fits 3 1 7 (omega arith) (omega arith) (omega arith) in
    all_of Fits (map vote_subject good_votes) (one, (one, ((omega arith, omega arith), ((omega arith, omega arith), (three, tt)))))

-- the packets of votes are on their subjects
packets : (all : List Vote) → AreSent (map sent all) (map vote_subject all)
unfolding AreSent
packets [] = refl
packets (v ∷ rest) = (v, map vote_subject rest, refl, refl, packets rest)

pub returns-clause-sent : goal.returns-clause-sent
returns-clause-sent c = packets good_votes

-- what was sent may arrive
arrives : (made : List Call) (all : List Vote) → All (λ v. Contains made (sent v)) all → AreItsOwn 1 made [] (map arrived all)
arrives made [] each = All-nil (λ (t : Timed). IsItsOwn 1 made [] t.input)
arrives made (v ∷ rest) each =
    All-cons (λ (t : Timed). IsItsOwn 1 made [] t.input) (arrived v) (map arrived rest) (λ same. (recipients.All, each 0 v (omega arith)))
    (arrives made rest (λ k d lt. each (suc k) d (omega (arith, lt))))

pub returns-clause-own : goal.returns-clause-own
returns-clause-own c =
    let made = map sent good_votes in
    arrives made late_votes
    (all_of (λ v. Contains made (sent v)) late_votes
    ((4, omega arith, refl), ((3, omega arith, refl), ((2, omega arith, refl), ((1, omega arith, refl), ((0, omega arith, refl), tt))))))
