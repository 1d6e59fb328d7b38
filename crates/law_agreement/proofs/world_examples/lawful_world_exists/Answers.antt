use Rattle.std.proofs.Common.{[], ◌∷◌, refl, arith, subst, ◌≡◌, All, AllPairs}
use Rattle.simplex_values.specs.declared.proposal.Subject.TheVariants.{Notarize, Nullify, Finalize}
use Rattle.law_agreement.specs.World.{Sent, KnowsNullified, IsBacked, MayStand, MayFollow}
use Rattle.law_agreement.specs.WorldExamples.{world_of, signed, vote, round_of, first, third, good_votes}
use Rattle.law_agreement.proofs.SmallWorlds.{sent_backed, known_here, lawful, all_five, pairs_three, pairs_five, one_backed, none_backed}
use Rattle.law_agreement.proofs.TermFacts.{Covers-apart}
use Rattle.law_agreement.proofs.world_examples.lawful_world_exists.Goals as goal

-- the five votes
abbrev v1 : Sent
v1 = vote (Notarize first) []

abbrev v2 : Sent
v2 = vote (Finalize first) (signed (Notarize first) ∷ [])

abbrev v3 : Sent
v3 = vote (Nullify (round_of 2)) []

abbrev v4 : Sent
v4 = vote (Notarize third) (signed (Nullify (round_of 2)) ∷ [])

abbrev v5 : Sent
v5 = vote (Finalize third) (signed (Notarize third) ∷ [])

abbrev Alone : Sent → Type 0
Alone s = MayStand 2 s.subject s.known

abbrev Order : Sent → Sent → Type 0
Order s t = MayFollow 2 s.subject t.subject t.known

between : Alone v4
between x a b =
    let is : 2 ≡ x = omega (arith, a, b) in
    subst (λ v. KnowsNullified 2 (signed (Nullify (round_of 2)) ∷ []) v) is (round_of 2, known_here (Nullify (round_of 2)), (refl, omega arith))

in_order : AllPairs Order good_votes
in_order =
    pairs_five Order v1 v2 v3 v4 v5 tt tt (λ same. absurd (omega (arith, same))) tt (λ c. omega (arith, c.1)) tt (λ same. absurd (omega (arith, same)))
    (pairs_three Order v3 v4 v5 tt (λ c. absurd (Covers-apart c)) tt)

pub returns-clause-lawful : goal.returns-clause-lawful
returns-clause-lawful c =
    lawful good_votes
    (record {
      alone = all_five Alone v1 v2 v3 v4 v5 (λ x a b. absurd (omega (arith, a, b))) (known_here (Notarize first)) tt between (known_here (Notarize third));
      order = in_order;
      backed = all_five (λ (s : Sent). All (IsBacked (world_of good_votes)) s.known) v1 v2 v3 v4 v5
          (none_backed good_votes)
          (one_backed good_votes (Notarize first) [] (0, omega arith, refl))
          (none_backed good_votes)
          (one_backed good_votes (Nullify (round_of 2)) [] (2, omega arith, refl))
          (one_backed good_votes (Notarize third) (signed (Nullify (round_of 2)) ∷ []) (3, omega arith, refl));
    })

pub returns-clause-backed : goal.returns-clause-backed
returns-clause-backed c =
    all_five (IsBacked (world_of good_votes)) (signed (Notarize first)) (signed (Finalize first)) (signed (Nullify (round_of 2))) (signed (Notarize third)) (signed (Finalize third))
    (sent_backed good_votes (Notarize first) [] (0, omega arith, refl))
    (sent_backed good_votes (Finalize first) (signed (Notarize first) ∷ []) (1, omega arith, refl))
    (sent_backed good_votes (Nullify (round_of 2)) [] (2, omega arith, refl))
    (sent_backed good_votes (Notarize third) (signed (Nullify (round_of 2)) ∷ []) (3, omega arith, refl))
    (sent_backed good_votes (Finalize third) (signed (Notarize third) ∷ []) (4, omega arith, refl))
