use Rattle.std.proofs.Common.{[], ◌∷◌, refl, arith, inr, subst, ◌≡◌}
use Rattle.simplex_values.specs.declared.proposal.Subject.TheVariants.{Notarize, Nullify, Finalize}
use Rattle.law_agreement.specs.World.{KnowsNullified}
use Rattle.law_agreement.specs.WorldExamples.{FinalStays, NullifiedStays, ParentIsNext, KnownIsBacked, vote, signed, round_of, first, rival, skipping, nullify_behind, finalize_behind, parent_skipped, not_backed}
use Rattle.law_agreement.proofs.SmallWorlds.{known_here, sent_backed, one_backed, none_backed, but_three, lawful_weaker, crowded_lawful, crowded_backed, differ}
use Rattle.law_agreement.proofs.world_examples.each_property_is_needed.Goals as goal

pub returns-clause-final_stays : goal.returns-clause-final_stays
returns-clause-final_stays c =
    record {
      lawful = but_three FinalStays (vote (Notarize first) []) (vote (Finalize first) (signed (Notarize first) ∷ [])) (vote (Nullify (round_of 1)) [])
          (λ x a b. absurd (omega (arith, a, b))) (known_here (Notarize first)) tt
          tt tt tt
          (none_backed nullify_behind) (one_backed nullify_behind (Notarize first) [] (0, omega arith, refl)) (none_backed nullify_behind);
      first = sent_backed nullify_behind (Finalize first) (signed (Notarize first) ∷ []) (1, omega arith, refl);
      second = sent_backed nullify_behind (Nullify (round_of 1)) [] (2, omega arith, refl);
      conflict = (refl, omega arith);
    }

pub returns-clause-nullified_stays : goal.returns-clause-nullified_stays
returns-clause-nullified_stays c =
    record {
      lawful = but_three NullifiedStays (vote (Notarize first) []) (vote (Nullify (round_of 1)) []) (vote (Finalize first) (signed (Notarize first) ∷ []))
          (λ x a b. absurd (omega (arith, a, b))) tt (known_here (Notarize first))
          tt tt tt
          (none_backed finalize_behind) (none_backed finalize_behind) (one_backed finalize_behind (Notarize first) [] (0, omega arith, refl));
      first = sent_backed finalize_behind (Nullify (round_of 1)) [] (1, omega arith, refl);
      second = sent_backed finalize_behind (Finalize first) (signed (Notarize first) ∷ []) (2, omega arith, refl);
      conflict = (refl, omega arith);
    }

pub returns-clause-parent_is_next : goal.returns-clause-parent_is_next
returns-clause-parent_is_next c =
    record {
      lawful = but_three ParentIsNext (vote (Notarize first) []) (vote (Finalize first) (signed (Notarize first) ∷ [])) (vote (Notarize skipping) [])
          tt (known_here (Notarize first)) tt
          tt (λ same. absurd (omega (arith, same))) tt
          (none_backed parent_skipped) (one_backed parent_skipped (Notarize first) [] (0, omega arith, refl)) (none_backed parent_skipped);
      first = sent_backed parent_skipped (Finalize first) (signed (Notarize first) ∷ []) (1, omega arith, refl);
      second = sent_backed parent_skipped (Notarize skipping) [] (2, omega arith, refl);
      conflict = inr (omega arith, omega arith);
    }

pub returns-clause-known_is_backed : goal.returns-clause-known_is_backed
returns-clause-known_is_backed c =
    record {
      lawful = but_three KnownIsBacked (vote (Notarize first) []) (vote (Finalize first) (signed (Notarize first) ∷ [])) (vote (Notarize skipping) (record { subject = Nullify (round_of 1); signers = [] } ∷ []))
          (λ x a b. absurd (omega (arith, a, b))) (known_here (Notarize first)) (λ x a b. let is : 1 ≡ x = omega (arith, a, b) in subst (λ v. KnowsNullified 2 (record { subject = Nullify (round_of 1); signers = [] } ∷ []) v) is (round_of 1, ([], (0, omega arith, refl)), (refl, omega arith)))
          tt (λ same. absurd (omega (arith, same))) tt
          tt tt tt;
      first = sent_backed not_backed (Finalize first) (signed (Notarize first) ∷ []) (1, omega arith, refl);
      second = sent_backed not_backed (Notarize skipping) (record { subject = Nullify (round_of 1); signers = [] } ∷ []) (2, omega arith, refl);
      conflict = inr (omega arith, omega arith);
    }

pub returns-clause-weaker : goal.returns-clause-weaker
returns-clause-weaker c property w law = lawful_weaker property w law

pub returns-clause-few_are_faulty : goal.returns-clause-few_are_faulty
returns-clause-few_are_faulty c =
    record {
      lawful = crowded_lawful;
      first = crowded_backed 0 (Notarize first) (omega arith) ([], (0, omega arith, refl));
      second = crowded_backed 1 (Notarize rival) (omega arith) ([], (0, omega arith, refl));
      conflict = (refl, differ);
    }
