use Rattle.std.proofs.Common.{[], ◌∷◌, ◌++◌, ◌≡◌, refl, arith, true, subst, List, ℕ, ◌<◌}
use Rattle.simplex_values.specs.declared.proposal.Subject.TheVariants.{Notarize, Nullify, Finalize}
use Rattle.law_agreement.specs.World.{KnowsNullified}
use Rattle.law_agreement.specs.WorldExamples.{first, rival, third, signed, round_of}
use Rattle.law_agreement.specs.Artifacts.{Artifact, Own, Proved, Judged, certificates}
use Rattle.law_agreement.proofs.SmallLives.{may_notarize, may_nullify, may_finalize}
use Rattle.law_agreement.proofs.life_examples.legal_lives_exist.Goals as goal

-- what is known behind the crash, and where view 3 is notarized
abbrev replayed : List Artifact
replayed = Own (Notarize first) ∷ Proved (signed (Notarize first)) ∷ Judged 1 true ∷ Own (Finalize first) ∷ []

abbrev before_third : List Artifact
before_third =
    Own (Notarize first) ∷ Proved (signed (Notarize first)) ∷ Judged 1 true ∷ Own (Finalize first)
    ∷ Own (Nullify (round_of 2)) ∷ Proved (signed (Finalize first)) ∷ Proved (signed (Nullify (round_of 2))) ∷ []

nullified : (x : ℕ) → 1 < x → x < 3 → KnowsNullified 2 (certificates before_third) x
nullified x a b =
    let is : 2 ≡ x = omega (arith, a, b) in
    subst (λ v. KnowsNullified 2 (certificates before_third) v) is (round_of 2, (0 ∷ 1 ∷ 2 ∷ [], (2, omega arith, refl)), (refl, omega arith))

-- call by call
pub returns-clause-good : goal.returns-clause-good
returns-clause-good c = (
  refl,
  (
    (refl, may_notarize [] first (omega arith) (λ x a b. absurd (omega (arith, a, b))) refl),
    (
      refl,
      (
        (refl, refl),
        (
          refl,
          (
            (refl, refl),
            (
              (refl, may_finalize (Own (Notarize first) ∷ Proved (signed (Notarize first)) ∷ Judged 1 true ∷ []) first (omega arith) (2, omega arith, refl) (0 ∷ 1 ∷ 2 ∷ [], (0, omega arith, refl)) refl refl),
              (
                refl,
                (
                  (refl, refl),
                  (
                    tt,
                    (
                      refl,
                      (
                        (refl, may_nullify (replayed) (round_of 2) (omega arith) refl),
                        (
                          refl,
                          (
                            (refl, refl),
                            (
                              (refl, may_nullify (replayed ++ Own (Nullify (round_of 2)) ∷ []) (round_of 2) (omega arith) refl, (4, omega arith, refl)),
                              (
                                (refl, refl),
                                (
                                  refl,
                                  (
                                    refl,
                                    (
                                      (refl, refl, omega arith),
                                      (
                                        refl,
                                        (
                                          (refl, may_notarize before_third third (omega arith) nullified refl),
                                          (
                                            refl,
                                            (
                                              refl,
                                              (
                                                (refl, refl),
                                                (
                                                  tt,
                                                  (
                                                    refl,
                                                    tt,
                                                  ),
                                                ),
                                              ),
                                            ),
                                          ),
                                        ),
                                      ),
                                    ),
                                  ),
                                ),
                              ),
                            ),
                          ),
                        ),
                      ),
                    ),
                  ),
                ),
              ),
            ),
          ),
        ),
      ),
    ),
  ),
)

pub returns-clause-lost : goal.returns-clause-lost
returns-clause-lost c = (
  refl,
  (
    (refl, may_notarize [] first (omega arith) (λ x a b. absurd (omega (arith, a, b))) refl),
    (
      tt,
      (
        refl,
        (
          (refl, may_notarize [] rival (omega arith) (λ x a b. absurd (omega (arith, a, b))) refl),
          (
            refl,
            (
              (refl, refl),
              tt,
            ),
          ),
        ),
      ),
    ),
  ),
)

pub returns-clause-left : goal.returns-clause-left
returns-clause-left c = (
  refl,
  (
    (refl, may_notarize [] first (omega arith) (λ x a b. absurd (omega (arith, a, b))) refl),
    (
      tt,
      (
        refl,
        tt,
      ),
    ),
  ),
)
