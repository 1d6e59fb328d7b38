use Rattle.std.proofs.Common.{arith}
use Rattle.std.proofs.lemmas.Grind.{common_steps}
use Rattle.model_rules.specs.Calls.{known_of}
use Rattle.simplex_state.specs.Stands.{StandsFor}
use Rattle.simplex_state.specs.Progress.{progress_of}
use Rattle.simplex_state.proofs.Opening.{best_final, best_notarized, best_rest}
use Rattle.simplex_state.proofs.state.State.get_best_certificate.Goals as goal

pub returns-in-Some : goal.returns-in-Some
unfolding StandsFor progress_of
returns-in-Some g c = λ made calls s.
    best_final made (known_of made calls) c.view_before-before.result c.in-Some.finalization
    (grind (arith, c.view_before-before.ensures.value, s.progress))
    (grind (arith, c.in_ok-finalization.ensures made (known_of made calls) s (c.view_before-before.ensures.kept made calls s), c.in-Some.is))

pub returns-in-Some-2 : goal.returns-in-Some-2
unfolding StandsFor progress_of
returns-in-Some-2 g c = λ made calls s.
    best_notarized made (known_of made calls) c.view_before-before.result c.in-Some-2.notarization
    (grind (arith, c.view_before-before.ensures.value, s.progress))
    (grind (arith, c.in_ok-finalization.ensures made (known_of made calls) s (c.view_before-before.ensures.kept made calls s), c.in_default.is))
    (grind (arith, c.in_ok-notarization.ensures made (known_of made calls) s (c.view_before-before.ensures.kept made calls s), c.in-Some-2.is))

pub returns-in-None : goal.returns-in-None
unfolding StandsFor progress_of
returns-in-None g c = λ made calls s.
    grind (
      arith,
      common_steps,
      best_rest made (known_of made calls) c.view_before-before.result
          (grind (arith, c.view_before-before.ensures.value, s.progress))
          (grind (arith, c.in_ok-finalization.ensures made (known_of made calls) s (c.view_before-before.ensures.kept made calls s), c.in_default.is))
          (grind (arith, c.in_ok-notarization.ensures made (known_of made calls) s (c.view_before-before.ensures.kept made calls s), c.in_default-2.is)),
      c.in_ok-opening_nullification.ensures made (known_of made calls) s,
      c.in-None.is,
    )

pub returns-in-Some-3 : goal.returns-in-Some-3
unfolding StandsFor progress_of
returns-in-Some-3 g c = λ made calls s.
    grind (
      arith,
      common_steps,
      best_rest made (known_of made calls) c.view_before-before.result
          (grind (arith, c.view_before-before.ensures.value, s.progress))
          (grind (arith, c.in_ok-finalization.ensures made (known_of made calls) s (c.view_before-before.ensures.kept made calls s), c.in_default.is))
          (grind (arith, c.in_ok-notarization.ensures made (known_of made calls) s (c.view_before-before.ensures.kept made calls s), c.in_default-2.is)),
      c.in_ok-opening_nullification.ensures made (known_of made calls) s,
      c.in-Some-3.is,
    )
