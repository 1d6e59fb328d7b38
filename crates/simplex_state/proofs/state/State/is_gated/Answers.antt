use Rattle.std.proofs.Common.{arith, refl, sym}
use Rattle.std.proofs.lemmas.Grind.{common_steps}
use Rattle.model_rules.specs.Calls.{known_of}
use Rattle.simplex_state.specs.Stands.{StandsFor}
use Rattle.simplex_state.specs.Progress.{progress_of}
use Rattle.simplex_state.proofs.Gates.{gate_free, gated_by_last}
use Rattle.simplex_state.proofs.state.State.is_gated.Goals as goal

pub returns-in-None : goal.returns-in-None
unfolding StandsFor
returns-in-None g c = λ made calls s.
    sym (gate_free made (known_of made calls) c.args.view (c.in-None.ensures.none made (known_of made calls) s))

pub returns-then-lt : goal.returns-then-lt
unfolding StandsFor progress_of
returns-then-lt g c = λ made calls s.
    grind (
      arith,
      common_steps,
      c.covers.ensures,
      s.settings.term_length,
      s.progress,
      gated_by_last made (known_of made calls) c.args.view c.in-Some.last _ _ refl refl
          (c.in-Some.ensures.member made (known_of made calls) s)
          c.in-Some.ensures.bound
          (c.in-Some.ensures.greatest made (known_of made calls) s)
          s.settings.some_length,
    )

pub returns-else-lt : goal.returns-else-lt
unfolding StandsFor progress_of
returns-else-lt g c = λ made calls s.
    grind (
      arith,
      common_steps,
      s.settings.term_length,
      s.progress,
      gated_by_last made (known_of made calls) c.args.view c.in-Some.last _ _ refl refl
          (c.in-Some.ensures.member made (known_of made calls) s)
          c.in-Some.ensures.bound
          (c.in-Some.ensures.greatest made (known_of made calls) s)
          s.settings.some_length,
    )
