use Rattle.std.proofs.Common.{arith, refl}
use Rattle.std.proofs.lemmas.Grind.{common_steps}
use Rattle.model_rules.specs.Calls.{known_of}
use Rattle.simplex_state.specs.Rounds.{round_of}
use Rattle.simplex_state.specs.Stands.{StandsFor}
use Rattle.simplex_state.proofs.Waiting.{fetch_by}
use Rattle.simplex_state.proofs.state.State.parent_to_fetch.Goals as goal

pub returns-in_err-parent : goal.returns-in_err-parent
returns-in_err-parent g c = λ made calls s.
    grind (arith, common_steps, fetch_by (known_of made calls) c.args.view _ refl, c.in_err-parent.ensures.answer made calls s, c.from_residual.ensures)

pub returns-then-round_at : goal.returns-then-round_at
unfolding StandsFor round_of
returns-then-round_at g c = λ made calls s.
    grind (
      arith,
      common_steps,
      fetch_by (known_of made calls) c.args.view _ refl,
      c.in_ok-parent.ensures.answer made calls s,
      c.round_at.ensures,
      s.rounds c.args.view (c.in_ok-parent.ensures.above made (known_of made calls) s refl),
    )

pub returns-then-not-is_lacking : goal.returns-then-not-is_lacking
returns-then-not-is_lacking g c = λ made calls s.
    grind (
      arith,
      common_steps,
      fetch_by (known_of made calls) c.args.view _ refl,
      c.in_ok-parent.ensures.answer made calls s,
      c.is_lacking.ensures made calls s,
    )

pub returns : goal.returns
unfolding StandsFor round_of
returns g c = λ made calls s.
    grind (
      arith,
      common_steps,
      fetch_by (known_of made calls) c.args.view _ refl,
      c.in_ok-parent.ensures.answer made calls s,
      c.is_lacking.ensures made calls s,
      c.round_at.ensures,
      s.rounds c.args.view (c.in_ok-parent.ensures.above made (known_of made calls) s refl),
    )
