use Rattle.std.proofs.Common.{arith, rules, ◌+◌, ◌<◌, ◌^◌, ◌∙◌}
use Rattle.std.proofs.lemmas.Grind.{common_steps}
use Rattle.simplex_values.specs.Terms.{next_of}
use Rattle.model_rules.specs.Calls.{known_of}
use Rattle.simplex_state.specs.Stands.{StandsFor}
use Rattle.simplex_state.proofs.Wanting.{ready_here, ready_on, ready_end, ready_out}
use Rattle.simplex_state.proofs.state.State.first_ready.Goals as goal

pub returns-then-is_founded : goal.returns-then-is_founded
unfolding StandsFor
returns-then-is_founded g c = λ made calls s low.
    ready_here made (known_of made calls) c.loop-view.from (c.args.limit + 1) c.in-Some.view
    (c.in-Some.ensures.least made (known_of made calls) s (omega (arith, low, c.loop-view.invariant.0)))
    (grind (arith, c.is_founded.ensures made calls s (omega (arith, low, c.loop-view.invariant.0, c.in-Some.ensures.bounds.0)), c.if-is_founded.true))
    ∙ c.loop-view.invariant.1 made calls s low

pub returns-then-eq : goal.returns-then-eq
unfolding StandsFor
returns-then-eq g c = λ made calls s low.
    ready_end made (known_of made calls) c.loop-view.from (c.args.limit + 1) c.in-Some.view
    (c.in-Some.ensures.least made (known_of made calls) s (omega (arith, low, c.loop-view.invariant.0)))
    (grind (arith, c.is_founded.ensures made calls s (omega (arith, low, c.loop-view.invariant.0, c.in-Some.ensures.bounds.0)), c.if-is_founded.false))
    (grind (arith, common_steps, c.eq.ensures, c.if-eq.true))
    ∙ c.loop-view.invariant.1 made calls s low

pub loop-view-smaller : goal.loop-view-smaller
unfolding next_of
loop-view-smaller g c = (
    let top : c.args.limit < 2 ^ 64 = search rules in
    grind (arith, common_steps, c.in-Some.ensures.bounds.0, c.in-Some.ensures.bounds.1, c.eq.ensures, c.if-eq.false, c.next-from.ensures, top))

pub loop-view-preserved : goal.loop-view-preserved
unfolding next_of StandsFor
loop-view-preserved g c = (
    let top : c.args.limit < 2 ^ 64 = search rules in (
      grind (arith, common_steps, c.loop-view.invariant.0, c.in-Some.ensures.bounds.0, c.in-Some.ensures.bounds.1, c.eq.ensures, c.if-eq.false, c.next-from.ensures, top),
      λ made calls s low.
          ready_on made (known_of made calls) c.loop-view.from (c.args.limit + 1) c.in-Some.view c.next-from.result
          (c.in-Some.ensures.least made (known_of made calls) s (omega (arith, low, c.loop-view.invariant.0)))
          (grind (arith, c.is_founded.ensures made calls s (omega (arith, low, c.loop-view.invariant.0, c.in-Some.ensures.bounds.0)), c.if-is_founded.false))
          (grind (arith, common_steps, c.in-Some.ensures.bounds.1, c.eq.ensures, c.if-eq.false, c.next-from.ensures, top))
          ∙ c.loop-view.invariant.1 made calls s low,
    ))

pub returns : goal.returns
unfolding StandsFor
returns g c = λ made calls s low.
    ready_out made (known_of made calls) c.loop-view.from (c.args.limit + 1)
    (c.in_default.ensures.least made (known_of made calls) s (omega (arith, low, c.loop-view.invariant.0)))
    ∙ c.loop-view.invariant.1 made calls s low
