use Rattle.std.proofs.Common.{arith, rules, ◌+◌, ◌<◌, ◌^◌, ◌∙◌}
use Rattle.std.proofs.lemmas.Grind.{common_steps}
use Rattle.simplex_values.specs.Terms.{next_of}
use Rattle.simplex_state.proofs.Wanting.{wanting_here, wanting_on, wanting_end, wanting_out}
use Rattle.simplex_state.proofs.state.State.next_wanting.Goals as goal

pub returns-then-wants_verify-clause-bounds : goal.returns-then-wants_verify-clause-bounds
returns-then-wants_verify-clause-bounds g c = (omega (arith, c.loop-view.invariant.0, c.in-Some.ensures.bounds.0), c.in-Some.ensures.bounds.1)

pub returns-then-wants_verify-clause-least : goal.returns-then-wants_verify-clause-least
returns-then-wants_verify-clause-least g c = λ made known k low.
    wanting_here _ made known c.loop-view.from c.in-Some.view (c.args.limit + 1) k
    (omega (arith, low, c.loop-view.invariant.0))
    c.in-Some.ensures.bounds.0
    (omega (arith, c.in-Some.ensures.bounds.1))
    c.in-Some.ensures.least
    (grind (arith, c.wants_verify.ensures made known k (omega (arith, low, c.loop-view.invariant.0, c.in-Some.ensures.bounds.0)), c.if-wants_verify.true))
    ∙ c.loop-view.invariant.1 made known k low

pub returns-then-eq-clause-least : goal.returns-then-eq-clause-least
returns-then-eq-clause-least g c = λ made known k low.
    wanting_end _ made known c.loop-view.from c.in-Some.view (c.args.limit + 1) k
    (omega (arith, low, c.loop-view.invariant.0))
    c.in-Some.ensures.bounds.0
    (grind (arith, common_steps, c.eq.ensures, c.if-eq.true))
    c.in-Some.ensures.least
    (grind (arith, c.wants_verify.ensures made known k (omega (arith, low, c.loop-view.invariant.0, c.in-Some.ensures.bounds.0)), c.if-wants_verify.false))
    ∙ c.loop-view.invariant.1 made known k low

pub loop-view-smaller : goal.loop-view-smaller
unfolding next_of
loop-view-smaller g c = (
    let top : c.args.limit < 2 ^ 64 = search rules in
    grind (arith, common_steps, c.in-Some.ensures.bounds.0, c.in-Some.ensures.bounds.1, c.eq.ensures, c.if-eq.false, c.next-from.ensures, top))

pub loop-view-preserved : goal.loop-view-preserved
unfolding next_of
loop-view-preserved g c = (
    let top : c.args.limit < 2 ^ 64 = search rules in (
      grind (arith, common_steps, c.loop-view.invariant.0, c.in-Some.ensures.bounds.0, c.in-Some.ensures.bounds.1, c.eq.ensures, c.if-eq.false, c.next-from.ensures, top),
      λ made known k low.
          wanting_on _ made known c.loop-view.from c.in-Some.view c.next-from.result (c.args.limit + 1) k
          (omega (arith, low, c.loop-view.invariant.0))
          c.in-Some.ensures.bounds.0
          (grind (arith, common_steps, c.in-Some.ensures.bounds.1, c.eq.ensures, c.if-eq.false, c.next-from.ensures, top))
          c.in-Some.ensures.least
          (grind (arith, c.wants_verify.ensures made known k (omega (arith, low, c.loop-view.invariant.0, c.in-Some.ensures.bounds.0)), c.if-wants_verify.false))
          ∙ c.loop-view.invariant.1 made known k low,
    ))

pub returns-clause-least : goal.returns-clause-least
returns-clause-least g c = λ made known k low.
    wanting_out _ made known c.loop-view.from (c.args.limit + 1) k
    (omega (arith, low, c.loop-view.invariant.0))
    (λ q a b. c.in_default.ensures.none q a (omega (arith, b)))
    ∙ c.loop-view.invariant.1 made known k low
