use Rattle.std.proofs.Common.{arith, refl, sym, not, ◌-◌, ◌∙◌}
use Rattle.std.proofs.lemmas.Grind.{common_steps}
use Rattle.simplex_state.specs.Stands.{covered_in}
use Rattle.simplex_state.proofs.Walking.{skip_run, find_here, find_nothing}
use Rattle.simplex_state.proofs.ancestry.gap_from.Goals as goal

pub loop-length-init : goal.loop-length-init
loop-length-init c = (omega arith, λ within. refl)

pub loop-length-preserved : goal.loop-length-preserved
loop-length-preserved c = (
    let later = c.behind-view.ensures.later (grind (arith, common_steps, c.lt.ensures, c.loop-length-test.true, c.requires.low)) in (
      grind (arith, later, c.loop-length.invariant.0),
      λ within.
          skip_run c.args.length c.args.covered.now c.args.whole.now c.args.first c.loop-length.view c.behind-view.result c.args.end
          c.loop-length.invariant.0
          later
          (grind (arith, c.is_covered.ensures, c.if-not-is_covered.false))
          within
          c.behind-view.ensures.passed
          ∙ c.loop-length.invariant.1 within,
    ))

pub loop-length-smaller : goal.loop-length-smaller
loop-length-smaller c = (
    let less = c.loop-length-test.true in
    let later = c.behind-view.ensures.later (grind (arith, common_steps, c.lt.ensures, less, c.requires.low)) in
    grind (arith, common_steps, c.lt.ensures, less, later))

pub returns-then-not-is_covered : goal.returns-then-not-is_covered
returns-then-not-is_covered c = λ within.
    sym (find_here (λ v. not (covered_in c.args.length c.args.covered.now v)) c.loop-length.view c.args.end
    (grind (arith, common_steps, c.is_covered.ensures, c.if-not-is_covered.true))
    (grind (arith, common_steps, c.lt.ensures, c.loop-length-test.true)))
    ∙ c.loop-length.invariant.1 within

pub returns : goal.returns
returns c = λ within.
    sym (find_nothing (λ v. not (covered_in c.args.length c.args.covered.now v)) c.loop-length.view (c.args.end - c.loop-length.view)
    (grind (arith, common_steps, c.lt.ensures, c.loop-length-test.false)))
    ∙ c.loop-length.invariant.1 within
