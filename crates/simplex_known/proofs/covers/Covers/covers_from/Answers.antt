use Rattle.std.proofs.Common.{arith, refl, sym, ap, not, ◌∙◌}
use Rattle.std.proofs.lemmas.Grind.{common_steps}
use Rattle.std.specs.Option.{is_none}
use Rattle.simplex_state.specs.Stands.{covered_in}
use Rattle.simplex_state.proofs.Walking.{skip_run, find_here}
use Rattle.simplex_known.proofs.Spanning.{spans_nothing}
use Rattle.simplex_known.proofs.covers.Covers.covers_from.Goals as goal

pub loop-end-init : goal.loop-end-init
loop-end-init c = (omega arith, λ within. refl)

pub loop-end-preserved : goal.loop-end-preserved
loop-end-preserved c = (
    let later = c.behind-view.ensures.later (grind (arith, common_steps, c.lt.ensures, c.loop-end-test.true, c.requires)) in (
      grind (arith, later, c.loop-end.invariant.0),
      λ within.
          ap is_none (skip_run c.args.self.now.length c.args.self.now.least c.args.self.now.whole c.args.first c.loop-end.view c.behind-view.result c.args.end
          c.loop-end.invariant.0
          later
          (grind (arith, c.is_covered.ensures, c.if-not-is_covered.false))
          within
          c.behind-view.ensures.passed)
          ∙ c.loop-end.invariant.1 within,
    ))

pub loop-end-smaller : goal.loop-end-smaller
loop-end-smaller c = (
    let less = c.loop-end-test.true in
    let later = c.behind-view.ensures.later (grind (arith, common_steps, c.lt.ensures, less, c.requires)) in
    grind (arith, common_steps, c.lt.ensures, less, later))

pub returns-then-not-is_covered : goal.returns-then-not-is_covered
returns-then-not-is_covered c = λ within.
    ap is_none (sym (find_here (λ v. not (covered_in c.args.self.now.length c.args.self.now.least v)) c.loop-end.view c.args.end
    (grind (arith, common_steps, c.is_covered.ensures, c.if-not-is_covered.true))
    (grind (arith, common_steps, c.lt.ensures, c.loop-end-test.true))))
    ∙ c.loop-end.invariant.1 within

pub returns : goal.returns
returns c = λ within.
    sym (spans_nothing (λ v. covered_in c.args.self.now.length c.args.self.now.least v) c.loop-end.view c.args.end
    (grind (arith, common_steps, c.lt.ensures, c.loop-end-test.false)))
    ∙ c.loop-end.invariant.1 within
