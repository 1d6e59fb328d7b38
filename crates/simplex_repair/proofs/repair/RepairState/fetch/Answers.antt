use Rattle.std.proofs.Common.{arith}
use Rattle.std.proofs.lemmas.Grind.{common_steps}
use Rattle.simplex_repair.specs.Stands.{StandsFor}
use Rattle.simplex_repair.proofs.Candidates.{none_yet, above_only, step_gap, none_between}
use Rattle.simplex_repair.proofs.repair.RepairState.fetch.Goals as goal

pub returns-then-not-self : goal.returns-then-not-self
unfolding StandsFor
returns-then-not-self c = λ length calls s. grind (arith, common_steps, s.replayed, none_yet length calls c.args.behind c.args.last)

pub loop-view-init : goal.loop-view-init
unfolding StandsFor
loop-view-init c = λ length calls s. grind (arith, common_steps, s.floor, c.later-at.ensures, above_only length calls c.args.behind c.later-at.result c.args.last)

pub loop-view-preserved-in_ok-push : goal.loop-view-preserved-in_ok-push
loop-view-preserved-in_ok-push c = λ length calls s.
    grind (
      arith,
      common_steps,
      c.loop-view.invariant length calls s,
      c.is_gap.ensures length calls s,
      step_gap length calls c.loop-view.at c.in-Some.view c.args.last c.in-Some.ensures.above c.in-Some.ensures.bound (c.in-Some.ensures.least length calls s),
    )

pub loop-view-preserved : goal.loop-view-preserved
loop-view-preserved c = λ length calls s.
    grind (
      arith,
      common_steps,
      c.loop-view.invariant length calls s,
      c.is_gap.ensures length calls s,
      step_gap length calls c.loop-view.at c.in-Some.view c.args.last c.in-Some.ensures.above c.in-Some.ensures.bound (c.in-Some.ensures.least length calls s),
    )

pub returns : goal.returns
returns c = λ length calls s.
    grind (arith, common_steps, c.loop-view.invariant length calls s, none_between length calls c.loop-view.at c.args.last (c.in_default.ensures.none length calls s))
