use Rattle.std.proofs.Common.{◌+◌, arith}
use Rattle.std.proofs.lemmas.Grind.{common_steps}
use Rattle.simplex_state.proofs.Runs.{nothing_holds, run_holds_below, held_below}
use Rattle.simplex_state.proofs.ranges.Ranges.last_up_to.Goals as goal

pub returns-in-None-clause-none : goal.returns-in-None-clause-none
returns-in-None-clause-none c = λ q h. nothing_holds c.args.self.now q (λ u l. c.in-None.ensures.none u (omega (arith, h, l)))

pub returns-in-Some-clause-member : goal.returns-in-Some-clause-member
returns-in-Some-clause-member c =
    grind (
      arith,
      common_steps,
      run_holds_below c.args.self.now c.args.number c.in-Some.start c.in-Some.more (c.in-Some.start + c.min.result) c.in-Some.ensures.run c.in-Some.ensures.greatest (omega arith) (grind (arith, common_steps, c.min.ensures, c.in-Some.ensures.bound)),
      c.min.ensures,
    )

pub returns-in-Some-clause-greatest : goal.returns-in-Some-clause-greatest
returns-in-Some-clause-greatest c = λ q le member.
    held_below c.args.self.now c.args.number c.in-Some.start c.in-Some.more q c.min.result c.in-Some.ensures.run c.in-Some.ensures.bound c.in-Some.ensures.greatest le member
    (grind (arith, common_steps, c.min.ensures))
