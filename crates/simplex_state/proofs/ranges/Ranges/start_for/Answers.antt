use Rattle.std.proofs.Common.{arith}
use Rattle.std.proofs.lemmas.Grind.{common_steps}
use Rattle.simplex_state.proofs.Runs.{run_holds_below, run_alone}
use Rattle.simplex_state.proofs.ranges.Ranges.start_for.Goals as goal

pub returns-clause-held : goal.returns-clause-held
returns-clause-held c = λ q from to.
    grind (
      arith,
      common_steps,
      run_holds_below c.args.self.now c.args.number c.in-Some.start c.in-Some.more q c.in-Some.ensures.run c.in-Some.ensures.greatest from (omega (arith, to)),
      to,
      c.saturating_sub.ensures,
      c.if-saturating_sub-gt1.false,
    )

pub returns-clause-alone : goal.returns-clause-alone
returns-clause-alone c = λ q from to. run_alone c.args.self.now c.args.number c.in-Some.start q c.in-Some.ensures.greatest from to
