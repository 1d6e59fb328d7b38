use Rattle.std.proofs.Common.{arith}
use Rattle.std.proofs.lemmas.Grind.{common_steps}
use Rattle.simplex_state.proofs.Runs.{run_reaches}
use Rattle.simplex_state.proofs.ranges.Ranges.run_end.Goals as goal

pub returns-in-None-clause-held : goal.returns-in-None-clause-held
returns-in-None-clause-held c = λ q from to.
    run_reaches c.args.self.now c.args.number c.in_ok-start.start c.in_ok-start.more q c.in_ok-start.ensures.run c.in_ok-start.ensures.bound c.in_ok-start.ensures.greatest from
    (grind (arith, common_steps, c.saturating_add-last.ensures, to))
    (λ u l h. c.in-None.ensures.none u (omega (arith, l)) (omega (arith, h, to)))

pub returns-in-Some-clause-held : goal.returns-in-Some-clause-held
returns-in-Some-clause-held c = λ q from to.
    run_reaches c.args.self.now c.args.number c.in_ok-start.start c.in_ok-start.more q c.in_ok-start.ensures.run c.in_ok-start.ensures.bound c.in_ok-start.ensures.greatest from
    (grind (arith, common_steps, c.saturating_add-last.ensures, to, c.in-Some.ensures.bounds))
    (λ u l h. c.in-Some.ensures.least u (omega (arith, l)) (omega (arith, h, to, c.in-Some.ensures.bounds.0)))
