use Rattle.std.proofs.Common.{arith}
use Rattle.std.proofs.lemmas.Grind.{common_steps}
use Rattle.simplex_values.specs.Maps.{found}
use Rattle.simplex_repair.specs.Taken.{reaches}
use Rattle.simplex_repair.proofs.Spans.{last_up_to}
use Rattle.simplex_repair.proofs.taken.first_to.Goals as goal

pub returns-in-Some-clause-before : goal.returns-in-Some-clause-before
unfolding reaches
returns-in-Some-clause-before c = λ q le lt.
    grind (
      arith,
      common_steps,
      le,
      lt,
      c.saturating_add.ensures,
      c.if-saturating_add-view.true,
      last_up_to (found c.args.lasts.now) c.in-Some.first c.in-Some.last q c.in-Some.ensures.value le (λ t l h. c.in-Some.ensures.greatest t l (omega (arith, h, lt))),
    )
