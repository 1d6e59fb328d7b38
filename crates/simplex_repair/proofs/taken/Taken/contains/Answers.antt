use Rattle.std.proofs.Common.{arith}
use Rattle.std.proofs.lemmas.Grind.{common_steps}
use Rattle.simplex_values.specs.Maps.{found}
use Rattle.simplex_repair.specs.Taken.{is_taken, reaches}
use Rattle.simplex_repair.proofs.Spans.{last_up_to}
use Rattle.simplex_repair.proofs.taken.Taken.contains.Goals as goal

pub returns-in-Some : goal.returns-in-Some
unfolding is_taken reaches
returns-in-Some c =
    grind (arith, common_steps, last_up_to (found c.args.self.now.lasts) c.in-Some.field-0-0 c.in-Some.last c.args.view c.in-Some.ensures.value c.in-Some.ensures.bound c.in-Some.ensures.greatest)
