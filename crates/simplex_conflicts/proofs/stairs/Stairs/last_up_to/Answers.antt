use Rattle.std.proofs.Common.{arith, rules}
use Rattle.std.proofs.lemmas.Grind.{common_steps}
use Rattle.simplex_values.specs.Maps.{found}
use Rattle.simplex_conflicts.proofs.stairs.Stairs.last_up_to.Goals as goal

pub returns-clause-greatest : goal.returns-clause-greatest
unfolding found
returns-clause-greatest c = λ q le some. (
    let w = (c.range.ensures.in_range (search rules)).4 _ _ c.in_ok-lower.ensures.steps q (search rules) (search rules) in
    grind (arith, common_steps, w))
