use Rattle.std.proofs.Common.{arith, rules}
use Rattle.std.proofs.lemmas.Grind.{common_steps}
use Rattle.simplex_values.specs.Maps.{found}
use Rattle.simplex_values.proofs.maps.last_below.Goals as goal

pub returns-in-Some-clause-greatest : goal.returns-in-Some-clause-greatest
unfolding found
returns-in-Some-clause-greatest g c = λ q lt some. (
    let w = (c.range.ensures.in_range (search rules)).4 _ _ c.in-Some.ensures.steps q (search rules) (search rules) in
    grind (arith, common_steps, w))
