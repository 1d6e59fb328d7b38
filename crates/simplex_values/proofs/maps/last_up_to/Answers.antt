use Rattle.std.proofs.Common.{arith, rules}
use Rattle.std.proofs.lemmas.Grind.{common_steps}
use Rattle.simplex_values.specs.Maps.{has}
use Rattle.simplex_values.proofs.maps.last_up_to.Goals as goal

pub returns-in-Some-clause-greatest : goal.returns-in-Some-clause-greatest
unfolding has
returns-in-Some-clause-greatest c = λ q le h. (
    let w = (c.range.ensures.in_range (search rules)).4 c.in-Some.last.now c.next_back.new.self c.in-Some.ensures.steps q (search rules) (search rules) in
    grind (arith, common_steps, w))
