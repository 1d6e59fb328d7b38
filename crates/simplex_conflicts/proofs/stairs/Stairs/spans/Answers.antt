use Rattle.std.proofs.Common.{arith}
use Rattle.simplex_values.specs.Maps.{found}
use Rattle.simplex_conflicts.proofs.Climbing.{spans_some}
use Rattle.simplex_conflicts.proofs.stairs.Stairs.spans.Goals as goal

pub returns-in-Some-last_up_to : goal.returns-in-Some-last_up_to
returns-in-Some-last_up_to c = λ spanned stands.
    spans_some (λ a. found c.args.self.now.uppers a) spanned c.in-Some.before c.args.view c.in-Some-last_up_to.field-0-0 c.in-Some-last_up_to.upper stands
    (omega (arith, c.in-Some.ensures)) c.in-Some-last_up_to.ensures.pair c.in-Some-last_up_to.ensures.bound c.in-Some-last_up_to.ensures.greatest
