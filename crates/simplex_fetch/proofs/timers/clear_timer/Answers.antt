use Rattle.std.proofs.Common.{arith}
use Rattle.std.proofs.lemmas.Grind.{common_steps}
use Rattle.simplex_fetch.proofs.Pairs.{pair_at}
use Rattle.simplex_fetch.proofs.timers.clear_timer.Goals as goal

pub returns-in-Some : goal.returns-in-Some
returns-in-Some c = λ d v. grind (arith, common_steps, c.remove.ensures.updates.0 (d, v), pair_at c.in-Some.deadline c.args.view (d, v))
