use Rattle.std.proofs.Common.{arith}
use Rattle.std.proofs.lemmas.Grind.{common_steps}
use Rattle.simplex_fetch.proofs.Pairs.{pair_at}
use Rattle.simplex_fetch.proofs.timers.set_timer.Goals as goal

pub returns-in_ok-insert-clause-ok : goal.returns-in_ok-insert-clause-ok
returns-in_ok-insert-clause-ok c = λ d v. grind (arith, common_steps, c.in_ok-insert.ensures.updates.0 (d, v), pair_at c.in-Some.deadline c.args.view (d, v))
