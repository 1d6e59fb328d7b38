use Rattle.std.proofs.Common.{arith}
use Rattle.std.proofs.lemmas.Grind.{common_steps}
use Rattle.simplex_reader.proofs.Counted.{votes_counted}
use Rattle.simplex_reader.proofs.pruning.count.Goals as goal

pub returns-clause-due : goal.returns-clause-due
returns-clause-due c = grind (arith, common_steps, votes_counted c.args.due.now)
