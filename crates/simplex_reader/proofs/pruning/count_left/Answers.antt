use Rattle.simplex_reader.proofs.Counted.{counts_left}
use Rattle.simplex_reader.proofs.pruning.count_left.Goals as goal

pub returns-in-Ok : goal.returns-in-Ok
returns-in-Ok g c = counts_left _ _ _ c.args.certificate.now c.in-Ok.due c.count.result c.count.ensures.due c.count.ensures.few c.in-Ok.ensures
