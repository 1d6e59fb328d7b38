use Rattle.law_run.proofs.Entering.{one_each}
use Rattle.law_run.proofs.each.runs_have_one_entry_each.Goals as goal

pub returns : goal.returns
returns c = one_each
