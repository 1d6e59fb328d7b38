use Rattle.law_run.proofs.BackingKeeping.{run_keeps}
use Rattle.law_run.proofs.kept.nodes_keep_the_invariant.Goals as goal

pub returns : goal.returns
returns c = run_keeps
