use Rattle.law_run.proofs.Whole.{possible}
use Rattle.law_run.proofs.complete.possible_events_run.Goals as goal

pub returns : goal.returns
returns c = possible
