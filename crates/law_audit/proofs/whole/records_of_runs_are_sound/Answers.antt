use Rattle.law_audit.proofs.Entire.{runs_are_sound}
use Rattle.law_audit.proofs.whole.records_of_runs_are_sound.Goals as goal

pub returns : goal.returns
returns c = runs_are_sound
