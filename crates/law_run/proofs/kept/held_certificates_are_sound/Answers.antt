use Rattle.law_run.proofs.Held.{held_sound}
use Rattle.law_run.proofs.kept.held_certificates_are_sound.Goals as goal

pub returns : goal.returns
returns c = λ setting noted node o runs. held_sound setting noted o node runs
