use Rattle.law_run.proofs.AskedRunning.{requests_rooted}
use Rattle.law_run.proofs.vouching.requests_name_the_genesis.Goals as goal

pub returns : goal.returns
returns c = requests_rooted
