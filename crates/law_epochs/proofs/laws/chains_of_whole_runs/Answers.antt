use Rattle.law_epochs.proofs.Chains.{whole_chains}
use Rattle.law_epochs.proofs.laws.chains_of_whole_runs.Goals as goal

pub returns : goal.returns
returns c = whole_chains
