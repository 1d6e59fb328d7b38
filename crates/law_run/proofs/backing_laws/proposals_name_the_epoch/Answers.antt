use Rattle.law_run.proofs.Offering.{proposals_named}
use Rattle.law_run.proofs.backing_laws.proposals_name_the_epoch.Goals as goal

pub returns : goal.returns
returns c = proposals_named
