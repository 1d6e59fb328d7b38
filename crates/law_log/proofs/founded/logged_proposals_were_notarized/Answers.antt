use Rattle.law_log.proofs.Founding.{logged_founded}
use Rattle.law_log.proofs.founded.logged_proposals_were_notarized.Goals as goal

pub returns : goal.returns
returns c = logged_founded
