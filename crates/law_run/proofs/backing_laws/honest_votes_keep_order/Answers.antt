use Rattle.law_run.proofs.Listing.{all_well_sent}
use Rattle.law_run.proofs.backing_laws.honest_votes_keep_order.Goals as goal

pub returns : goal.returns
returns c = all_well_sent
