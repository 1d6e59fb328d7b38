use Rattle.law_requests.proofs.Pruning.{pruned_in}
use Rattle.law_requests.proofs.laws.prunes_reach_the_least_active_view.Goals as goal

pub returns : goal.returns
returns c = pruned_in
