use Rattle.model_log.proofs.Chaining.{no_clash}
use Rattle.model_log.proofs.laws.consistent_links_do_not_clash.Goals as goal

pub returns : goal.returns
returns c = no_clash
