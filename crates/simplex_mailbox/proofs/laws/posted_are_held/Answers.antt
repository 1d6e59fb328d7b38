use Rattle.simplex_mailbox.proofs.Holding.{held-posted}
use Rattle.simplex_mailbox.proofs.laws.posted_are_held.Goals as goal

pub returns : goal.returns
returns g c = λ before messages after posted. held-posted before messages after posted
