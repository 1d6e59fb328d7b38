use Rattle.simplex_reader.proofs.Counted.{counts_none}
use Rattle.simplex_reader.proofs.Listing.{if-ok}
use Rattle.simplex_reader.proofs.pruning.count_on_answer.Goals as goal

pub returns-in-None : goal.returns-in-None
returns-in-None g c = rw c.in-None.is (counts_none _ _)

pub returns-in-Some : goal.returns-in-Some
returns-in-Some g c = if-ok c.count_on_reply.result (λ records counts. rw c.in-Some.is counts) c.count_on_reply.ensures
