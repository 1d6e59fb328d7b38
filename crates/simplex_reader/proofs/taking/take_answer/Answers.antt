use Rattle.simplex_reader.proofs.Acting.{acts_none, acts_some}
use Rattle.simplex_reader.proofs.Listing.{if-ok}
use Rattle.simplex_reader.proofs.taking.take_answer.Goals as goal

pub returns-in-None : goal.returns-in-None
returns-in-None g c = rw c.in-None.is (acts_none _ _ _ _ c.nothing_due.ensures)

pub returns-in-Some : goal.returns-in-Some
returns-in-Some g c = if-ok c.on_answer.result (λ due steps. rw c.in-Some.is (acts_some _ _ _ _ _ due steps)) c.on_answer.ensures
