use Rattle.simplex_stored.proofs.Calls.{before-new}
use Rattle.simplex_stored.proofs.before.Before.new.Goals as goal

pub returns : goal.returns
returns c = before-new _ c.new-2.ensures c.new.ensures.empty
