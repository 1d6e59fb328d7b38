use Rattle.simplex_reader.proofs.Started.{starts}
use Rattle.simplex_reader.proofs.starting.known_at_start.Goals as goal

pub returns : goal.returns
returns c = starts _ _ _ _ _ _ _ c.new-known.ensures c.in_ok-stand_on.ensures c.view_of.ensures c.in_ok-replay_above.ensures
