use Rattle.simplex_fetch.proofs.Rounds.{asks_none_blocked}
use Rattle.simplex_fetch.proofs.laws.blocked_members_are_not_asked.Goals as goal

pub returns : goal.returns
returns c = asks_none_blocked
