use Rattle.simplex_fetch.proofs.Rounds.{goes_round}
use Rattle.simplex_fetch.proofs.laws.untargeted_asks_go_round.Goals as goal

pub returns : goal.returns
returns c = goes_round
