use Rattle.std.proofs.Common.{true}
use Rattle.simplex_voter.proofs.LivesOver.{known-over}
use Rattle.simplex_voter.proofs.actor.Actor.stands_over.Goals as goal

pub returns : goal.returns
returns g c = λ made past h. known-over true _ made past h
