use Rattle.simplex_mailbox.specs.Waiting.{in_turn}
use Rattle.simplex_mailbox.proofs.Turns.{drained-all, undrained-all}
use Rattle.simplex_mailbox.proofs.laws.all_goes_in_turn.Goals as goal

pub returns-clause-goes : goal.returns-clause-goes
unfolding in_turn
returns-clause-goes g c = λ waiting room fits. drained-all _ room waiting fits

pub returns-clause-nothing_is_left : goal.returns-clause-nothing_is_left
returns-clause-nothing_is_left g c = λ waiting room fits. undrained-all _ room waiting fits
