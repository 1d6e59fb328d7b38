use Rattle.simplex_mailbox.proofs.Turns.{drained-undrained}
use Rattle.simplex_mailbox.proofs.laws.order_is_kept.Goals as goal

pub returns : goal.returns
returns g c = λ waiting room. drained-undrained _ room waiting
