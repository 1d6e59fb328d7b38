use Rattle.std.proofs.Common.{arith}
use Rattle.simplex_state.proofs.GivingUp.{keeps_given_up}
use Rattle.simplex_state.proofs.state.State.give_up.Goals as goal

pub returns : goal.returns
returns g c = λ made known vote k current. keeps_given_up _ made known vote _ k (omega arith) current
