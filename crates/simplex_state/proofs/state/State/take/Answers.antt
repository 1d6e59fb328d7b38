use Rattle.std.proofs.Common.{arith}
use Rattle.std.proofs.lemmas.Grind.{common_steps}
use Rattle.std.proofs.lemmas.Result.{on_ok_weaker}
use Rattle.simplex_state.proofs.Proposing.{keeps_taken}
use Rattle.simplex_state.proofs.state.State.take.Goals as goal

pub returns : goal.returns
returns g c = on_ok_weaker c.put_round.result (λ did. λ made known k active none. keeps_taken _ made known _ _ k active none (λ q. grind (arith, common_steps, did q))) c.put_round.ensures
