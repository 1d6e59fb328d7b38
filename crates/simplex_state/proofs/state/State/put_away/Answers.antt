use Rattle.std.proofs.Common.{arith}
use Rattle.std.proofs.lemmas.Grind.{common_steps}
use Rattle.simplex_state.proofs.GivingUp.{keeps_put_away}
use Rattle.simplex_state.proofs.state.State.put_away.Goals as goal

pub returns-clause-kept : goal.returns-clause-kept
returns-clause-kept g c = λ made known k.
    keeps_put_away _ made known _ k
    (grind (arith, common_steps, c.if-not-self.false))
    (λ q. grind (arith, common_steps, c.in_ok-insert.ensures q))
