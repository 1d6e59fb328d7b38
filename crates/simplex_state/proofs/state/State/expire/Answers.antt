use Rattle.std.proofs.Common.{arith}
use Rattle.std.proofs.lemmas.Grind.{common_steps}
use Rattle.simplex_state.proofs.Expiring.{keeps_expired, skips}
use Rattle.simplex_state.proofs.state.State.expire.Goals as goal

pub returns : goal.returns
returns g c = λ made known k e.
    keeps_expired _ made known _ _ _ _ _ k
    (grind (arith, common_steps, skips made known c.args.view c.args.reason e, k.progress, k.settings.skip_budget))
    (λ q. grind (arith, common_steps, c.in_ok-put_round.ensures q))
