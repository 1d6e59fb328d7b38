use Rattle.std.proofs.Common.{arith}
use Rattle.std.proofs.lemmas.Grind.{common_steps}
use Rattle.simplex_state.proofs.Forgotten.{keeps_past_finalization}
use Rattle.simplex_state.proofs.state.State.pass_finalization.Goals as goal

pub returns : goal.returns
returns g c = λ made known now stamp k past.
    keeps_past_finalization _ made known c.args.finalization.now now _ k stamp past
    (λ q. grind (arith, common_steps, c.mark_sent.ensures q, c.view-view.ensures))
