use Rattle.std.proofs.Common.{arith}
use Rattle.std.proofs.lemmas.Grind.{common_steps}
use Rattle.std.proofs.lemmas.Result.{on_ok_weaker}
use Rattle.simplex_state.proofs.Moves.{keeps_missing}
use Rattle.simplex_state.proofs.state.State.ask_missing.Goals as goal

pub returns : goal.returns
returns g c = on_ok_weaker c.ask.result (λ did. λ made known k.
    keeps_missing _ made known c.args.proposal c.args.view c.args.kind _ k (λ q u other. grind (arith, common_steps, did q u other))) c.ask.ensures
