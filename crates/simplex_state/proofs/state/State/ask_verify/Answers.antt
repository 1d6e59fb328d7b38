use Rattle.std.proofs.Common.{arith}
use Rattle.std.proofs.lemmas.Grind.{common_steps}
use Rattle.std.proofs.lemmas.Result.{on_ok_weaker}
use Rattle.simplex_state.proofs.Wanting.{keeps_verify_asked}
use Rattle.simplex_state.proofs.state.State.ask_verify.Goals as goal

pub returns : goal.returns
returns g c = on_ok_weaker c.put_round.result (λ did. λ made known k none.
    keeps_verify_asked _ made known c.args.proposal.now _ k none (λ q. grind (arith, common_steps, did q))) c.put_round.ensures
