use Rattle.std.proofs.Common.{arith}
use Rattle.std.proofs.lemmas.Grind.{common_steps}
use Rattle.simplex_state.proofs.Moves.{keeps_nullify}
use Rattle.simplex_state.proofs.state.State.vote_nullify.Goals as goal

pub returns : goal.returns
returns g c = λ made known k e.
    keeps_nullify _ made known c.args.vote.now _ k
    (λ q. grind (arith, common_steps, c.in_ok-insert.ensures q, e))
