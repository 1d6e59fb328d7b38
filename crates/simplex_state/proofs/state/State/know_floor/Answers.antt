use Rattle.std.proofs.Common.{arith, refl}
use Rattle.std.proofs.lemmas.Grind.{common_steps}
use Rattle.std.proofs.lemmas.Result.{on_ok_weaker}
use Rattle.simplex_state.proofs.Recording.{keeps_record}
use Rattle.simplex_state.specs.Rounds.{learn_round}
use Rattle.simplex_state.specs.Progress.{learn_progress}
use Rattle.model_rules.specs.Known.{FloorAt}
use Rattle.simplex_state.proofs.state.State.know_floor.Goals as goal

pub returns : goal.returns
unfolding learn_round learn_progress
returns g c = on_ok_weaker c.put_round.result (λ did. λ made known k.
    keeps_record _ made known (FloorAt c.args.view c.args.payload.now) _ k refl refl (omega arith) refl
    (λ q. grind (arith, common_steps, did q))) c.put_round.ensures
