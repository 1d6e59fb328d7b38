use Rattle.simplex_state.specs.Stands.{Keeps}
use Rattle.simplex_state.proofs.Expiring.{judged_bad}
use Rattle.simplex_state.proofs.state.State.judge.Goals as goal

pub returns-in_ok-trigger : goal.returns-in_ok-trigger
returns-in_ok-trigger g c = λ made known k none.
    judged_bad (Keeps _ made) made known _ _ _ c.if-good.false (c.in_ok-trigger.ensures made _ (c.in_ok-reject.ensures made known k none))
