use Rattle.std.proofs.lemmas.Result.{on_ok_weaker}
use Rattle.simplex_state.proofs.state.State.start_from.Goals as goal

pub returns : goal.returns
returns g c = on_ok_weaker c.keep_finalization.result (λ did. λ made known k.
    did made _ (rw c.view-view.ensures at (c.in_ok-know_floor.ensures made known k))) c.keep_finalization.ensures
