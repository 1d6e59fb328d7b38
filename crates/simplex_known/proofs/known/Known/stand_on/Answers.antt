use Rattle.std.proofs.lemmas.Result.{on_ok_weaker}
use Rattle.simplex_known.proofs.Apart.{sent_kept, floor_kept}
use Rattle.simplex_known.proofs.known.Known.stand_on.Goals as goal

pub returns : goal.returns
returns c =
    on_ok_weaker c.add_finalization.result
    (λ did made known now k. sent_kept _ made _ _ _ (did now made _ (floor_kept _ made known _ _ k)))
    c.add_finalization.ensures
