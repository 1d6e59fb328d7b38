use Rattle.std.proofs.Common.{[], arith, refl}
use Rattle.simplex_reader.proofs.Counted.{counts_of}
use Rattle.simplex_reader.proofs.pruning.count_on_reply.Goals as goal

pub returns-in-Ok : goal.returns-in-Ok
returns-in-Ok g c =
    counts_of _ _ _ _ c.in-Ok.due _ [] (omega (arith, c.count.ensures.few, c.verdicts_taken-taken.ensures.few)) c.in-Ok.ensures (λ made facts k. refl)
    (λ made facts k signs. omega (arith, c.count.ensures.due, c.verdicts_taken-taken.ensures.taken made facts k))
