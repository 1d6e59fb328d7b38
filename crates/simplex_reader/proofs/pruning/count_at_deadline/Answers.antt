use Rattle.std.proofs.Common.{arith}
use Rattle.std.proofs.lemmas.Grind.{common_steps}
use Rattle.simplex_reader.proofs.Counted.{counts_deadline, counts_unless, counts_if}
use Rattle.simplex_reader.proofs.pruning.count_at_deadline.Goals as goal

pub returns-then-not-is_timer : goal.returns-then-not-is_timer
returns-then-not-is_timer g c = counts_unless _ _ _ _ (grind (arith, common_steps, c.is_timer.ensures))

pub returns-in-Ok : goal.returns-in-Ok
returns-in-Ok g c =
    rw c.saturating_sub.ensures
    (counts_if _ _ _ _ _ _ (grind (arith, common_steps, c.is_timer.ensures))
    (counts_deadline _ _ _ c.in-Ok.due c.count.result c.repeats-repeated.result c.count.ensures.due c.count.ensures.few c.in-Ok.ensures c.repeats-repeated.ensures))
