use Rattle.std.proofs.Common.{arith}
use Rattle.std.proofs.lemmas.Grind.{common_steps}
use Rattle.simplex_reader.proofs.Acting.{acts_unless, acts_if}
use Rattle.simplex_reader.proofs.Listing.{if-ok}
use Rattle.simplex_reader.proofs.taking.take_deadline.Goals as goal

pub returns-then-not-is_timer : goal.returns-then-not-is_timer
returns-then-not-is_timer g c = acts_unless _ _ _ _ _ _ (grind (arith, common_steps, c.is_timer.ensures)) c.nothing_due.ensures

pub returns : goal.returns
returns g c =
    if-ok c.at_deadline.result
    (λ due steps. acts_if _ _ _ _ _ due _ (grind (arith, common_steps, c.is_timer.ensures)) steps)
    c.at_deadline.ensures
