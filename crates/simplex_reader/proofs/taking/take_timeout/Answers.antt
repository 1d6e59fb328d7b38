use Rattle.std.proofs.Common.{arith}
use Rattle.std.proofs.lemmas.Grind.{common_steps}
use Rattle.simplex_reader.proofs.Acting.{acts_unless, acts_if}
use Rattle.simplex_reader.proofs.Listing.{if-ok}
use Rattle.simplex_reader.proofs.taking.take_timeout.Goals as goal

pub returns-then-not-is_voter : goal.returns-then-not-is_voter
returns-then-not-is_voter g c = λ reason. acts_unless _ _ _ _ _ _ (grind (arith, common_steps, c.is_voter.ensures)) c.nothing_due.ensures

pub returns : goal.returns
returns g c =
    if-ok c.on_timeout.result
    (λ due steps reason. acts_if _ _ _ _ _ due _ (grind (arith, common_steps, c.is_voter.ensures)) (steps reason))
    c.on_timeout.ensures
