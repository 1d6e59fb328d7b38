use Rattle.std.proofs.Common.{[], arith, refl}
use Rattle.std.proofs.lemmas.Grind.{common_steps}
use Rattle.simplex_reader.proofs.Counted.{counts_of, counts_unless, counts_if}
use Rattle.simplex_reader.proofs.pruning.count_on_timeout.Goals as goal

pub returns-then-not-is_voter : goal.returns-then-not-is_voter
returns-then-not-is_voter g c = λ reason. counts_unless _ _ _ _ (grind (arith, common_steps, c.is_voter.ensures))

pub returns-in-Ok : goal.returns-in-Ok
returns-in-Ok g c = λ reason.
    counts_if _ _ _ _ _ _ (grind (arith, common_steps, c.is_voter.ensures))
    (counts_of _ _ _ _ c.in-Ok.due c.count.result [] (omega (arith, c.count.ensures.few)) (c.in-Ok.ensures reason) (λ made facts k. refl)
    (λ made facts k signs. omega (arith, c.count.ensures.due)))
