use Rattle.std.proofs.Common.{arith, sym, ◌∙◌}
use Rattle.std.proofs.lemmas.Grind.{common_steps}
use Rattle.simplex_reader.proofs.Counted.{counts_certificate, counts_unless, counts_if}
use Rattle.simplex_reader.proofs.Listing.{if-ok}
use Rattle.simplex_reader.proofs.pruning.count_on_certificate.Goals as goal

pub returns-then-not-is_voter : goal.returns-then-not-is_voter
returns-then-not-is_voter g c = counts_unless _ _ _ _ (grind (arith, common_steps, c.is_voter.ensures))

pub returns-then-adds : goal.returns-then-adds
returns-then-adds g c =
    if-ok c.count_added.result
    (λ records counts. counts_if _ _ _ _ _ _ (grind (arith, common_steps, c.is_voter.ensures))
    (counts_certificate _ _ _ _ _ records (λ made facts k. sym c.if-adds.true ∙ c.adds.ensures made facts k) counts))
    c.count_added.ensures

pub returns-else-adds : goal.returns-else-adds
returns-else-adds g c =
    if-ok c.count_left.result
    (λ records counts. counts_if _ _ _ _ _ _ (grind (arith, common_steps, c.is_voter.ensures))
    (counts_certificate _ _ _ _ _ records (λ made facts k. sym c.if-adds.false ∙ c.adds.ensures made facts k) counts))
    c.count_left.ensures
