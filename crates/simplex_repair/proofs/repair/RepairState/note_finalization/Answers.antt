use Rattle.std.proofs.Common.{arith}
use Rattle.std.proofs.lemmas.Grind.{common_steps}
use Rattle.simplex_values.specs.Terms.{term_index}
use Rattle.model_rules.specs.Lists.{first_of, greatest_of}
use Rattle.model_rules.specs.Repair.{notarization_held, nullification_held, finalization_held, is_good, is_failed, final_view, repair_floor, is_final, covering_nullification, top_of}
use Rattle.simplex_repair.specs.Stands.{StandsFor}
use Rattle.simplex_repair.proofs.Terms.{term_rises}
use Rattle.simplex_repair.proofs.repair.RepairState.note_finalization.Goals as goal

pub returns : goal.returns
unfolding StandsFor first_of greatest_of notarization_held nullification_held finalization_held is_good is_failed final_view repair_floor is_final covering_nullification top_of
returns c = λ length calls s. record {
  terms = s.terms;
  some_length = s.some_length;
  top_fits = grind (arith, common_steps, s.top_fits);
  replayed = s.replayed;
  finalization = grind (arith, common_steps, s.finalization);
  floor = grind (arith, common_steps, s.finalization, s.floor);
  top = grind (arith, common_steps, s.top);
  notarized = λ view. grind (arith, common_steps, s.notarized view);
  nullified = λ view. grind (arith, common_steps, s.nullified view);
  failed = λ view. grind (arith, common_steps, s.failed view);
  good = λ view later. grind (arith, common_steps, later, s.good view, s.finalization, c.remove_below.ensures.kept view);
  notarizations = λ view later. grind (arith, common_steps, later, s.notarizations view, s.finalization, c.drop_below.ensures.kept view);
  nullifications = λ view later. grind (arith, common_steps, later, s.terms, s.nullifications view, s.finalization, term_rises length c.args.it.now.proposal.round.view view s.some_length, c.drop_below-2.ensures.kept (term_index length view), c.term_index.ensures);
}
