use Rattle.std.proofs.Common.{sym, ap, ◌∙◌}
use Rattle.model_audit.specs.Taking.{learned}
use Rattle.simplex_due.specs.Due.{votes_in}
use Rattle.simplex_due.proofs.Giving.{again, first, unsigned}
use Rattle.simplex_due.proofs.steps.at_deadline.Goals as goal

pub returns-then-gave_up : goal.returns-then-gave_up
unfolding learned
returns-then-gave_up g c = record {
  knows = λ made known now k. c.in_ok-add_all.ensures made known now k;
  votes = λ made known now k signs.
      ap votes_in c.of_nullify.ensures
      ∙ again made known now c.args.added.now c.current-view.result c.nullify_at-nullify.result
      (c.current-view.ensures made known k)
      (c.nullify_at-nullify.ensures made known k signs)
      (sym (c.has_nullified-gave_up.ensures made known k) ∙ c.if-gave_up.true);
}

pub returns-in-None : goal.returns-in-None
unfolding learned
returns-in-None g c = record {
  knows = λ made known now k. c.in_ok-add_all.ensures made known now k;
  votes = λ made known now k signs.
      c.due_on.ensures made _ (c.in_ok-add_all.ensures made known now k) signs
      ∙ unsigned made known now c.args.added.now c.current-view.result c.nullify_at-nullify.result
      (c.current-view.ensures made known k)
      (c.nullify_at-nullify.ensures made known k signs)
      (sym (c.has_nullified-gave_up.ensures made known k) ∙ c.if-gave_up.false)
      c.in-None.is;
}

pub returns-in-Some : goal.returns-in-Some
unfolding learned
returns-in-Some g c = record {
  knows = λ made known now k. c.in_ok-add_all.ensures made known now k;
  votes = λ made known now k signs.
      ap votes_in c.of_nullify-in-Some.ensures
      ∙ first made known now c.args.added.now c.current-view.result c.nullify_at-nullify.result c.in-Some.field-0
      (c.current-view.ensures made known k)
      (c.nullify_at-nullify.ensures made known k signs)
      (sym (c.has_nullified-gave_up.ensures made known k) ∙ c.if-gave_up.false)
      c.in-Some.is;
}
