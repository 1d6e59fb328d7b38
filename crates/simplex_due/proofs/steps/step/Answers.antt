use Rattle.simplex_due.proofs.steps.step.Goals as goal

pub returns : goal.returns
returns g c = record {
  knows = λ made known now k. c.in_ok-take_in.ensures made known now k;
  votes = λ made known now k signs. c.due_on.ensures made _ (c.in_ok-take_in.ensures made known now k) signs;
}
