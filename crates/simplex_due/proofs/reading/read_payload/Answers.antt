use Rattle.std.proofs.Common.{arith}
use Rattle.std.proofs.lemmas.Grind.{common_steps}
use Rattle.model_audit.specs.Taking.{learned, touched}
use Rattle.simplex_due.proofs.reading.read_payload.Goals as goal

pub returns-in-None : goal.returns-in-None
unfolding learned touched
returns-in-None c = record {
  prepared = record {
    learns = λ made known now k. grind (arith, common_steps, c.in-None.ensures made known k);
    touches = λ made known k. grind (arith, common_steps, c.in-None.ensures made known k);
  };
  proposed = record {
    learns = λ made known now k. grind (arith, common_steps, c.in-None.ensures made known k);
    touches = λ made known k. grind (arith, common_steps, c.in-None.ensures made known k);
  };
}

pub returns-then-not-records_answer : goal.returns-then-not-records_answer
unfolding learned touched
returns-then-not-records_answer c = record {
  prepared = record {
    learns = λ made known now k. grind (arith, common_steps, c.in-Some.ensures made known k, c.records_answer.ensures made known k);
    touches = λ made known k. grind (arith, common_steps, c.in-Some.ensures made known k, c.records_answer.ensures made known k);
  };
  proposed = record {
    learns = λ made known now k. grind (arith, common_steps, c.in-Some.ensures made known k, c.records_answer.ensures made known k);
    touches = λ made known k. grind (arith, common_steps, c.in-Some.ensures made known k, c.records_answer.ensures made known k);
  };
}

pub returns-else-not-records_answer : goal.returns-else-not-records_answer
unfolding learned touched
returns-else-not-records_answer c = record {
  prepared = record {
    learns = λ made known now k. grind (arith, common_steps, c.in-Some.ensures made known k, c.records_answer.ensures made known k);
    touches = λ made known k. grind (arith, common_steps, c.in-Some.ensures made known k, c.records_answer.ensures made known k);
  };
  proposed = record {
    learns = λ made known now k. grind (arith, common_steps, c.in-Some.ensures made known k, c.records_answer.ensures made known k);
    touches = λ made known k. grind (arith, common_steps, c.in-Some.ensures made known k, c.records_answer.ensures made known k);
  };
}
