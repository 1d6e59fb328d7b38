use Rattle.simplex_program.proofs.Causes.{told_answer, small_after_writing, bad_input_read, refused_read, run_read, untaken_words, number_answered, number_summed}
use Rattle.simplex_program.proofs.front.program.Goals as goal

pub returns-clause-answer : goal.returns-clause-answer
returns-clause-answer g c = told_answer _ _ _ _ _ _ _ _ _ _ c.decide-decision.ensures.cause c.tell.ensures.whole

pub returns-clause-within : goal.returns-clause-within
returns-clause-within g c = small_after_writing _ _ _ _ _ _ _ _ _ _ c.decide-decision.ensures.cause c.tell.ensures.whole

pub returns-clause-words : goal.returns-clause-words
returns-clause-words g c = untaken_words _ _ _ _ _ _ _ _ _ _ c.decide-decision.ensures.cause c.tell.ensures.whole

pub returns-clause-bad_input : goal.returns-clause-bad_input
returns-clause-bad_input g c = bad_input_read _ _ _ _ _ _ _ _ _ _ c.decide-decision.ensures.cause c.tell.ensures.whole

pub returns-clause-refused : goal.returns-clause-refused
returns-clause-refused g c = refused_read _ _ _ _ _ _ _ _ _ _ c.decide-decision.ensures.cause c.tell.ensures.whole

pub returns-clause-done : goal.returns-clause-done
returns-clause-done g c = run_read _ _ _ _ _ _ _ _ _ c.decide-decision.ensures.whole c.tell.ensures.whole

pub returns-clause-generates : goal.returns-clause-generates
returns-clause-generates g c = number_answered _ _ _ _ _ _ _ _ _ _ c.decide-decision.ensures.cause c.tell.ensures.whole

pub returns-clause-summed : goal.returns-clause-summed
returns-clause-summed g c = number_summed _ _ _ _ _ _ _ c.decide-decision.ensures.generated c.tell.ensures.whole
