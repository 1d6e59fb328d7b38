use Rattle.std.proofs.Common.{refl}
use Rattle.simplex_engine.proofs.Polls.{takes-answer, answers-whether, stays-same}
use Rattle.simplex_engine.proofs.crew.Crew.reply.Goals as goal

pub returns-then-answer-clause-stands : goal.returns-then-answer-clause-stands
returns-then-answer-clause-stands g c = λ told now. takes-answer _ _ _ _ now (c.answer.ensures.stands c.if-answer.true told)

pub returns-then-answer-clause-accepted : goal.returns-then-answer-clause-accepted
returns-then-answer-clause-accepted g c = λ told. answers-whether _ _ _ _ _ c.if-answer.true (c.answer.ensures.taken told)

pub returns-else-answer-clause-refused : goal.returns-else-answer-clause-refused
returns-else-answer-clause-refused g c =
    (refl, (λ told. answers-whether _ _ _ _ _ c.if-answer.false (c.answer.ensures.taken told)), (λ told. stays-same _ _ (c.answer.ensures.stays c.if-answer.false told)), c.answer.ensures.journal)
