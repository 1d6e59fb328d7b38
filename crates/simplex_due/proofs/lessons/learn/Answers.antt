use Rattle.std.proofs.Common.{sym, subst}
use Rattle.std.proofs.lemmas.Result.{on_ok_weaker}
use Rattle.simplex_known.specs.Knows.{Learns}
use Rattle.simplex_due.specs.declared.lessons.Lesson.{Lesson}
use Rattle.simplex_due.specs.Due.{fact_of}
use Rattle.simplex_due.proofs.lessons.learn.Goals as goal

pub returns-in-Taken : goal.returns-in-Taken
returns-in-Taken c =
    on_ok_weaker c.take_proposal.result
    (λ did now. subst (λ (lesson : Lesson). Learns c.args.known.now c.take_proposal.new.self (fact_of now lesson)) (sym c.in-Taken.is) did)
    c.take_proposal.ensures

pub returns-in-Answered : goal.returns-in-Answered
returns-in-Answered c =
    on_ok_weaker c.answer_proposal.result
    (λ did now. subst (λ (lesson : Lesson). Learns c.args.known.now c.answer_proposal.new.self (fact_of now lesson)) (sym c.in-Answered.is) did)
    c.answer_proposal.ensures

pub returns-in-Approved : goal.returns-in-Approved
returns-in-Approved c =
    on_ok_weaker c.approve.result
    (λ did now. subst (λ (lesson : Lesson). Learns c.args.known.now c.approve.new.self (fact_of now lesson)) (sym c.in-Approved.is) did)
    c.approve.ensures

pub returns-in-Judged : goal.returns-in-Judged
returns-in-Judged c =
    on_ok_weaker c.judge.result
    (λ did now. subst (λ (lesson : Lesson). Learns c.args.known.now c.judge.new.self (fact_of now lesson)) (sym c.in-Judged.is) (did now))
    c.judge.ensures
