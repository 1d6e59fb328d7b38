use Rattle.std.proofs.Common.{sym, ◌∙◌}
use Rattle.simplex_case.proofs.Asking.{answered-at, answered-not}
use Rattle.simplex_case.proofs.Sending.{on-ok-two}
use Rattle.simplex_case.proofs.taking.take_answer.Goals as goal

pub returns-in-None : goal.returns-in-None
returns-in-None c =
    on-ok-two c.push.result
    (λ count marked before entry asks stand. answered-not c.args.answered.now.marks.items c.push.new.self.marks.items before c.args.event.now entry (sym c.answer_place.ensures ∙ c.in-None.is)
    count marked stand)
    c.push.ensures.count c.push.ensures.marked

pub returns-in_ok-mark-in-Some : goal.returns-in_ok-mark-in-Some
returns-in_ok-mark-in-Some c =
    on-ok-two c.push-in-Some.result
    (λ count marked before entry asks stand. answered-at c.args.answered.now.marks.items c.mark.new.self.marks.items c.push-in-Some.new.self.marks.items before c.args.event.now entry
    c.in-Some.request (sym c.answer_place.ensures ∙ c.in-Some.is) asks c.in_ok-mark-in-Some.ensures.count count c.in_ok-mark-in-Some.ensures.marked marked stand)
    c.push-in-Some.ensures.count c.push-in-Some.ensures.marked
