use Rattle.std.proofs.Common.{sym, ◌∙◌}
use Rattle.simplex_voter.proofs.Answered.{answered-so, answered-not, takes-said}
use Rattle.simplex_voter.proofs.planner.Planner.answer.Goals as goal

pub returns-then-takes-clause-stands : goal.returns-then-takes-clause-stands
returns-then-takes-clause-stands g c = λ made answers desk s.
    let takes = sym (takes-said c.args.request c.args.answer s) ∙ sym c.takes.ensures ∙ c.if-takes.true in
    rw (answered-so c.args.request c.args.answer (record { desk = desk; answers = answers }) takes) (c.keep_answer.ensures made answers desk s)

pub returns-then-takes-clause-answer : goal.returns-then-takes-clause-answer
returns-then-takes-clause-answer g c = λ made answers desk s. sym (sym (takes-said c.args.request c.args.answer s) ∙ sym c.takes.ensures ∙ c.if-takes.true)

pub returns-clause-stands : goal.returns-clause-stands
returns-clause-stands g c = λ made answers desk s.
    let takes = sym (takes-said c.args.request c.args.answer s) ∙ sym c.takes.ensures ∙ c.if-takes.false in
    rw (answered-not c.args.request c.args.answer (record { desk = desk; answers = answers }) takes) s

pub returns-clause-answer : goal.returns-clause-answer
returns-clause-answer g c = λ made answers desk s. sym (sym (takes-said c.args.request c.args.answer s) ∙ sym c.takes.ensures ∙ c.if-takes.false)
