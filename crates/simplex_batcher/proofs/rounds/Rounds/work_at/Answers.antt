use Rattle.std.proofs.Common.{◌≡◌, ◌==◌, ◌∙◌, true, false, sym, subst, Option, Some, arith}
use Rattle.std.proofs.lemmas.Grind.{common_steps}
use Rattle.std.proofs.lemmas.Bool.Decides.{nat_tests}
use Rattle.simplex_round.specs.Known as low
use Rattle.simplex_batcher.specs.Holding.{Holds}
use Rattle.simplex_batcher.specs.Working.{worked_near}
use Rattle.simplex_batcher.proofs.Apart.{apart-is, here-is}
use Rattle.simplex_batcher.proofs.Holding.{none-of, none-near}
use Rattle.simplex_batcher.proofs.rounds.Rounds.work_at.Goals as goal

pub returns-then-ne-clause-works : goal.returns-then-ne-clause-works
returns-then-ne-clause-works g c = λ made me same before doing h.
    let apart : (c.args.view == c.args.self.now.current) ≡ false = grind (arith, common_steps, nat_tests, c.ne.ensures, c.if-ne.true) in
    subst (λ (o : Option low.Standing). Holds o c.work_at.new.work c.args.view before (worked_near made c.args.view doing))
    (sym (apart-is (record c.args.self.now { others = c.work_at.new.rounds }) c.args.view apart))
    ((rw c.view.view_is at c.in_ok-work_at.ensures.works) made me same before doing
    (subst (λ (o : Option low.Standing). Holds o c.args.work.now c.args.view before doing) (apart-is c.args.self.now c.args.view apart) h))

pub returns-in-None-clause-works : goal.returns-in-None-clause-works
returns-in-None-clause-works g c = λ made me same before doing h.
    let here : (c.args.view == c.args.self.now.current) ≡ true = grind (arith, common_steps, nat_tests, c.ne.ensures, c.if-ne.false) in
    rw (none-near made c.args.view doing (none-of _ (sym (here-is c.args.self.now c.args.view here ∙ c.in-None.is) ∙ h.round_is))) h

pub returns-in_ok-work_round-in-Some-clause-works : goal.returns-in_ok-work_round-in-Some-clause-works
returns-in_ok-work_round-in-Some-clause-works g c = λ made me same before doing h.
    let here : (c.args.view == c.args.self.now.current) ≡ true = grind (arith, common_steps, nat_tests, c.ne.ensures, c.if-ne.false) in
    subst (λ (o : Option low.Standing). Holds o c.work_round.new.work c.args.view before (worked_near made c.args.view doing))
    (sym (here-is (record c.args.self.now { here = Some c.work_round.new.round }) c.args.view here))
    (c.in_ok-work_round-in-Some.ensures made me same c.args.view before doing
    (rw (c.deref_mut.ensures.value, c.kept.view_is)
    (subst (λ (o : Option low.Standing). Holds o c.args.work.now c.args.view before doing) (here-is c.args.self.now c.args.view here ∙ c.in-Some.is) h)))
