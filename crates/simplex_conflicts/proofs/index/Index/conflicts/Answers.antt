use Rattle.simplex_conflicts.proofs.Asking.{notarize_asked, finalize_asked}
use Rattle.simplex_conflicts.proofs.Tests.{by_first, by_second}
use Rattle.simplex_conflicts.proofs.index.Index.conflicts.Goals as goal

pub returns-then-has_rival : goal.returns-then-has_rival
returns-then-has_rival c = λ known knows.
    by_first _ _ _ _ (notarize_asked c.args.self.now.length c.args.subject.now c.in-Notarize.p known c.in-Notarize.is)
    (c.has_rival.ensures known knows) c.if-has_rival.true

pub returns-else-has_rival : goal.returns-else-has_rival
returns-else-has_rival c = λ known knows.
    by_second c.has_rival.result _ _ _ _ (notarize_asked c.args.self.now.length c.args.subject.now c.in-Notarize.p known c.in-Notarize.is)
    (c.has_rival.ensures known knows) c.if-has_rival.false (c.has_final_between.ensures known knows)

pub returns-then-is_challenged : goal.returns-then-is_challenged
returns-then-is_challenged c = λ known knows.
    by_first _ _ _ _ (finalize_asked c.args.self.now.length c.args.subject.now c.in-Finalize.p known c.in-Finalize.is)
    (c.is_challenged.ensures known knows) c.if-is_challenged.true

pub returns-else-is_challenged : goal.returns-else-is_challenged
returns-else-is_challenged c = λ known knows.
    by_second c.is_challenged.result _ _ _ _ (finalize_asked c.args.self.now.length c.args.subject.now c.in-Finalize.p known c.in-Finalize.is)
    (c.is_challenged.ensures known knows) c.if-is_challenged.false (c.is_ruled_out.ensures known knows)
