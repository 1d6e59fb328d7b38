use Rattle.std.proofs.Common.{sym, subst}
use Rattle.model_rules.specs.declared.request.Asked.{Asked}
use Rattle.model_audit.specs.Taking.{Reply}
use Rattle.simplex_due.specs.Due.{Reads}
use Rattle.simplex_due.proofs.reading.read_answer.Goals as goal

pub returns-in-Prepare : goal.returns-in-Prepare
returns-in-Prepare c =
    subst (λ (asked : Asked). Reads c.args.known.now (Reply asked c.args.answer.now) c.read_payload.result)
    (sym c.in-Prepare.is) c.read_payload.ensures.prepared

pub returns-in-Propose : goal.returns-in-Propose
returns-in-Propose c =
    subst (λ (asked : Asked). Reads c.args.known.now (Reply asked c.args.answer.now) c.read_payload-in-Propose.result)
    (sym c.in-Propose.is) c.read_payload-in-Propose.ensures.proposed

pub returns-in-Verify : goal.returns-in-Verify
returns-in-Verify c =
    subst (λ (asked : Asked). Reads c.args.known.now (Reply asked c.args.answer.now) c.read_check.result)
    (sym c.in-Verify.is) c.read_check.ensures

pub returns-in-Certify : goal.returns-in-Certify
returns-in-Certify c =
    subst (λ (asked : Asked). Reads c.args.known.now (Reply asked c.args.answer.now) c.read_verdict.result)
    (sym c.in-Certify.is) c.read_verdict.ensures
