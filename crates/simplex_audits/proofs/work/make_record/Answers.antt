use Rattle.simplex_audits.proofs.work.make_record.Goals as goal

pub returns : goal.returns
returns c = c.as_recorded.ensures c.args.bytes.now c.in_ok-answer.ensures
