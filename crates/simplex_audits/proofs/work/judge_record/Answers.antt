use Rattle.simplex_audits.proofs.work.judge_record.Goals as goal

pub returns : goal.returns
returns c = c.as_checked.ensures c.args.bytes.now c.in_ok-answer.ensures
