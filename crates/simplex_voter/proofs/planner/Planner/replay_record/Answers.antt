use Rattle.std.proofs.Common.{sym, ◌∙◌}
use Rattle.simplex_voter.proofs.Restoring.{verdict-is, record-is}
use Rattle.simplex_voter.proofs.planner.Planner.replay_record.Goals as goal

pub returns-in_ok-restore_verdict-in-Some : goal.returns-in_ok-restore_verdict-in-Some
returns-in_ok-restore_verdict-in-Some g c = λ made answers doing s whole.
    rw (verdict-is made c.args.now doing c.args.artifact.now c.in-Some.verdict.0 c.in-Some.verdict.1 (sym c.verdict_in.ensures ∙ c.in-Some.is))
    (c.in_ok-restore_verdict-in-Some.ensures made answers doing s)

pub returns-in_ok-restore_record-in-None : goal.returns-in_ok-restore_record-in-None
returns-in_ok-restore_record-in-None g c = λ made answers doing s whole.
    rw (record-is made c.args.now doing c.args.artifact.now (sym c.verdict_in.ensures ∙ c.in-None.is))
    (c.in_ok-restore_record-in-None.ensures made answers doing s whole)
