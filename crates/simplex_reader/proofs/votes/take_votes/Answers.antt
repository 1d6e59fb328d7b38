use Rattle.std.proofs.Common.{List, take, subst}
use Rattle.model_audit.specs.declared.record.AuditCall.{AuditCall}
use Rattle.simplex_reader.proofs.Listing.{take-next, take-done}
use Rattle.simplex_reader.proofs.Voting.{Appends, appends_none, appends_more}
use Rattle.simplex_reader.proofs.votes.take_votes.Goals as goal

pub loop-call-init : goal.loop-call-init
loop-call-init c = appends_none c.args.known.now

pub loop-call-preserved : goal.loop-call-preserved
loop-call-preserved c =
    subst (λ (calls : List AuditCall). Appends c.args.known.now c.take_call.new.known calls)
    (take-next c.args.calls.now c.loop-call.call-index c.call-item.result c.loop-call-test.true c.call-item.is)
    (appends_more c.args.known.now c.loop-call.known c.take_call.new.known (take c.loop-call.call-index c.args.calls.now) c.call-item.result c.loop-call.invariant c.in_ok-take_call.ensures)

pub returns : goal.returns
returns c =
    subst (λ (calls : List AuditCall). Appends c.args.known.now c.loop-call.known calls)
    (take-done c.args.calls.now c.loop-call.call-index c.loop-call-test.false)
    c.loop-call.invariant
