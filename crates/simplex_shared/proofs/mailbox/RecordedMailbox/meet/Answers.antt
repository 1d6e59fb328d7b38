use Rattle.std.proofs.Common.{ap}
use Rattle.simplex_shared.specs.declared.op.Op.{Op}
use Rattle.simplex_shared.specs.Desk.{Recorded}
use Rattle.simplex_shared.specs.Lock.{Sat}
use Rattle.simplex_shared.proofs.Called.{goes_on, has_seen}
use Rattle.simplex_shared.proofs.mailbox.RecordedMailbox.meet.Goals as goal

pub returns-clause-first : goal.returns-clause-first
returns-clause-first g c =
    let p = c.first.inside in
    let v = p.seat.me.0 in
    let ready = c.first.invariant.0 in
    let heard = c.hear.ensures.hears in
    let log = heard.0 in
    let goes = goes_on p.seat.table_id v p.number log ready.1 heard.2.0 (heard.2.2 ready.0) in
    has_seen c.args.first.now p.seat.table_id v p.number log c.hear.new.mine.me.0.seen c.first.view_is goes (ap (λ (m : Sat (Recorded g.row.M.Denot) (Op g.row.M.Denot)). m.0.seen) heard.1)
