use Rattle.std.proofs.Common.{ℕ}
use Rattle.simplex_shared.specs.declared.op.Op.TheVariants.{Took}
use Rattle.simplex_shared.proofs.Called.{goes_on, grown_by, ends_with, sees_log, has_seen}
use Rattle.simplex_shared.proofs.mailbox.RecordedMailbox.recv.Goals as goal

pub returns-in_default-clause-err : goal.returns-in_default-clause-err
returns-in_default-clause-err g c =
    let p = c.pass.inside in
    let v = p.seat.me.0 in
    let ready = c.pass.invariant.0 in
    let turn = c.take_turn-desk.ensures in
    let log = c.take_turn-desk.result.log in
    let goes = goes_on p.seat.table_id v p.number log ready.1 turn.goes_on.0 (turn.goes_on.2 ready.0) in
    has_seen c.args.pass.now p.seat.table_id v p.number log c.pass_turn.new.seat.me.0.seen c.pass.view_is goes (sees_log v log c.take_turn-desk.new.seat.me c.pass_turn.new.seat.me turn.held c.pass_turn.ensures.left)

pub record_last-requires-clause-grown : goal.record_last-requires-clause-grown
record_last-requires-clause-grown g c =
    let p = c.pass.inside in
    let call = Took p.number c.in-Ok.got in
    grown_by p.seat.me.0 c.take_turn-desk.result.log c.take.new.self.log call c.take_turn-desk.new.seat.me c.pass.invariant.0.1 c.take_turn-desk.ensures.held c.in-Ok.ensures.ok

pub returns-clause-ok : goal.returns-clause-ok
returns-clause-ok g c =
    let p = c.pass.inside in
    let v = p.seat.me.0 in
    let ready = c.pass.invariant.0 in
    let turn = c.take_turn-desk.ensures in
    let log = c.take_turn-desk.result.log in
    let goes = goes_on p.seat.table_id v p.number log ready.1 turn.goes_on.0 (turn.goes_on.2 ready.0) in
    let call_by = λ (n : ℕ). Took n c.in-Ok.got in
    ends_with c.args.pass.now p.seat.table_id v p.number log c.take.new.self.log call_by c.take_turn-desk.new.seat.me c.record_last.new.seat.me c.pass.view_is goes turn.held c.record_last.ensures.added c.in-Ok.ensures.ok
