use Rattle.std.proofs.Common.{ℕ, ap, sym, refl, length, ◌∙◌}
use Rattle.simplex_shared.specs.declared.op.Op.{Op}
use Rattle.simplex_shared.specs.declared.op.Op.TheVariants.{Put}
use Rattle.simplex_shared.specs.Desk.{Recorded}
use Rattle.simplex_shared.specs.History.{is_shut}
use Rattle.simplex_shared.specs.Lock.{Sat}
use Rattle.simplex_shared.proofs.Called.{goes_on, grown_by, ends_with, sees_log, has_seen}
use Rattle.simplex_shared.proofs.mailbox.RecordedMailbox.enqueue.Goals as goal

pub returns-then-is_closed-clause-err : goal.returns-then-is_closed-clause-err
returns-then-is_closed-clause-err g c =
    let p = c.pass.inside in
    let v = p.seat.me.0 in
    let ready = c.pass.invariant.0 in
    let turn = c.take_turn-desk.ensures in
    let log = c.take_turn-desk.result.log in
    let goes = goes_on p.seat.table_id v p.number log ready.1 turn.goes_on.0 (turn.goes_on.2 ready.0) in
    let found = c.front-front.ensures in
    let seen = sees_log v log c.front-front.new.seat.me c.pass_turn.new.seat.me (found.same.1 ∙ turn.held) c.pass_turn.ensures.left in (
      has_seen c.args.pass.now p.seat.table_id v p.number log c.pass_turn.new.seat.me.0.seen c.pass.view_is goes seen,
      (
        ap is_shut seen ∙ sym c.is_closed.ensures.shut ∙ c.if-is_closed.true,
        found.front ∙ ap (λ (x : Sat (Recorded g.row.M.Denot) (Op g.row.M.Denot)). length x.0.seen) turn.held ∙ ap length (sym seen),
        refl,
      ),
    )

pub returns-in-Err-clause-err : goal.returns-in-Err-clause-err
returns-in-Err-clause-err g c =
    let p = c.pass.inside in
    let v = p.seat.me.0 in
    let ready = c.pass.invariant.0 in
    let turn = c.take_turn-desk.ensures in
    let log = c.take_turn-desk.result.log in
    let goes = goes_on p.seat.table_id v p.number log ready.1 turn.goes_on.0 (turn.goes_on.2 ready.0) in
    let seen = sees_log v log c.take_turn-desk.new.seat.me c.pass_turn-in-Err.new.seat.me turn.held c.pass_turn-in-Err.ensures.left in (
      has_seen c.args.pass.now p.seat.table_id v p.number log c.pass_turn-in-Err.new.seat.me.0.seen c.pass.view_is goes seen,
      (ap is_shut seen ∙ sym c.is_closed.ensures.shut ∙ c.if-is_closed.false, c.in-Err.ensures.err.0),
    )

pub record_last-requires-clause-grown : goal.record_last-requires-clause-grown
record_last-requires-clause-grown g c =
    let p = c.pass.inside in
    let call = Put p.number c.args.message c.in-Ok.feedback in
    grown_by p.seat.me.0 c.take_turn-desk.result.log c.put.new.self.log call c.take_turn-desk.new.seat.me c.pass.invariant.0.1 c.take_turn-desk.ensures.held c.in-Ok.ensures.ok

pub returns-clause-ok : goal.returns-clause-ok
returns-clause-ok g c =
    let p = c.pass.inside in
    let v = p.seat.me.0 in
    let ready = c.pass.invariant.0 in
    let turn = c.take_turn-desk.ensures in
    let log = c.take_turn-desk.result.log in
    let goes = goes_on p.seat.table_id v p.number log ready.1 turn.goes_on.0 (turn.goes_on.2 ready.0) in
    let call_by = λ (n : ℕ). Put n c.args.message c.in-Ok.feedback in
    ends_with c.args.pass.now p.seat.table_id v p.number log c.put.new.self.log call_by c.take_turn-desk.new.seat.me c.record_last.new.seat.me c.pass.view_is goes turn.held c.record_last.ensures.added c.in-Ok.ensures.ok
