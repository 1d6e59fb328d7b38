use Rattle.std.proofs.Common.{sym, ◌∙◌, arith}
use Rattle.model_audit.specs.Rebuilt.{rebuilt}
use Rattle.simplex_case.proofs.Desks.{desks-own, desks-none, desk-seated, node-half, owner-exists, owned}
use Rattle.simplex_case.proofs.taking.take_at_desk.Goals as goal

pub returns-in_ok-take-in-Some-clause-stand : goal.returns-in_ok-take-in-Some-clause-stand
returns-in_ok-take-in-Some-clause-stand c =
    λ before counted seats of stand.
    rw c.seat_of-seat.ensures
    (desks-own c.args.desks.now.items before (rebuilt c.args.event.now c.args.entry.now) c.in-Some.node c.take.new.self (node-half c.args.setup.now c.in-Some.node (sym c.if-is_node.ensures))
    (sym c.in-Some.ensures) stand
    (c.in_ok-take-in-Some.ensures before c.in-Some.node counted (owned c.args.event.now c.in-Some.node (sym c.in-Some.ensures))
    (desk-seated c.args.desks.now.items before c.args.setup.now c.in-Some.node c.seat_of-seat.result _ c.seat_of-seat.ensures stand (sym c.if-is_node.ensures)
    (omega (arith, c.if-seat-len.true, c.len.ensures)) c.index_mut.ensures.value)))

pub returns-in-Some-2-clause-stand : goal.returns-in-Some-2-clause-stand
returns-in-Some-2-clause-stand c =
    λ before counted seats of stand. absurd (cc (c.if-is_node.ensures ∙ owner-exists c.args.setup.now c.args.event.now c.in-Some.node of (sym c.in-Some.ensures)))

pub returns-in-Some-2-2-clause-stand : goal.returns-in-Some-2-2-clause-stand
returns-in-Some-2-2-clause-stand c =
    λ before counted seats of stand. desks-none c.args.desks.now.items before (rebuilt c.args.event.now c.args.entry.now) (sym c.in-Some-2.ensures) stand
