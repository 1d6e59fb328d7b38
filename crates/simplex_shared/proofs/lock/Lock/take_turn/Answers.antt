use Rattle.std.proofs.Common.{rules}
use Rattle.simplex_shared.proofs.Keeps.{draws_at, looks_at}
use Rattle.simplex_shared.proofs.Seats.{opened, has_slot}
use Rattle.simplex_shared.proofs.lock.Lock.take_turn.Goals as goal

pub fetch_add-ticket-requires : goal.fetch_add-ticket-requires
fetch_add-ticket-requires g c = (search rules, search rules, draws_at g.D.Logged.log g.D.Logged.capacity g.D.Logged.caller g.D.Logged.legal _ _ _ c.requires.may)

pub load-serving-requires : goal.load-serving-requires
load-serving-requires g c = (search rules, search rules, looks_at g.D.Logged.log g.D.Logged.capacity g.D.Logged.caller g.D.Logged.legal _ _ c.args.seat.now.me.0 c.fetch_add-ticket.result _ c.loop.invariant.waits)

pub exchange-requires : goal.exchange-requires
exchange-requires g c =
    let o = opened g.D.Logged.log g.D.Logged.capacity g.D.Logged.caller g.D.Logged.legal c.args.seat.now.me.0 c.fetch_add-ticket.result c.load-serving.result c.loop.seat.me c.load-serving.new.seat.me c.loop.invariant.waits c.if-serving-ticket.true c.load-serving.ensures.2 in
    (search rules, has_slot g.D.Logged.log g.D.Logged.capacity g.D.Logged.caller g.D.Logged.legal c.load-serving.new.seat.me _ o.0 o.1)
