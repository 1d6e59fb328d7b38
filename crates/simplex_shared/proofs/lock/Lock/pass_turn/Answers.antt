use Rattle.std.proofs.Common.{rules, Some, None, inr}
use Rattle.simplex_shared.proofs.Keeps.{leaves_at}
use Rattle.simplex_shared.proofs.Seats.{put_in, after_leave}
use Rattle.simplex_shared.proofs.lock.Lock.pass_turn.Goals as goal

pub fetch_add-served-requires : goal.fetch_add-served-requires
fetch_add-served-requires g c =
    let d = c.args.value in
    let same = put_in g.D.Logged.log g.D.Logged.capacity g.D.Logged.caller g.D.Logged.legal c.args.seat.now.me c.exchange.new.seat.me (Some d) None c.exchange.ensures.3 c.requires.held.2 in
    (search rules, search rules, leaves_at g.D.Logged.log g.D.Logged.capacity g.D.Logged.caller g.D.Logged.legal _ _ _ c.args.seat.now.me.0 d same c.requires.held.0 (inr c.requires.held.1) c.requires.same c.requires.capacity)

pub returns-clause-left : goal.returns-clause-left
returns-clause-left g c =
    let d = c.args.value in
    let same = put_in g.D.Logged.log g.D.Logged.capacity g.D.Logged.caller g.D.Logged.legal c.args.seat.now.me c.exchange.new.seat.me (Some d) None c.exchange.ensures.3 c.requires.held.2 in
    after_leave g.D.Logged.log g.D.Logged.capacity g.D.Logged.caller g.D.Logged.legal c.fetch_add-served.result c.exchange.new.seat.me c.fetch_add-served.new.seat.me c.args.seat.now.me.0 d same c.fetch_add-served.ensures.2
