use Rattle.std.proofs.Common.{rules, arith, ◌<◌, [], ◌∷◌, length, length-append, ap, Some, None, refl, inr}
use Rattle.simplex_shared.specs.Lock.{added}
use Rattle.simplex_shared.proofs.Keeps.{adds_at, leaves_at}
use Rattle.simplex_shared.proofs.Seats.{put_in, after_add, after_leave}
use Rattle.simplex_shared.proofs.lock.Lock.record_last.Goals as goal

pub fetch_add-requires : goal.fetch_add-requires
fetch_add-requires g c =
    let v = c.args.seat.now.me.0 in
    let d = c.args.value in
    let same = put_in g.D.Logged.log g.D.Logged.capacity g.D.Logged.caller g.D.Logged.legal c.args.seat.now.me c.exchange.new.seat.me (Some d) None c.exchange.ensures.3 c.requires.held.2 in
    let o = c.requires.grown in
    let longer = ap length o.1 in
    let most = c.requires.room in
    let room : length v.seen < 18446744073709551615 = omega (arith, length-append v.seen (o.0 ∷ [])) in
    (search rules, search rules, adds_at g.D.Logged.log g.D.Logged.capacity g.D.Logged.caller g.D.Logged.legal _ _ _ v d o.0 same c.requires.held.0 c.requires.held.1 o.1 o.2 room c.requires.legal)

pub fetch_add-served-requires : goal.fetch_add-served-requires
fetch_add-served-requires g c =
    let v = c.args.seat.now.me.0 in
    let d = c.args.value in
    let same = put_in g.D.Logged.log g.D.Logged.capacity g.D.Logged.caller g.D.Logged.legal c.args.seat.now.me c.exchange.new.seat.me (Some d) None c.exchange.ensures.3 c.requires.held.2 in
    let next = after_add g.D.Logged.log g.D.Logged.capacity g.D.Logged.caller g.D.Logged.legal c.fetch_add.result c.exchange.new.seat.me c.fetch_add.new.seat.me v d same c.fetch_add.ensures.2 in
    (search rules, search rules, leaves_at g.D.Logged.log g.D.Logged.capacity g.D.Logged.caller g.D.Logged.legal _ _ _ (added v (g.D.Logged.log d)) d next c.requires.held.0 (inr c.requires.held.1) refl c.requires.capacity)

pub returns-clause-added : goal.returns-clause-added
returns-clause-added g c =
    let v = c.args.seat.now.me.0 in
    let d = c.args.value in
    let same = put_in g.D.Logged.log g.D.Logged.capacity g.D.Logged.caller g.D.Logged.legal c.args.seat.now.me c.exchange.new.seat.me (Some d) None c.exchange.ensures.3 c.requires.held.2 in
    let next = after_add g.D.Logged.log g.D.Logged.capacity g.D.Logged.caller g.D.Logged.legal c.fetch_add.result c.exchange.new.seat.me c.fetch_add.new.seat.me v d same c.fetch_add.ensures.2 in
    after_leave g.D.Logged.log g.D.Logged.capacity g.D.Logged.caller g.D.Logged.legal c.fetch_add-served.result c.fetch_add.new.seat.me c.fetch_add-served.new.seat.me (added v (g.D.Logged.log d)) d next c.fetch_add-served.ensures.2
