use Rattle.std.proofs.Common.{ap, rules}
use Rattle.simplex_shared.specs.Lock.{Sat}
use Rattle.simplex_shared.proofs.Keeps.{tells_at, hears_at, sees}
use Rattle.simplex_shared.proofs.Sightings.{heard}
use Rattle.simplex_shared.proofs.lock.Lock.hear.Goals as goal

pub split_seat-bearer-requires : goal.split_seat-bearer-requires
split_seat-bearer-requires g c = (search rules, search rules, tells_at g.D.Logged.log g.D.Logged.capacity g.D.Logged.caller g.D.Logged.legal _ _)

pub join_seat-requires : goal.join_seat-requires
join_seat-requires g c = (search rules, search rules, search rules, search rules, hears_at g.D.Logged.log g.D.Logged.capacity g.D.Logged.caller g.D.Logged.legal _ _ _ _ c.args.theirs.now.me.0.seen (ap (λ (m : Sat g.row.D.Denot g.row.E.Denot). m.0) c.split_seat-bearer.ensures.4))

pub load-requires : goal.load-requires
load-requires g c = (search rules, search rules, sees g.D.Logged.log g.D.Logged.capacity g.D.Logged.caller g.D.Logged.legal _ _ c.join_seat.new.seat.me)

pub returns-clause-hears : goal.returns-clause-hears
returns-clause-hears g c =
    heard g.D.Logged.log g.D.Logged.capacity g.D.Logged.caller g.D.Logged.legal c.args.mine.now.me c.join_seat.new.seat.me c.load.new.seat.me c.args.theirs.now.me.0 c.split_seat-bearer.result.me.0 c.load.result (ap (λ (m : Sat g.row.D.Denot g.row.E.Denot). m.0) c.split_seat-bearer.ensures.4) c.join_seat.ensures.2 c.load.ensures.2
