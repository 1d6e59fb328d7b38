use Rattle.std.proofs.Common.{rules}
use Rattle.simplex_shared.proofs.Keeps.{sees}
use Rattle.simplex_shared.proofs.Sightings.{fronted}
use Rattle.simplex_shared.proofs.lock.Lock.front.Goals as goal

pub load-requires : goal.load-requires
load-requires g c = (search rules, search rules, sees g.D.Logged.log g.D.Logged.capacity g.D.Logged.caller g.D.Logged.legal _ _ c.args.seat.now.me)

pub returns-clause-same : goal.returns-clause-same
returns-clause-same g c =
    let saw = fronted g.D.Logged.log g.D.Logged.capacity g.D.Logged.caller g.D.Logged.legal c.args.seat.now.me c.load.new.seat.me c.load.result c.requires.held.0 c.requires.held.1 c.load.ensures.2 in
    (c.load.ensures.0, saw.0)

pub returns-clause-front : goal.returns-clause-front
returns-clause-front g c =
    (fronted g.D.Logged.log g.D.Logged.capacity g.D.Logged.caller g.D.Logged.legal c.args.seat.now.me c.load.new.seat.me c.load.result c.requires.held.0 c.requires.held.1 c.load.ensures.2).1
