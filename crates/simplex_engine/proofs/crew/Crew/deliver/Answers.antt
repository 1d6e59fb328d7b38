use Rattle.simplex_engine.proofs.Polls.{takes-refused, gives-refused, takes-heard, gives-heard}
use Rattle.simplex_engine.proofs.crew.Crew.deliver.Goals as goal

pub returns-then-is_blocked-clause-stands : goal.returns-then-is_blocked-clause-stands
returns-then-is_blocked-clause-stands g c = λ told.
    takes-refused c.args.self.now c.args.self.now _ _ _ _ _ c.if-is_blocked.true (c.is_blocked.ensures told) (λ parts h. h)

pub returns-then-is_blocked-clause-gives : goal.returns-then-is_blocked-clause-gives
returns-then-is_blocked-clause-gives g c =
    rw (c.polled.ensures, c.requires.empty) (λ told. gives-refused c.args.self.now _ _ _ _ _ c.if-is_blocked.true (c.is_blocked.ensures told))

pub returns-clause-stands : goal.returns-clause-stands
returns-clause-stands g c = λ told.
    takes-heard c.args.self.now _ _ _ _ _ _ c.if-is_blocked.false (c.is_blocked.ensures told) (c.in_ok-given.ensures.stands told)

pub returns-clause-gives : goal.returns-clause-gives
returns-clause-gives g c = λ told.
    gives-heard c.args.self.now _ _ _ _ _ _ _ c.if-is_blocked.false (c.is_blocked.ensures told) (c.in_ok-given.ensures.gives told)
