use Rattle.simplex_engine.proofs.crew.Crew.let_in.Goals as goal

pub returns-in-Vote-clause-stands : goal.returns-in-Vote-clause-stands
returns-in-Vote-clause-stands g c = rw c.in-Vote.is c.hear_vote.ensures.stands

pub returns-in-Vote-clause-gives : goal.returns-in-Vote-clause-gives
returns-in-Vote-clause-gives g c = rw c.in-Vote.is c.hear_vote.ensures.gives

pub returns-in-Certificate-clause-stands : goal.returns-in-Certificate-clause-stands
returns-in-Certificate-clause-stands g c = rw c.in-Certificate.is c.hear_certificate.ensures.stands

pub returns-in-Certificate-clause-gives : goal.returns-in-Certificate-clause-gives
returns-in-Certificate-clause-gives g c = rw c.in-Certificate.is c.hear_certificate.ensures.gives

pub returns-in-Resolver-clause-stands : goal.returns-in-Resolver-clause-stands
returns-in-Resolver-clause-stands g c = rw c.in-Resolver.is c.hear_resolver.ensures.stands

pub returns-in-Resolver-clause-gives : goal.returns-in-Resolver-clause-gives
returns-in-Resolver-clause-gives g c = rw c.in-Resolver.is c.hear_resolver.ensures.gives
