use Rattle.std.proofs.Common.{refl, true, false}
use Rattle.simplex_engine.specs.Stands.{StandsFor, StandsOver}
use Rattle.simplex_engine.proofs.Limits.{keeps-limits, keeps-configured}
use Rattle.simplex_engine.proofs.Making.{made-waits}
use Rattle.simplex_engine.proofs.engine.Engine.make.Goals as goal

pub new-requires : goal.new-requires
new-requires g c = (keeps-limits c.args.config c.requires.good).some_mailbox

pub new-requires-3-clause-timeout : goal.new-requires-3-clause-timeout
new-requires-3-clause-timeout g c = rw c.in_ok-for_resolver.ensures (keeps-limits c.args.config c.requires.good).fetch_timeout

pub new-requires-3-clause-delay : goal.new-requires-3-clause-delay
new-requires-3-clause-delay g c = rw c.in_ok-for_resolver.ensures (keeps-limits c.args.config c.requires.good).fetch_retry

pub invariant_of-unstarted : goal.invariant_of-unstarted
invariant_of-unstarted g c = record {
  limits =
      rw c.into_voter.ensures
      (keeps-configured _ _ _ c.args.config c.requires.good c.requires.built c.requires.lookahead c.requires.stall);
}

pub returns-clause-stands : goal.returns-clause-stands
unfolding StandsFor
returns-clause-stands g c = λ order.
    (refl, made-waits true _ c.args.config c.in_ok-for_batcher.for_batcher c.in_ok-for_resolver.for_resolver order c.into_voter.ensures c.in_ok-for_batcher.ensures c.in_ok-for_resolver.ensures c.in_ok-batcher.ensures c.in_ok-resolver.ensures c.in_ok-boxes.ensures)

pub returns-clause-over : goal.returns-clause-over
unfolding StandsOver
returns-clause-over g c =
    (refl, made-waits false _ c.args.config c.in_ok-for_batcher.for_batcher c.in_ok-for_resolver.for_resolver tt c.into_voter.ensures c.in_ok-for_batcher.ensures c.in_ok-for_resolver.ensures c.in_ok-batcher.ensures c.in_ok-resolver.ensures c.in_ok-boxes.ensures)
