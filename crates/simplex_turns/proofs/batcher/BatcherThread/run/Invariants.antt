use Rattle.simplex_turns.specs.Threads.{IsSameBatcher, BatcherRuns}
use Rattle.simplex_turns.proofs.batcher.BatcherThread.run.Given as goal

-- so many turns were made
abbrev pub invariant-loop-turn : goal.invariant-loop-turn
invariant-loop-turn g l = record {
  same : IsSameBatcher l.fn.self l.self;
  runs : BatcherRuns l.fn.self l.self l.turn l.outs.items;
}
