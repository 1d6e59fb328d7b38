use Rattle.simplex_turns.specs.Threads.{IsSameResolver, ResolverRuns}
use Rattle.simplex_turns.proofs.resolver.ResolverThread.run.Given as goal

-- so many turns were made
abbrev pub invariant-loop-turn : goal.invariant-loop-turn
invariant-loop-turn g l = record {
  same : IsSameResolver l.fn.self l.self;
  runs : ResolverRuns l.fn.self l.self l.turn l.outs.items;
}
