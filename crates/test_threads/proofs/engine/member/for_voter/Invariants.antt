use Rattle.std.specs.Prelude.{All}
use Rattle.simplex_turns.specs.Threads.{IsInTime}
use Rattle.test_threads.proofs.engine.member.for_voter.Given as goal

-- what was taken so far is in time
abbrev pub invariant-loop-item : goal.invariant-loop-item
invariant-loop-item l = All IsInTime l.voter.items
