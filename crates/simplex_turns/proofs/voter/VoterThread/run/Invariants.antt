use Rattle.std.proofs.Common.{◌<◌, ◌^◌, All}
use Rattle.simplex_turns.specs.Threads.{IsInTime}
use Rattle.simplex_turns.proofs.VotingTurns.{Ran}
use Rattle.simplex_turns.proofs.voter.VoterThread.run.Given as goal

abbrev pub invariant-loop-turn : goal.invariant-loop-turn
invariant-loop-turn g l = ((l.self.now < 2 ^ 63) × All IsInTime l.self.feed.items) × Ran l.initial.self l.self l.turn l.outs.items
