use Rattle.std.proofs.Common.{take}
use Rattle.simplex_reader.proofs.Voting.{Appends}
use Rattle.simplex_reader.proofs.votes.take_votes.Given as goal

abbrev pub invariant-loop-call : goal.invariant-loop-call
invariant-loop-call l = Appends l.initial.known l.known (take l.call-index l.calls)
