use Rattle.std.proofs.Common.{◌≡◌, ◌+◌, ◌++◌, length}
use Rattle.simplex_generator.specs.Unanswered.{asked_from}
use Rattle.simplex_generator.proofs.unanswered.push_asked.Given as goal

abbrev pub invariant-loop-rest : goal.invariant-loop-rest
invariant-loop-rest l = record {
  asked : l.open.items ++ asked_from l.node l.entry.event l.place l.number l.rest ≡ l.initial.open.items ++ asked_from l.node l.entry.event 0 l.first l.entry.asked;
  next : l.number + length l.rest ≡ l.first + length l.entry.asked;
  places : l.place + length l.rest ≡ length l.entry.asked;
}

abbrev pub decreases-loop-rest : goal.decreases-loop-rest
decreases-loop-rest l = length l.rest
