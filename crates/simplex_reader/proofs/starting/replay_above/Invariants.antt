use Rattle.std.proofs.Common.{take}
use Rattle.simplex_reader.specs.Starting.{Replays}
use Rattle.simplex_reader.proofs.starting.replay_above.Given as goal

abbrev pub invariant-loop-artifact : goal.invariant-loop-artifact
invariant-loop-artifact l = Replays l.initial.known l.known l.floor (take l.artifact-index l.records)
