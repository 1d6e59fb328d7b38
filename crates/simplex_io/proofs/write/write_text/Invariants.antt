-- What the writing loop keeps: what was written so far and the rest make up the whole.
use Rattle.std.proofs.Common.{◌≡◌, ◌++◌, List, ℕ, length}
use Rattle.simplex_io.specs.Io.{Adds}
use Rattle.simplex_io.proofs.write.write_text.Given as goal

abbrev pub invariant-loop-rest : goal.invariant-loop-rest
invariant-loop-rest g l = record {
  part : (part : List ℕ) × (l.bytes ≡ part ++ l.rest) × Adds (g.K.Sink.written l.initial.sink) part (g.K.Sink.written l.sink);
  quiet : g.K.Sink.fault_count l.sink ≡ g.K.Sink.fault_count l.initial.sink;
}

abbrev pub decreases-loop-rest : goal.decreases-loop-rest
decreases-loop-rest g l = length l.rest
