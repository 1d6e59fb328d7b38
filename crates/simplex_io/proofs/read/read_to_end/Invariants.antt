-- What the reading loop keeps: what it took so far is the input, and is within the limit.
use Rattle.std.proofs.Common.{◌≡◌, ◌≤◌, ◌+◌, ◌-◌, vec_len}
use Rattle.simplex_io.specs.Io.{Takes}
use Rattle.simplex_io.proofs.read.read_to_end.Given as goal

abbrev pub invariant-loop-input : goal.invariant-loop-input
invariant-loop-input g l = record {
  taken : Takes (g.S.Source.left l.initial.source) l.input.items (g.S.Source.left l.source);
  within : vec_len l.input ≤ l.limit;
  quiet : g.S.Source.fault_count l.source ≡ g.S.Source.fault_count l.initial.source;
}

abbrev pub decreases-loop-input : goal.decreases-loop-input
decreases-loop-input g l = l.limit + 1 - vec_len l.input
