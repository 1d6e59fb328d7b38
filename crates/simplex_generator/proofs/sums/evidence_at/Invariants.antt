use Rattle.std.proofs.Common.{◌≡◌, ◌+◌, ◌≤◌, length}
use Rattle.std.specs.Prelude.{filter}
use Rattle.simplex_generator.specs.Summary.{is_evidence}
use Rattle.simplex_generator.proofs.sums.evidence_at.Given as goal

abbrev pub invariant-loop-rest : goal.invariant-loop-rest
invariant-loop-rest l = record {
  count : l.count + length (filter is_evidence l.rest) ≡ length (filter is_evidence l.entry.calls);
  few : l.count + length l.rest ≤ length l.entry.calls;
}

abbrev pub decreases-loop-rest : goal.decreases-loop-rest
decreases-loop-rest l = length l.rest
