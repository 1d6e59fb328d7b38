use Rattle.std.proofs.Common.{◌≡◌, ◌++◌, ℕ, List}
use Rattle.simplex_wire.specs.Number.{varint}
use Rattle.simplex_types.proofs.hashing.absorb_number.Given as goal

abbrev pub invariant-loop-rest : goal.invariant-loop-rest
invariant-loop-rest g l = (m : List ℕ) → g.D.Digest.holds l.fn.hasher m → (front : List ℕ) × (front ++ varint l.rest ≡ m ++ varint l.number) × g.D.Digest.holds l.hasher front

abbrev pub decreases-loop-rest : goal.decreases-loop-rest
decreases-loop-rest g l = l.rest
