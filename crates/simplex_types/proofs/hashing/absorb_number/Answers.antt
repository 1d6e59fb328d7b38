use Rattle.std.proofs.Common.{◌≡◌, ◌++◌, ◌∷◌, [], ◌+◌, ◌%◌, append_assoc, arith}
use Rattle.simplex_wire.specs.Number.{varint}
use Rattle.simplex_wire.proofs.Numbers.{varint-small, varint-large}
use Rattle.simplex_types.proofs.hashing.absorb_number.Goals as goal

pub loop-rest-preserved : goal.loop-rest-preserved
loop-rest-preserved g c = λ m held.
    let before = c.loop-rest.invariant m held in
    let n = c.loop-rest.rest in
    (before.0 ++ (n % 128 + 128) ∷ [], rw (append_assoc, ← varint-large n c.loop-rest-test.true (omega arith)) before.1, c.update.ensures before.0 before.2)

pub returns : goal.returns
returns g c = λ m held.
    let before = c.loop-rest.invariant m held in
    let e : before.0 ++ c.loop-rest.rest ∷ [] ≡ m ++ varint c.args.number = rw (← varint-small c.loop-rest.rest (omega arith)) before.1 in
    rw (← e) (c.update-2.ensures before.0 before.2)
