use Rattle.std.proofs.Common.{◌≡◌, Some, sym, rules, arith}
use Rattle.simplex_disk.specs.Chain.{taken}
use Rattle.simplex_disk.proofs.Measures.{front_absent, front_other, front_broken, front_whole}
use Rattle.simplex_disk.proofs.mending.take_open.Goals as goal

pub returns-in_default : goal.returns-in_default
returns-in_default c = front_absent c.args.bytes.now (sym (rw c.in_default.is at c.first.ensures.value))

pub returns-then-gate-ne1 : goal.returns-then-gate-ne1
returns-then-gate-ne1 c = front_other c.args.bytes.now c.in-Some.gate.now (sym (rw c.in-Some.is at c.first.ensures.value)) c.if-gate-ne1.true

pub returns-in_default-2 : goal.returns-in_default-2
returns-in_default-2 c =
    front_broken c.args.bytes.now c.in-Some.gate.now (sym (rw c.in-Some.is at c.first.ensures.value)) c.if-gate-ne1.false (sym (rw c.in_default-2.is at c.in_ok-artifact.ensures))

pub returns : goal.returns
returns c =
    let some : taken c.args.bytes.now ≡ Some (c.in-Some-2.artifact, c.in-Some-2.behind.now) = search rules in
    front_whole c.args.bytes.now c.in-Some.gate.now c.in-Some-2.artifact c.in-Some-2.behind.now (λ i. omega (arith, c.type_inv.bytes i)) (sym (rw c.in-Some.is at c.first.ensures.value)) c.if-gate-ne1.false some
