use Rattle.std.proofs.Common.{arith, rules, sym}
use Rattle.simplex_disk.proofs.Measures.{front_none, front_more, front_length, front_count}
use Rattle.simplex_disk.proofs.mending.measure.Goals as goal

pub loop-behind-init : goal.loop-behind-init
loop-behind-init c = record { front = front_none c.args.bytes.now; small = search rules }

pub loop-behind-preserved : goal.loop-behind-preserved
loop-behind-preserved c = record {
  front = front_more c.args.bytes.now c.loop-behind.rest.now c.in-Some.behind.now c.loop-behind.count c.loop-behind.invariant.front (rw c.in-Some.is at c.in_ok-behind.ensures);
  small = c.loop-behind.invariant.small;
}

pub overflow_add-count : goal.overflow_add-count
overflow_add-count c =
    let f = front_more c.args.bytes.now c.loop-behind.rest.now c.in-Some.behind.now c.loop-behind.count c.loop-behind.invariant.front (rw c.in-Some.is at c.in_ok-behind.ensures) in
    let few = front_count c.args.bytes.now c.in-Some.behind.now _ f in
    let small = c.loop-behind.invariant.small in
    omega (arith, few, small)

pub overflow_sub-len : goal.overflow_sub-len
overflow_sub-len c = omega (arith, front_length c.args.bytes.now c.loop-behind.rest.now _ c.loop-behind.invariant.front)

pub returns : goal.returns
returns c =
    let f = c.loop-behind.invariant.front in
    let size = front_length c.args.bytes.now c.loop-behind.rest.now _ f in
    (f.records, record { reads = f.reads; end = c.loop-behind.rest.now; whole = f.whole; no_more = rw c.in_default.is at c.in_ok-behind.ensures }, omega (arith, size), sym f.size)
