use Rattle.std.proofs.Common.{◌≡◌, ◌<◌, ◌≤◌, [], ◌∷◌, ℕ, List, length, ap, arith, rules}
use Rattle.simplex_disk.specs.declared.segment.Segment.{Segment}
use Rattle.simplex_disk.specs.Pruning.{count_below}
use Rattle.simplex_disk.proofs.Paces.{below_first, below_none}
use Rattle.simplex_disk.proofs.pruning.sections_below.Goals as goal

pub loop-number-init : goal.loop-number-init
loop-number-init c =
    let it : c.into_iter-number-iterator.result ≡ c.args.index.now.entries = search rules in
    record { counted = omega (arith, ap (λ (es : List (ℕ × Segment)). count_below c.args.least es) it); few = omega (arith, ap length it) }

pub overflow_add-count : goal.overflow_add-count
overflow_add-count c =
    let next : c.loop-number.number-iterator ≡ (c.in-Some.number.now, c.in-Some.field-0-1.now) ∷ c.next.new.self = search rules in
    omega (arith, ap length next, c.loop-number.invariant.few, c.len-all.ensures.len)

pub returns-then-number-least : goal.returns-then-number-least
returns-then-number-least c =
    let e : ℕ × Segment = (c.in-Some.number.now, c.in-Some.field-0-1.now) in
    let next : c.loop-number.number-iterator ≡ e ∷ c.next.new.self = search rules in
    let above : c.args.least ≤ c.in-Some.number.now = omega arith in
    let none : count_below c.args.least (e ∷ c.next.new.self) ≡ 0 = below_none (e ∷ c.next.new.self) c.args.least above in
    omega (arith, ap (λ (es : List (ℕ × Segment)). count_below c.args.least es) next, none, c.loop-number.invariant.counted)

pub loop-number-preserved : goal.loop-number-preserved
loop-number-preserved c =
    let e : ℕ × Segment = (c.in-Some.number.now, c.in-Some.field-0-1.now) in
    let next : c.loop-number.number-iterator ≡ e ∷ c.next.new.self = search rules in
    let below : c.in-Some.number.now < c.args.least = omega arith in
    let more = below_first e c.next.new.self c.args.least below in
    record {
      counted = omega (arith, ap (λ (es : List (ℕ × Segment)). count_below c.args.least es) next, more, c.loop-number.invariant.counted);
      few = omega (arith, ap length next, c.loop-number.invariant.few);
    }

pub returns : goal.returns
returns c =
    let none : c.loop-number.number-iterator ≡ [] = c.in-None.ensures.steps.0 in
    omega (arith, ap (λ (es : List (ℕ × Segment)). count_below c.args.least es) none, below_none [] c.args.least tt, c.loop-number.invariant.counted)
