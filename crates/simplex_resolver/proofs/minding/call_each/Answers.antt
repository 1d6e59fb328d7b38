use Rattle.std.proofs.Common.{rules}
use Rattle.std.proofs.lemmas.List.{nil_from_length}
use Rattle.std.specs.Vec.Iter.{into_iter_items}
use Rattle.simplex_resolver.proofs.Leading.{called-item, called-end}
use Rattle.simplex_resolver.proofs.minding.call_each.Goals as goal

pub loop-out-preserved : goal.loop-out-preserved
loop-out-preserved c = λ doing s.
    called-item _ _ doing c.args.outs.items _ _ c.in-Some.out c.in-Some.ensures.steps.0 c.in_ok-call.ensures (c.loop-out.invariant doing s)

pub returns : goal.returns
returns c = λ doing s.
    called-end _ doing c.args.outs.items _ (nil_from_length (into_iter_items c.loop-out.out-iterator) (search rules)) (c.loop-out.invariant doing s)
