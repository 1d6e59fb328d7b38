use Rattle.std.specs.Vec.Iter.{into_iter_items}
use Rattle.model_resolver.specs.Resolver.{Made, Doing}
use Rattle.simplex_resolver.specs.Stands.{Stands}
use Rattle.simplex_resolver.proofs.Leading.{Minded}
use Rattle.simplex_resolver.proofs.actor.Actor.mind_each.Given as goal

abbrev pub invariant-loop-out : goal.invariant-loop-out
invariant-loop-out g l =
    (made : Made) (doing : Doing)
    → Stands l.fn.self l.fn.work made doing
    → Minded (Stands l.self l.work made) doing l.fn.outs.items (into_iter_items l.out-iterator)
