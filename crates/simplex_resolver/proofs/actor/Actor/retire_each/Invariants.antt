use Rattle.std.proofs.Common.{drop}
use Rattle.model_resolver.specs.Resolver.{Made, Doing}
use Rattle.simplex_resolver.specs.Stands.{Stands}
use Rattle.simplex_resolver.proofs.Leading.{Retired}
use Rattle.simplex_resolver.proofs.actor.Actor.retire_each.Given as goal

abbrev pub invariant-loop-retire : goal.invariant-loop-retire
invariant-loop-retire g l =
    (made : Made) (doing : Doing)
    → Stands l.fn.self l.fn.work made doing
    → Retired (Stands l.self l.work made) doing l.retires (drop l.retire-index l.retires)
