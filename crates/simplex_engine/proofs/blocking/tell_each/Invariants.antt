use Rattle.std.proofs.Common.{◌++◌, List, map, reverse, take}
use Rattle.model_resolver.specs.Resolver.{Made, Given, Blocked}
use Rattle.simplex_resolver.specs.Stands.{StandsFor}
use Rattle.simplex_engine.proofs.blocking.tell_each.Given as goal

abbrev pub invariant-loop-member : goal.invariant-loop-member
invariant-loop-member g l =
    (made : Made) (past : List Given) → StandsFor l.fn.resolver made past
    → StandsFor l.resolver made (reverse (map (λ member. Blocked member) (take l.member-index l.members)) ++ past)
