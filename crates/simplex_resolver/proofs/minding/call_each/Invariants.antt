use Rattle.std.proofs.Common.{◌≡◌}
use Rattle.std.specs.Vec.Iter.{into_iter_items}
use Rattle.model_resolver.specs.Resolver.{Doing}
use Rattle.simplex_resolver.specs.Stands.{work_of}
use Rattle.simplex_resolver.proofs.Leading.{Called}
use Rattle.simplex_resolver.proofs.minding.call_each.Given as goal

abbrev pub invariant-loop-out : goal.invariant-loop-out
invariant-loop-out l = (doing : Doing) → l.fn.work ≡ work_of doing → Called l.work doing l.fn.outs.items (into_iter_items l.out-iterator)
