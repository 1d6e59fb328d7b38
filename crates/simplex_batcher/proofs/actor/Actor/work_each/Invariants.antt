use Rattle.std.proofs.Common.{drop, List, ℕ}
use Rattle.model_steps.specs.Batcher.{Made, Doing}
use Rattle.simplex_batcher.specs.Stands.{Stands}
use Rattle.simplex_batcher.proofs.Leading.{Done}
use Rattle.simplex_batcher.proofs.actor.Actor.work_each.Given as goal

abbrev pub invariant-loop-view : goal.invariant-loop-view
invariant-loop-view g l =
    (dirty : List ℕ) (made : Made) (doing : Doing)
    → Stands l.fn.self l.fn.work dirty made doing
    → Done (Stands l.self l.work dirty made) made doing l.views (drop l.view-index l.views)
