use Rattle.std.proofs.Common.{drop}
use Rattle.model_steps.specs.Batcher.{Made, Standing}
use Rattle.simplex_batcher.specs.Stands.{IsAt}
use Rattle.simplex_batcher.proofs.Leading.{Led}
use Rattle.simplex_batcher.proofs.actor.Actor.lead_each.Given as goal

abbrev pub invariant-loop-view : goal.invariant-loop-view
invariant-loop-view g l =
    (made : Made) (standing : Standing) → IsAt l.fn.self made standing
    → Led (IsAt l.self made) made standing l.views (drop l.view-index l.views)
