use Rattle.std.proofs.Common.{ℕ, List, subst}
use Rattle.model_steps.specs.Batcher.{finished, dropped, worked_all}
use Rattle.simplex_batcher.specs.Stands.{Stands}
use Rattle.simplex_batcher.proofs.actor.Actor.finish.Goals as goal

pub returns : goal.returns
unfolding finished
returns g c = λ made doing s.
    subst (λ (views : List ℕ). Stands c.drop_old.new.self c.work_marked.new.work c.args.dirty.now made (dropped made (worked_all made views doing))) s.marks
    (c.drop_old.ensures c.work_marked.new.work c.args.dirty.now made _ (c.in_ok-work_marked.ensures c.args.dirty.now made doing s))
