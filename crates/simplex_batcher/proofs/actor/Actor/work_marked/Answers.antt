use Rattle.std.proofs.Common.{◌≡◌, ◌∙◌, ◌∷◌, ◌++◌, ap}
use Rattle.std.specs.Option.{option_to_list}
use Rattle.model_steps.specs.Batcher.{worked, worked_all}
use Rattle.simplex_batcher.proofs.actor.Actor.work_marked.Goals.{in-Some+in_ok-work, in_default}
use Rattle.simplex_batcher.proofs.actor.Actor.work_marked.Goals as goal

pub returns : goal.returns
unfolding worked_all
returns g c = λ dirty made doing s.
    elim c.match-first.branch [
      | in-Some+in_ok-work w ↦
          let all : c.args.dirty.now ≡ w.in-Some.view ∷ c.parts-first.result.1.now = c.parts-first.ensures ∙ ap (λ o. option_to_list o ++ c.parts-first.result.1.now) w.in-Some.is in
          rw all (c.in_ok-work_each.ensures dirty made (worked made w.in-Some.view doing) (rw (w.self-is, w.work-is) (w.in_ok-work.ensures dirty made doing s)))
      | in_default w ↦
          let all : c.args.dirty.now ≡ c.parts-first.result.1.now = c.parts-first.ensures ∙ ap (λ o. option_to_list o ++ c.parts-first.result.1.now) w.in_default.is in
          rw all (c.in_ok-work_each.ensures dirty made doing (rw (w.self-is, w.work-is) s))
    ]
