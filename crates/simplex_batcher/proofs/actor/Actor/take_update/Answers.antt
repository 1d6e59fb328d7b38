use Rattle.std.proofs.Common.{◌∷◌, ◌∙◌, ap}
use Rattle.model_steps.specs.Batcher.{took_update, with_leader, window_views}
use Rattle.simplex_batcher.specs.Working.{entered}
use Rattle.simplex_batcher.proofs.actor.Actor.take_update.Goals as goal

pub returns : goal.returns
unfolding took_update
returns g c = λ made doing s.
    let start = entered c.args.current c.args.leader c.args.finalized doing.standing in
    let at = c.in_ok-enter.ensures made doing.standing s.stands in
    let led = c.in_ok-window.ensures.stands made start at in
    let views = c.in_ok-window.ensures.views made start at in
    let marked = record doing { standing = with_leader made start; dirty = c.args.current ∷ window_views made (with_leader made start) } in
    let marks = c.in_ok-dirty.ensures ∙ ap (λ xs. c.args.current ∷ xs) (c.deref.ensures.value ∙ views) in
    c.in_ok-forward.ensures _ made _ (c.in_ok-hint_at_update.ensures _ made marked (record { stands = led; does = s.does; marks = marks }))
