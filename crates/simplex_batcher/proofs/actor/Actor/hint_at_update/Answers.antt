use Rattle.std.proofs.Common.{ap, sym, ◌∙◌}
use Rattle.simplex_batcher.specs.Stands.{batcher_made}
use Rattle.simplex_batcher.proofs.Cases.{update-nullified, update-own, update-active, update-inactive}
use Rattle.simplex_batcher.proofs.actor.Actor.hint_at_update.Goals as goal

pub returns-then-leader_nullified : goal.returns-then-leader_nullified
unfolding batcher_made
returns-then-leader_nullified g c = λ dirty made doing s.
    rw (update-nullified made doing c.args.leader c.args.now c.in-Enabled.timeout c.in-Enabled.budget (ap (λ m. m.skip) s.stands.made_is ∙ c.in-Enabled.is) (sym (c.leader_nullified.ensures made doing.standing s.stands) ∙ c.if-leader_nullified.true))
    (c.in_ok-hint_nullify.ensures dirty made doing s)

pub returns-then-is_me : goal.returns-then-is_me
unfolding batcher_made
returns-then-is_me g c = λ dirty made doing s.
    rw (update-own made doing c.args.leader c.args.now c.in-Enabled.timeout c.in-Enabled.budget (ap (λ m. m.skip) s.stands.made_is ∙ c.in-Enabled.is) (sym (c.leader_nullified.ensures made doing.standing s.stands) ∙ c.if-leader_nullified.false)
    (sym (c.is_me.ensures made doing.standing s.stands) ∙ c.if-is_me.true))
    s

pub returns-then-seems_active : goal.returns-then-seems_active
unfolding batcher_made
returns-then-seems_active g c = λ dirty made doing s.
    rw (update-active made doing c.args.leader c.args.now c.in-Enabled.timeout c.in-Enabled.budget (ap (λ m. m.skip) s.stands.made_is ∙ c.in-Enabled.is) (sym (c.leader_nullified.ensures made doing.standing s.stands) ∙ c.if-leader_nullified.false)
    (sym (c.is_me.ensures made doing.standing s.stands) ∙ c.if-is_me.false) (sym (c.seems_active.ensures made doing.standing s.stands) ∙ c.if-seems_active.true))
    s

pub returns : goal.returns
unfolding batcher_made
returns g c = λ dirty made doing s.
    rw (update-inactive made doing c.args.leader c.args.now c.in-Enabled.timeout c.in-Enabled.budget (ap (λ m. m.skip) s.stands.made_is ∙ c.in-Enabled.is) (sym (c.leader_nullified.ensures made doing.standing s.stands) ∙ c.if-leader_nullified.false)
    (sym (c.is_me.ensures made doing.standing s.stands) ∙ c.if-is_me.false) (sym (c.seems_active.ensures made doing.standing s.stands) ∙ c.if-seems_active.false))
    (c.in_ok-hint.ensures dirty made doing s)
