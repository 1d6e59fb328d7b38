use Rattle.std.proofs.Common.{◌≡◌, ap, sym, ◌∙◌, false}
use Rattle.model_steps.specs.Batcher.{has_skipping}
use Rattle.simplex_batcher.specs.Stands.{batcher_made}
use Rattle.simplex_batcher.proofs.Cases.{vote-nullified}
use Rattle.simplex_batcher.proofs.actor.Actor.hint_at_vote.Goals as goal

pub returns-in_ok-hint_nullify : goal.returns-in_ok-hint_nullify
unfolding batcher_made
returns-in_ok-hint_nullify g c = λ dirty made doing known s.
    let first : doing.standing.hinted ≡ false = s.stands.hinted_is ∙ c.if-not-self.true in
    rw (vote-nullified made doing c.args.accepted c.if-accepted.true
    (ap (λ m. has_skipping m.skip) s.stands.made_is ∙ sym c.has_skipping-is_skipping.ensures ∙ c.if-is_skipping.true)
    first
    (sym (c.is_nullified.ensures made doing.standing s.stands known) ∙ c.if-is_nullified.true))
    (c.in_ok-hint_nullify.ensures dirty made doing s)
