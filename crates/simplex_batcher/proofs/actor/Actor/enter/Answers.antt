use Rattle.std.proofs.Common.{refl, sym, ◌∙◌}
use Rattle.simplex_batcher.proofs.actor.Actor.enter.Goals as goal

pub returns : goal.returns
returns g c = λ made standing s. record { made_is = s.made_is; current_is = sym c.in_ok-enter.ensures.current; leader_is = refl; finalized_is = refl; hinted_is = refl; seen_is = s.seen_is; round_is = λ q. c.in_ok-enter.ensures.rounds q ∙ s.round_is q }
