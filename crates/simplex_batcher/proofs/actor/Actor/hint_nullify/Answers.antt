use Rattle.std.proofs.Common.{refl, true}
use Rattle.simplex_batcher.proofs.actor.Actor.hint_nullify.Goals as goal

pub returns : goal.returns
returns g c = λ dirty made doing s.
    c.in_ok-hint.ensures dirty made (record doing { standing = record doing.standing { hinted = true } })
    (record { stands = record { made_is = s.stands.made_is; current_is = s.stands.current_is; leader_is = s.stands.leader_is; finalized_is = s.stands.finalized_is; hinted_is = refl; seen_is = s.stands.seen_is; round_is = s.stands.round_is }; does = s.does; marks = s.marks })
