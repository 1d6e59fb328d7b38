use Rattle.std.proofs.Common.{append_assoc}
use Rattle.simplex_wire.specs.Message.{round}
use Rattle.simplex_types.proofs.hashing.absorb_round.Goals as goal

pub returns : goal.returns
unfolding round
returns g c = λ m held. rw (← c.taken.view_is, ← append_assoc) (c.absorb_number-2.ensures _ (c.absorb_number.ensures m held))
