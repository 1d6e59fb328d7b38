use Rattle.std.proofs.Common.{append_assoc}
use Rattle.simplex_wire.specs.Message.{proposal}
use Rattle.simplex_types.proofs.hashing.absorb_proposal.Goals as goal

pub returns : goal.returns
unfolding proposal
returns g c = λ m held. rw (← c.taken.view_is, ← append_assoc, ← append_assoc) (c.update.ensures _ (c.absorb_number.ensures _ (c.absorb_round.ensures m held)))
