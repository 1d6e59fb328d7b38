use Rattle.simplex_mailbox.proofs.Turns.{undrained-place}
use Rattle.simplex_mailbox.proofs.laws.place_is_forgotten.Goals as goal

pub returns : goal.returns
returns g c = λ first rest room. undrained-place _ first rest room
