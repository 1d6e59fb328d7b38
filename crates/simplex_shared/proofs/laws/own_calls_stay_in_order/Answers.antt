use Rattle.simplex_shared.proofs.Places.{stays, grows}
use Rattle.simplex_shared.proofs.laws.own_calls_stay_in_order.Goals as goal

pub returns : goal.returns
returns g c = record { goes_on = stays; ends = grows }
