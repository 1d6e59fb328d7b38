use Rattle.simplex_shared.proofs.Small.{four_are_legal, no_put_behind_a_shut, none_invented, none_forgotten}
use Rattle.std.proofs.Common.{refl}
use Rattle.simplex_shared.proofs.samples.small_histories.Goals as goal

pub returns : goal.returns
returns c = record {
  legal = four_are_legal;
  shut = refl;
  calls = refl;
  places = refl;
  put_behind_a_shut = no_put_behind_a_shut;
  invented = none_invented;
  forgotten = none_forgotten;
}
