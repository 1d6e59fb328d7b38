use Rattle.std.proofs.Common.{arith}
use Rattle.std.proofs.lemmas.Grind.{common_steps}
use Rattle.simplex_state.specs.Missing.{has_pair}
use Rattle.simplex_state.proofs.Pairs.{pair_at}
use Rattle.simplex_state.proofs.missing.add_pair.Goals as goal

pub returns : goal.returns
unfolding has_pair
returns c = λ p v. grind (arith, common_steps, c.in_ok-insert.ensures.updates.0 (p, v), pair_at c.args.first c.args.second (p, v))
