use Rattle.std.proofs.Common.{arith}
use Rattle.std.proofs.lemmas.Grind.{common_steps}
use Rattle.simplex_recording.specs.Kept.{has_pair}
use Rattle.simplex_recording.proofs.Keys.{pair_at}
use Rattle.simplex_recording.proofs.casts.add_pair.Goals as goal

pub returns-clause-ok : goal.returns-clause-ok
unfolding has_pair
returns-clause-ok c = λ view signer. grind (arith, common_steps, c.in_ok-insert.ensures.updates.0 (view, signer), pair_at c.args.of c.args.by (view, signer))
