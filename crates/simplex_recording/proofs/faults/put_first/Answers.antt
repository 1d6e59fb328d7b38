use Rattle.std.proofs.Common.{arith}
use Rattle.std.proofs.lemmas.Grind.{common_steps}
use Rattle.simplex_recording.specs.Kept.{evidence_in}
use Rattle.simplex_recording.proofs.Keys.{pair_at}
use Rattle.simplex_recording.proofs.faults.put_first.Goals as goal

pub returns-clause-ok : goal.returns-clause-ok
unfolding evidence_in
returns-clause-ok c = λ v m. grind (arith, common_steps, c.in_ok-insert.ensures.updates.0 (v, m), pair_at c.args.view c.args.member (v, m))
