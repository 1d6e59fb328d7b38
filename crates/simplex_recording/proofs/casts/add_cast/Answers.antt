use Rattle.std.proofs.Common.{arith}
use Rattle.std.proofs.lemmas.Grind.{common_steps}
use Rattle.simplex_recording.specs.Kept.{has_cast}
use Rattle.simplex_recording.proofs.Keys.{cast_at}
use Rattle.simplex_recording.proofs.casts.add_cast.Goals as goal

pub returns-clause-ok : goal.returns-clause-ok
unfolding has_cast
returns-clause-ok c = λ view payload signer.
    grind (
      arith,
      common_steps,
      c.in_ok-insert.ensures.updates.0 (view, payload, signer),
      cast_at c.args.proposal.now.round.view c.args.proposal.now.payload c.args.by (view, payload, signer),
    )
