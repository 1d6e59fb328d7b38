use Rattle.std.proofs.Common.{arith}
use Rattle.std.proofs.lemmas.Grind.{common_steps}
use Rattle.simplex_known.specs.Proposals.{has_proposal}
use Rattle.simplex_known.proofs.Keys.{key_at}
use Rattle.simplex_known.proofs.proposals.add_proposal.Goals as goal

pub returns : goal.returns
unfolding has_proposal
returns c = λ q.
    grind (
      arith,
      common_steps,
      c.in_ok-insert.ensures.updates.0 (q.round.epoch, q.round.view, q.parent, q.payload),
      key_at c.args.p.now.round.epoch c.args.p.now.round.view c.args.p.now.parent c.args.p.now.payload (q.round.epoch, q.round.view, q.parent, q.payload),
    )
