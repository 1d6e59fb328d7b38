use Rattle.std.proofs.Common.{◌∙◌, arith}
use Rattle.simplex_turns.proofs.VotingTurns.{ran-none, ran-more, ran-broken, ran-all, same-all}
use Rattle.simplex_turns.proofs.voter.VoterThread.run.Goals as goal

pub loop-turn-init : goal.loop-turn-init
loop-turn-init g c = (c.requires.clock, rw c.new-outs.ensures.items (ran-none _))

pub turn-requires-clause-own : goal.turn-requires-clause-own
turn-requires-clause-own g c =
    let same = c.loop-turn.invariant.1.same in
    (same.own.0 ∙ c.requires.own.0, same.batcher.0 ∙ c.requires.own.1, same.resolver.0 ∙ c.requires.own.2)

pub loop-turn-preserved : goal.loop-turn-preserved
loop-turn-preserved g c = (
  c.in_ok-outcome.ensures.clock,
  rw c.in_ok-push.ensures.items (ran-more _ _ _ _ _ _ _ c.loop-turn.invariant.1 c.in_ok-outcome.ensures.same c.in_ok-outcome.ensures.turns c.in_default.not-Journal),
)

pub returns-in-Journal-clause-same : goal.returns-in-Journal-clause-same
returns-in-Journal-clause-same g c = same-all _ _ _ _ _ _ _ c.loop-turn.invariant.1 c.in_ok-outcome.ensures.same c.in_ok-outcome.ensures.turns

pub returns-in-Journal-clause-runs : goal.returns-in-Journal-clause-runs
returns-in-Journal-clause-runs g c =
    rw c.in_ok-push.ensures.items (ran-broken _ _ _ _ _ _ _ c.loop-turn.invariant.1 c.in_ok-outcome.ensures.same c.in_ok-outcome.ensures.turns _ c.loop-turn-test.true c.in-Journal.is)

pub returns-clause-same : goal.returns-clause-same
returns-clause-same g c = c.loop-turn.invariant.1.same

pub returns-clause-runs : goal.returns-clause-runs
returns-clause-runs g c = ran-all _ _ _ _ _ (omega arith) c.loop-turn.invariant.1
