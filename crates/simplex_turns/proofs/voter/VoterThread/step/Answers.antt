use Rattle.std.proofs.Common.{refl}
use Rattle.simplex_turns.proofs.VotingSteps.{step-steps, held-put}
use Rattle.simplex_turns.proofs.voter.VoterThread.step.Goals as goal

pub returns-clause-steps : goal.returns-clause-steps
returns-clause-steps g c =
    let o = c.in_ok-outcome.ensures in
    step-steps c.args.self.now _ c.args.input _ _ refl refl o.does.stands o.does.gives o.does.over o.does.faults
    (held-put _ _ _ _ _ _ c.new-to_batcher.ensures (c.posted_are_held.ensures _ _ _ o.batcher) c.into_messages-messages.ensures c.in_ok-put_all.ensures.put)
    (held-put _ _ _ _ _ _ c.new-to_resolver.ensures (c.posted_are_held-2.ensures _ _ _ o.resolver) c.into_messages-messages-2.ensures c.in_ok-put_all-2.ensures.put)
