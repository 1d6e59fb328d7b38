use Rattle.std.proofs.Common.{refl, Some, None}
use Rattle.simplex_turns.proofs.Handed.{calls-grow, puts-nothing}
use Rattle.simplex_turns.proofs.VotingSteps.{turn-turns, turn-same, idle-steps}
use Rattle.simplex_turns.proofs.voter.VoterThread.turn.Goals as goal

pub returns-in-None-clause-same : goal.returns-in-None-clause-same
returns-in-None-clause-same g c =
    turn-same c.args.self.now _ c.find.new.self _ c.recv.new.pass (record { own = refl; actor = refl; clock = refl; feed = refl; batcher = refl; resolver = refl })
    c.in_ok-taken.ensures.own c.find.ensures.keeps refl (refl, refl) (refl, refl)

pub returns-in-None-clause-turns : goal.returns-in-None-clause-turns
returns-in-None-clause-turns g c =
    turn-turns c.args.self.now _ c.find.new.self _ c.recv.new.pass _ None _ _ (record { own = refl; actor = refl; clock = refl; feed = refl; batcher = refl; resolver = refl })
    (calls-grow _ _ _ c.in_ok-taken.ensures.own refl c.in_ok-taken.ensures.ok)
    c.find.ensures.keeps (rw c.in-None.is at c.find.ensures.finds) refl
    (idle-steps _ _ c.new.ensures (puts-nothing _) (puts-nothing _))

pub returns-in_ok-given-in-Some-clause-same : goal.returns-in_ok-given-in-Some-clause-same
returns-in_ok-given-in-Some-clause-same g c =
    turn-same c.args.self.now _ c.find.new.self _ c.recv.new.pass (record { own = refl; actor = refl; clock = refl; feed = refl; batcher = refl; resolver = refl })
    c.in_ok-taken.ensures.own c.find.ensures.keeps c.in_ok-given-in-Some.ensures.own c.in_ok-given-in-Some.ensures.same.0 c.in_ok-given-in-Some.ensures.same.1

pub returns-in_ok-given-in-Some-clause-turns : goal.returns-in_ok-given-in-Some-clause-turns
returns-in_ok-given-in-Some-clause-turns g c =
    turn-turns c.args.self.now _ c.find.new.self _ c.recv.new.pass _ (Some c.in-Some.input) _ _ (record { own = refl; actor = refl; clock = refl; feed = refl; batcher = refl; resolver = refl })
    (calls-grow _ _ _ c.in_ok-taken.ensures.own refl c.in_ok-taken.ensures.ok)
    c.find.ensures.keeps (rw c.in-Some.is at c.find.ensures.finds) c.in_ok-given-in-Some.ensures.own
    c.in_ok-given-in-Some.ensures.steps
