use Rattle.std.proofs.Common.{◌∙◌, true, false}
use Rattle.simplex_engine.specs.Stands.{StandsFor, StandsOver}
use Rattle.simplex_engine.proofs.Settling.{settles-in}
use Rattle.simplex_engine.proofs.Stages.{does-stands, does-gives, does-taken, does-over, does-faults, poll-stands, poll-gives, poll-accepted, poll-refused, poll-stays, poll-keeps, poll-still, poll-fails, poll-alive, poll-over, poll-faults, poll-stops, waiting-refuses, stopped-refuses}
use Rattle.simplex_engine.proofs.engine.Engine.poll.Goals as goal

pub returns-clause-stands : goal.returns-clause-stands
returns-clause-stands g c =
    poll-stands _ _ _ _ c.poll-result.result _ _ c.in-Running.is (c.settle.ensures ∙ settles-in _ c.poll-result.result) (does-stands _ _ _ _ _ c.poll-result.result c.poll-result.ensures.does) (does-gives _ _ _ _ _ c.poll-result.result c.poll-result.ensures.does)

pub returns-clause-gives : goal.returns-clause-gives
returns-clause-gives g c =
    poll-gives _ _ c.poll-result.result _ _ c.in-Running.is (does-gives _ _ _ _ _ c.poll-result.result c.poll-result.ensures.does) (does-taken _ _ _ _ _ c.poll-result.result c.poll-result.ensures.does)

pub returns-clause-stays : goal.returns-clause-stays
unfolding StandsFor
returns-clause-stays g c =
    poll-stays true c.args.self.now c.settle.new.self _ _ c.poll-result.result _ c.in-Running.is (c.settle.ensures ∙ settles-in _ c.poll-result.result) c.poll-result.ensures.refused

pub returns-clause-failed : goal.returns-clause-failed
returns-clause-failed g c =
    poll-fails _ _ _ _ c.poll-result.result _ c.in-Running.is (c.settle.ensures ∙ settles-in _ c.poll-result.result) c.poll-result.ensures.refused

pub returns-clause-alive : goal.returns-clause-alive
returns-clause-alive g c = poll-alive c.settle.new.self _ c.poll-result.result (c.settle.ensures ∙ settles-in _ c.poll-result.result)

pub returns-clause-over : goal.returns-clause-over
returns-clause-over g c =
    poll-over _ _ _ _ c.poll-result.result _ _ _ c.in-Running.is (c.settle.ensures ∙ settles-in _ c.poll-result.result) (does-over _ _ _ _ _ c.poll-result.result c.poll-result.ensures.does)

pub returns-clause-faults : goal.returns-clause-faults
returns-clause-faults g c =
    poll-faults c.args.self.now c.settle.new.self _ _ c.poll-result.result c.in-Running.is (c.settle.ensures ∙ settles-in _ c.poll-result.result) (does-faults _ _ _ _ _ c.poll-result.result c.poll-result.ensures.does)

pub returns-clause-stops : goal.returns-clause-stops
returns-clause-stops g c = poll-stops c.settle.new.self _ c.poll-result.result (c.settle.ensures ∙ settles-in _ c.poll-result.result)

pub returns-clause-accepted : goal.returns-clause-accepted
unfolding StandsOver
returns-clause-accepted g c =
    poll-accepted false c.args.self.now _ c.poll-result.result _ c.in-Running.is c.poll-result.ensures.accepted

pub returns-clause-refused : goal.returns-clause-refused
unfolding StandsOver
returns-clause-refused g c =
    poll-refused false c.args.self.now _ _ c.poll-result.result _ c.in-Running.is c.poll-result.ensures.refused

pub returns-clause-stays_over : goal.returns-clause-stays_over
unfolding StandsOver
returns-clause-stays_over g c =
    poll-stays false c.args.self.now c.settle.new.self _ _ c.poll-result.result _ c.in-Running.is (c.settle.ensures ∙ settles-in _ c.poll-result.result) c.poll-result.ensures.refused

pub returns-clause-journal : goal.returns-clause-journal
returns-clause-journal g c =
    poll-keeps c.args.self.now c.settle.new.self _ _ c.poll-result.result _ c.in-Running.is (c.settle.ensures ∙ settles-in _ c.poll-result.result) c.poll-result.ensures.refused

pub returns-clause-still : goal.returns-clause-still
returns-clause-still g c =
    poll-still c.args.self.now c.settle.new.self _ _ c.poll-result.result _ c.in-Running.is (c.settle.ensures ∙ settles-in _ c.poll-result.result) c.poll-result.ensures.refused

pub returns-in-Waiting-clause-refused : goal.returns-in-Waiting-clause-refused
unfolding StandsOver
returns-in-Waiting-clause-refused g c = λ _. waiting-refuses false c.args.self.now _ c.args.input c.in-Waiting.is

pub returns-in-Stopped-clause-refused : goal.returns-in-Stopped-clause-refused
unfolding StandsOver
returns-in-Stopped-clause-refused g c = λ _. stopped-refuses false c.args.self.now _ c.args.input c.in-Stopped.is
