use Rattle.std.proofs.Common.{◌∙◌, sym, true, false}
use Rattle.model_steps.specs.Engine.{begun}
use Rattle.simplex_engine.specs.Stands.{StandsOver}
use Rattle.simplex_engine.proofs.Stages.{start-stands, start-gives, start-over, start-faults, settled-stops, running-started}
use Rattle.simplex_engine.proofs.engine.Engine.start.Goals as goal

pub returns-in_ok-outcome-in-Waiting-clause-stands : goal.returns-in_ok-outcome-in-Waiting-clause-stands
returns-in_ok-outcome-in-Waiting-clause-stands g c =
    start-stands _ _ _ _ _ _ _ (sym c.replace.ensures.value ∙ c.in-Waiting.is) c.stage_after.ensures
    (λ made waits. c.in_ok-outcome-in-Waiting.ensures.stands made (c.in_ok-crew-in-Waiting.ensures.fresh true made waits))
    (λ made waits. c.in_ok-outcome-in-Waiting.ensures.gives made (c.in_ok-crew-in-Waiting.ensures.fresh true made waits))

pub returns-in_ok-outcome-in-Waiting-clause-gives : goal.returns-in_ok-outcome-in-Waiting-clause-gives
returns-in_ok-outcome-in-Waiting-clause-gives g c =
    start-gives _ _ (λ made. begun made c.args.now c.args.stop.now) _ _ (sym c.replace.ensures.value ∙ c.in-Waiting.is)
    (λ made waits. c.in_ok-outcome-in-Waiting.ensures.gives made (c.in_ok-crew-in-Waiting.ensures.fresh true made waits))

pub returns-in_ok-outcome-in-Waiting-clause-over : goal.returns-in_ok-outcome-in-Waiting-clause-over
returns-in_ok-outcome-in-Waiting-clause-over g c =
    start-over _ _ _ _ _ _ _ _ _ (sym c.replace.ensures.value ∙ c.in-Waiting.is) c.stage_after.ensures
    (λ made waits. c.in_ok-crew-in-Waiting.ensures.fresh false made waits) c.in_ok-outcome-in-Waiting.ensures.over

pub returns-in_ok-outcome-in-Waiting-clause-faults : goal.returns-in_ok-outcome-in-Waiting-clause-faults
returns-in_ok-outcome-in-Waiting-clause-faults g c =
    start-faults c.args.self.now (record c.args.self.now { stage = c.stage_after.result }) _ _ _ _ _ _ _ (sym c.replace.ensures.value ∙ c.in-Waiting.is) c.stage_after.ensures c.in_ok-outcome-in-Waiting.ensures.over c.in_ok-crew-in-Waiting.ensures.journal c.in_ok-outcome-in-Waiting.ensures.faults

pub returns-in_ok-outcome-in-Waiting-clause-stops : goal.returns-in_ok-outcome-in-Waiting-clause-stops
returns-in_ok-outcome-in-Waiting-clause-stops g c = rw c.stage_after.ensures (settled-stops _ _)

pub returns-in-Running-clause-refused : goal.returns-in-Running-clause-refused
unfolding StandsOver
returns-in-Running-clause-refused g c = λ made h. absurd (running-started false c.args.self.now _ made (sym c.replace.ensures.value ∙ c.in-Running.is) h)
