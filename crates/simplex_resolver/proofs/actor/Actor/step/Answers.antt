use Rattle.std.proofs.Common.{◌∙◌, ◌++◌, ap}
use Rattle.simplex_messages.specs.Step.{no_out}
use Rattle.simplex_messages.specs.declared.step.StepOut.{StepOut}
use Rattle.simplex_resolver.specs.declared.work.Work.{Work}
use Rattle.model_resolver.specs.Sends.{send_calls}
use Rattle.model_resolver.specs.Resolver.{standing_after, step_out}
use Rattle.simplex_resolver.specs.Stands.{StandsFor}
use Rattle.simplex_resolver.proofs.actor.Actor.step.Goals as goal

pub returns-clause-stands : goal.returns-clause-stands
unfolding StandsFor standing_after
returns-clause-stands g c = λ made past s. (c.in_ok-handed.ensures made (standing_after made past) s).stands

pub returns-clause-out : goal.returns-clause-out
unfolding StandsFor step_out
returns-clause-out g c = λ made past s.
    let worked = c.in_ok-handed.ensures made (standing_after made past) s in
    ap (λ (out : StepOut). record out { handed = c.in_ok-handed.field-0.handed; calls = c.call_each.new.calls }) c.requires.empty
    ∙ ap (λ calls. record no_out { handed = c.in_ok-handed.field-0.handed; calls = calls }) c.in_ok-call_each.ensures
    ∙ ap (λ (work : Work). record no_out { handed = work.handed; calls = work.blocks ++ send_calls work.sends }) worked.does
