use Rattle.std.proofs.Common.{refl, sym, ap, ◌∙◌, inl}
use Rattle.std.specs.Prelude.{Ok}
use Rattle.std.proofs.lemmas.Result.{IfOk-weaker}
use Rattle.simplex_transcript.specs.declared.event.Event.TheVariants as events
use Rattle.simplex_network.specs.Stands.{entered}
use Rattle.simplex_network.proofs.Polled.{same-ok}
use Rattle.simplex_network.proofs.Acting.{deliver-of, step-of, answer-of}
use Rattle.simplex_network.proofs.Events.{step-faulty, answer-faulty}
use Rattle.simplex_network.proofs.network.Network.act_without_engine.Goals as goal

pub returns-in-Deliver-clause-stands : goal.returns-in-Deliver-clause-stands
returns-in-Deliver-clause-stands c = rw (deliver-of _ _ c.args.node _ c.in-Deliver.is c.requires.steps) c.hear.ensures.stands

pub returns-in-Deliver-clause-entry : goal.returns-in-Deliver-clause-entry
returns-in-Deliver-clause-entry c = rw (deliver-of _ _ c.args.node _ c.in-Deliver.is c.requires.steps) c.hear.ensures.entry

pub returns-in-Deliver-clause-reason : goal.returns-in-Deliver-clause-reason
returns-in-Deliver-clause-reason c = rw (deliver-of _ _ c.args.node _ c.in-Deliver.is c.requires.steps) c.hear.ensures.reason

pub returns-in-Step-clause-stands : goal.returns-in-Step-clause-stands
returns-in-Step-clause-stands c =
    rw (step-of _ _ c.args.node _ _ c.in-Step.is c.requires.steps)
    (IfOk-weaker c.idle.result _ _
    (λ _ adds setting before noted s none is.
    rw (same-ok noted _ _ is (step-faulty setting before c.args.node _ _ (record { exists = rw s.given at c.requires.exists; engine = none })))
    (adds setting before (events.Step c.args.node c.in-Step.source c.in-Step.stop) s none (inl (_, _, refl))))
    c.idle.ensures.stands)

pub returns-in-Step-clause-entry : goal.returns-in-Step-clause-entry
returns-in-Step-clause-entry c =
    rw (step-of _ _ c.args.node _ _ c.in-Step.is c.requires.steps)
    (IfOk-weaker c.idle.result _ _
    (λ entry gives setting before s none.
    ap (λ r. entered r) (step-faulty setting before c.args.node _ _ (record { exists = rw s.given at c.requires.exists; engine = none }))
    ∙ ap (λ e. Ok e) (sym (gives setting before s)))
    c.idle.ensures.entry)

pub returns-in-Answer-clause-reason : goal.returns-in-Answer-clause-reason
returns-in-Answer-clause-reason c =
    λ whole setting before s none.
    rw (answer-of _ _ c.args.node _ _ c.in-Answer.is c.requires.steps)
    (answer-faulty setting before c.args.node _ _ (record { exists = rw s.given at c.requires.exists; engine = none }))
