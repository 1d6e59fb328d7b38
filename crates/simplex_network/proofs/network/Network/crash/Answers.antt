use Rattle.std.proofs.Common.{refl, sym, ap, ◌∙◌, inr}
use Rattle.std.specs.Prelude.{Ok}
use Rattle.std.proofs.lemmas.Result.{IfOk-weaker}
use Rattle.simplex_transcript.specs.declared.event.Event.TheVariants as events
use Rattle.model_run.specs.Life.{Running}
use Rattle.simplex_network.specs.Stands.{entered}
use Rattle.simplex_network.proofs.Polled.{same-ok}
use Rattle.simplex_network.proofs.Found.{found-none, found-stopped, found-running, found-faulty}
use Rattle.simplex_network.proofs.Events.{crash-missing, crash-stopped, crash-running, crash-faulty}
use Rattle.simplex_network.proofs.network.Network.crash.Goals as goal

pub returns-in-Err-clause-reason : goal.returns-in-Err-clause-reason
returns-in-Err-clause-reason c =
    λ whole setting before s.
    let n = found-none setting before c.args.node _ (c.in-Err.ensures.found setting before s) in
    rw n.1 (crash-missing setting before c.args.node n.0)

pub returns-in-Stopped-clause-reason : goal.returns-in-Stopped-clause-reason
returns-in-Stopped-clause-reason c =
    λ whole setting before s. crash-stopped setting before c.args.node (found-stopped setting before c.args.node (rw c.in-Stopped.is at (c.in-Ok.ensures.found setting before s)))

pub returns-in-Faulty-clause-stands : goal.returns-in-Faulty-clause-stands
returns-in-Faulty-clause-stands c =
    IfOk-weaker c.idle.result _ _
    (λ _ adds setting before noted s is.
    let f = (found-faulty setting before c.args.node (rw c.in-Faulty.is at (c.in-Ok.ensures.found setting before s))) in
    rw (same-ok noted _ _ is (crash-faulty setting before c.args.node f)) (adds setting before (events.Crash c.args.node) s f.engine (inr refl)))
    c.idle.ensures.stands

pub returns-in-Faulty-clause-entry : goal.returns-in-Faulty-clause-entry
returns-in-Faulty-clause-entry c =
    IfOk-weaker c.idle.result _ _
    (λ entry gives setting before s.
    ap (λ r. entered r) (crash-faulty setting before c.args.node (found-faulty setting before c.args.node (rw c.in-Faulty.is at (c.in-Ok.ensures.found setting before s)))) ∙ ap (λ e. Ok e) (sym (gives setting before s)))
    c.idle.ensures.entry

pub returns-in-Running-clause-stands : goal.returns-in-Running-clause-stands
returns-in-Running-clause-stands c =
    IfOk-weaker c.halt.result _ _
    (λ _ adds setting before noted s is.
    let r = (found-running setting before c.args.node _ (rw c.in-Running.is at (c.in-Ok.ensures.found setting before s))) in
    rw (same-ok noted _ _ is (crash-running setting before c.args.node _ r)) (adds setting before (Running r.made r.past) s (r.engine, r.life)))
    c.halt.ensures.stands

pub returns-in-Running-clause-entry : goal.returns-in-Running-clause-entry
returns-in-Running-clause-entry c =
    IfOk-weaker c.halt.result _ _
    (λ entry gives setting before s.
    ap (λ r. entered r) (crash-running setting before c.args.node _ (found-running setting before c.args.node _ (rw c.in-Running.is at (c.in-Ok.ensures.found setting before s)))) ∙ ap (λ e. Ok e) (sym (gives setting before s)))
    c.halt.ensures.entry
