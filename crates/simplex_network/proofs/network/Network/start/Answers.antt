use Rattle.std.proofs.Common.{refl, sym, ap, ◌∙◌}
use Rattle.std.specs.Prelude.{Ok}
use Rattle.model_run.specs.Life.{life_in}
use Rattle.simplex_network.specs.Stands.{entered}
use Rattle.simplex_network.proofs.Polled.{same-ok}
use Rattle.simplex_network.proofs.Found.{found-none, found-stopped, found-running, found-faulty}
use Rattle.simplex_network.proofs.Events.{start-missing, start-stopped, start-foreign, start-running, start-faulty}
use Rattle.simplex_network.proofs.network.Network.start.Goals as goal

pub returns-in-Err-clause-reason : goal.returns-in-Err-clause-reason
returns-in-Err-clause-reason c =
    λ whole setting before s.
    let n = found-none setting before c.args.node _ (c.in-Err.ensures.found setting before s) in
    rw n.1 (start-missing setting before c.args.node _ _ n.0)

pub returns-then-not-is_own_floor-clause-reason : goal.returns-then-not-is_own_floor-clause-reason
returns-then-not-is_own_floor-clause-reason c =
    λ whole setting before s. start-foreign setting before c.args.node _ _ (found-stopped setting before c.args.node (rw c.in-Stopped.is at (c.in-Ok.ensures.found setting before s)))
    (sym (c.is_own_floor.ensures setting.setup before s.records) ∙ c.if-not-is_own_floor.true)

pub returns-in_ok-entry-in-Stopped-clause-stands : goal.returns-in_ok-entry-in-Stopped-clause-stands
returns-in_ok-entry-in-Stopped-clause-stands c =
    λ setting before noted s is.
    let st = found-stopped setting before c.args.node (rw c.in-Stopped.is at (c.in-Ok.ensures.found setting before s)) in
    rw (same-ok noted _ _ is (start-stopped setting before c.args.node _ _ st (sym (c.is_own_floor.ensures setting.setup before s.records) ∙ c.if-not-is_own_floor.false)))
    (c.in_ok-entry-in-Stopped.ensures.stands setting before (life_in setting before c.args.node) s (st.engine, refl))

pub returns-in_ok-entry-in-Stopped-clause-entry : goal.returns-in_ok-entry-in-Stopped-clause-entry
returns-in_ok-entry-in-Stopped-clause-entry c =
    λ setting before s.
    let st = found-stopped setting before c.args.node (rw c.in-Stopped.is at (c.in-Ok.ensures.found setting before s)) in
    ap (λ r. entered r) (start-stopped setting before c.args.node _ _ st (sym (c.is_own_floor.ensures setting.setup before s.records) ∙ c.if-not-is_own_floor.false))
    ∙ ap (λ e. Ok e) (sym (c.in_ok-entry-in-Stopped.ensures.entry setting before (life_in setting before c.args.node) s (st.engine, refl)))

pub returns-in-Running-clause-reason : goal.returns-in-Running-clause-reason
returns-in-Running-clause-reason c =
    λ whole setting before s. start-running setting before c.args.node _ _ _ (found-running setting before c.args.node _ (rw c.in-Running.is at (c.in-Ok.ensures.found setting before s)))

pub returns-in-Faulty-clause-reason : goal.returns-in-Faulty-clause-reason
returns-in-Faulty-clause-reason c =
    λ whole setting before s. start-faulty setting before c.args.node _ _ (found-faulty setting before c.args.node (rw c.in-Faulty.is at (c.in-Ok.ensures.found setting before s)))
