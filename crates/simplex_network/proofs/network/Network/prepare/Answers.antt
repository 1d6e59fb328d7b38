use Rattle.std.proofs.Common.{◌∙◌}
use Rattle.std.proofs.lemmas.Result.{IfOk-weaker, IfErr-weaker}
use Rattle.model_run.specs.Life.{Running}
use Rattle.simplex_network.proofs.Acting.{act-missing, act-stopped, tested-honest, never-faulty}
use Rattle.simplex_network.proofs.Found.{found-none, found-stopped, found-running, found-faulty}
use Rattle.simplex_network.proofs.network.Network.prepare.Goals as goal

pub returns-in-Err-clause-reason : goal.returns-in-Err-clause-reason
returns-in-Err-clause-reason c =
    λ whole setting before lent free s honest.
    let n = found-none setting before c.args.node _ (c.in-Err.ensures.among setting before lent free s) in
    tested-honest setting before c.args.event.now c.args.node c.requires.steps honest ∙ rw n.1 (act-missing setting before c.args.node c.args.event.now c.requires.steps n.0)

pub returns-in-Stopped-clause-reason : goal.returns-in-Stopped-clause-reason
returns-in-Stopped-clause-reason c =
    λ whole setting before lent free s honest.
    tested-honest setting before c.args.event.now c.args.node c.requires.steps honest
    ∙ act-stopped setting before c.args.node c.args.event.now c.requires.steps
    (found-stopped setting before c.args.node (rw c.in-Stopped.is at (c.in-Ok.ensures.among setting before lent free s)))

pub returns-in-Faulty-clause-reason : goal.returns-in-Faulty-clause-reason
returns-in-Faulty-clause-reason c =
    λ whole setting before lent free s honest.
    let f = found-faulty setting before c.args.node (rw c.in-Faulty.is at (c.in-Ok.ensures.among setting before lent free s)) in
    absurd (never-faulty setting.setup c.args.node honest f.engine)

pub returns-in-Running-clause-is : goal.returns-in-Running-clause-is
returns-in-Running-clause-is c =
    IfOk-weaker c.given.result _ _
    (λ given prepares setting before lent free s honest.
    let found = rw c.in-Running.is at (c.in-Ok.ensures.among setting before lent free s) in
    let r = found-running setting before c.args.node _ found in (
      Running r.made r.past,
      (r.engine, r.life),
      tested-honest setting before c.args.event.now c.args.node c.requires.steps honest ∙ prepares setting before (Running r.made r.past) s.remembers found (r.engine, r.life),
    ))
    c.given.ensures.is

pub returns-in-Running-clause-reason : goal.returns-in-Running-clause-reason
returns-in-Running-clause-reason c =
    IfErr-weaker c.given.result _ _
    (λ error bars whole setting before lent free s honest.
    tested-honest setting before c.args.event.now c.args.node c.requires.steps honest
    ∙ bars whole setting before s.remembers (rw c.in-Running.is at (c.in-Ok.ensures.among setting before lent free s)))
    c.given.ensures.reason
