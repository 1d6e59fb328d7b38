use Rattle.std.proofs.Common.{sym, subst}
use Rattle.std.proofs.lemmas.Result.{IfOk-weaker}
use Rattle.simplex_scripts.specs.declared.came.Came.{Came}
use Rattle.simplex_scripts.specs.Playing.{made}
use Rattle.simplex_scripts.specs.Stands.{Leads}
use Rattle.simplex_scripts.proofs.Making.{makes, refuses}
use Rattle.simplex_scripts.proofs.play.Play.make.Goals as goal

pub returns-in-Err : goal.returns-in-Err
returns-in-Err c =
    IfOk-weaker c.refused.result _ _
    (λ came is.
    subst (λ (it : Came). Leads c.args.self.now (record c.args.self.now { network = c.apply.new.self }) (λ setting. made setting c.args.line c.args.event) it)
    (sym is.came_is)
    (refuses c.args.self.now c.apply.new.self c.args.line c.args.event c.in-Err.error (c.in-Err.ensures.reason is.refused)
    (c.in-Err.ensures.stays is.refused)))
    c.refused.ensures

pub returns-in_ok-take-in-Ok : goal.returns-in_ok-take-in-Ok
returns-in_ok-take-in-Ok c =
    makes c.args.self.now c.take.new.self c.apply.new.self c.args.line c.args.event c.in-Ok.entry c.in-Ok.ensures.stands c.in-Ok.ensures.entry
    c.in_ok-take-in-Ok.ensures
