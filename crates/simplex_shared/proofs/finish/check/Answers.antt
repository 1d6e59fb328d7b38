use Rattle.std.proofs.Common.{subst}
use Rattle.simplex_shared.specs.declared.op.Op.{Op}
use Rattle.simplex_shared.specs.Desk.{Recorded}
use Rattle.simplex_shared.specs.History.{caller_of, IsLegal}
use Rattle.simplex_shared.specs.Lock.{Sat, Hears}
use Rattle.simplex_shared.specs.Passes.{Viewer, GoesOn}
use Rattle.simplex_shared.proofs.Called.{goes_on}
use Rattle.simplex_shared.proofs.Sightings.{checked}
use Rattle.simplex_shared.proofs.finish.check.Goals as goal

pub returns-clause-checked : goal.returns-clause-checked
returns-clause-checked g c =
    let p = c.pass.inside in
    let ready = c.pass.invariant.0 in
    let log = c.args.holder.now.me.0.seen in
    let log_of = λ (d : Recorded g.row.M.Denot). d.log in
    let capacity_of = λ (d : Recorded g.row.M.Denot). d.mail.capacity in
    let legal = IsLegal g.M.Policy.handle g.M.Requested.is_skipped in
    let second = subst (λ (m : Sat (Recorded g.row.M.Denot) (Op g.row.M.Denot)). Hears log_of capacity_of caller_of legal m c.hear.new.mine.me.0 c.hear-2.result c.hear-2.new.mine.me) c.hear.ensures.same c.hear-2.ensures.hears in
    let saw = checked log_of capacity_of caller_of legal c.args.holder.now.me p.seat.me c.hear.new.mine.me c.hear-2.new.mine.me c.hear.result c.hear-2.result ready.0 c.requires.holds c.hear.ensures.hears second in
    subst (λ (b : Viewer g.row.M.Denot). GoesOn b log) c.pass.view_is (goes_on p.seat.table_id p.seat.me.0 p.number log ready.1 saw.2 saw.3)
