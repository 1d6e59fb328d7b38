use Rattle.std.proofs.Common.{sym}
use Rattle.model_audit.specs.Rebuilt.{rebuilt, rebuilt_entry}
use Rattle.simplex_case.proofs.Desks.{desk-own}
use Rattle.simplex_case.proofs.desk.Desk.take.Goals as goal

pub returns : goal.returns
unfolding rebuilt_entry
returns c =
    λ before node here mine stand. desk-own c.args.self.now _ before (rebuilt c.args.event.now c.args.entry.now) node mine stand
    (c.in_ok-enter.ensures before (rebuilt c.args.event.now c.args.entry.now) node mine (sym c.is_start.ensures) here c.len-asked.ensures stand.requests)
    c.runs_behind-self.ensures
    (λ q. rw (← here, ← c.as_slice.ensures) (c.in_ok-put_all.ensures q))
