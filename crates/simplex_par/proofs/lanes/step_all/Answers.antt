use Rattle.std.proofs.Common.{sym}
use Rattle.simplex_par.proofs.Stepping.{lanes-stepped}
use Rattle.simplex_par.proofs.lanes.step_all.Goals as goal

pub returns : goal.returns
returns g c =
    lanes-stepped _ _ c.for_each_mut.auto.s (λ i d lt. let at = (c.for_each_mut.ensures i d lt).1 in rw (sym at.argument_is, sym at.left) at.call)
