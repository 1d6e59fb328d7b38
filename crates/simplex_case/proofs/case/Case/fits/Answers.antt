use Rattle.std.proofs.Common.{◌+◌, arith, length}
use Rattle.simplex_case.proofs.Casing.{fits-is}
use Rattle.simplex_case.proofs.case.Case.fits.Goals as goal

pub returns : goal.returns
returns c =
    λ before stand. fits-is c.args.prior.now before c.args.event.now c.args.entry.now (length c.args.prior.now + 1) _ _ _ _ _ stand.items (omega arith) c.five.ensures
    (rw c.node_named.ensures at c.is_same.ensures) c.outcome_fits.ensures (c.took_or_idle.ensures before stand) c.lists_fit.ensures
