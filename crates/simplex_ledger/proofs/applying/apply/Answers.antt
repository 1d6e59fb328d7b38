use Rattle.std.proofs.Common.{◌∙◌, sym, arith}
use Rattle.simplex_ledger.proofs.Transfers.{given_fits}
use Rattle.simplex_ledger.proofs.applying.apply.Goals as goal

pub overflow_add-balances : goal.overflow_add-balances
overflow_add-balances c = (let fits = given_fits c.args.balances.now c.args.transfer.now (sym c.may_move.ensures ∙ c.if-may_move.true) c.requires in omega (arith, fits))
