use Rattle.std.proofs.Common.{◌≡◌, take}
use Rattle.model_ledger.specs.Balances.{after_all}
use Rattle.simplex_ledger.proofs.applying.apply_all.Given as goal

abbrev pub invariant-loop-transfer : goal.invariant-loop-transfer
invariant-loop-transfer l = l.balances ≡ after_all l.initial.balances (take l.transfer-index l.transfers)
