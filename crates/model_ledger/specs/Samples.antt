-- Small values to try ledgers on.
use Rattle.std.specs.Prelude.{ℕ}
use Rattle.model_ledger.specs.declared.transfer.Transfer.{Transfer}

abbrev pub moves : ℕ → ℕ → ℕ → Transfer
moves from to amount = record { from = from; to = to; amount = amount }
