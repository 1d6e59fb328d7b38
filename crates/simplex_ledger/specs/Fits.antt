-- The blocks that have a spelling: numbers keep to their types.
use Rattle.std.specs.Prelude.{◌<◌, ◌^◌, List, length}
use Rattle.std.specs.List.{AllByRecursion}
use Rattle.model_ledger.specs.declared.transfer.Transfer.{Transfer}

abbrev pub FitsTransfer : Transfer → Type 0
FitsTransfer t = (t.from < 2 ^ 32) × ((t.to < 2 ^ 32) × (t.amount < 2 ^ 64))

abbrev pub FitsBlock : List Transfer → Type 0
FitsBlock transfers = (length transfers < 2 ^ 32) × AllByRecursion FitsTransfer transfers
