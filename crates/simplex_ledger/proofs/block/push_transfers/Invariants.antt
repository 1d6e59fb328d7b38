use Rattle.std.proofs.Common.{◌≡◌, ◌++◌, take}
use Rattle.std.specs.List.{flat_map, AllByRecursion}
use Rattle.model_ledger.specs.Blocks.{transfer}
use Rattle.simplex_ledger.specs.Fits.{FitsTransfer}
use Rattle.simplex_ledger.proofs.block.push_transfers.Given as goal

abbrev pub invariant-loop-written : goal.invariant-loop-written
invariant-loop-written l = record {
  spelled : l.out.items ≡ l.fn.out.items ++ flat_map transfer.spelling (take l.written-index l.transfers);
  fits : AllByRecursion FitsTransfer (take l.written-index l.transfers);
}
