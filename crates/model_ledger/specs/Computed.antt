-- A name for what a clause unfolds to compute a sample.
use Rattle.std.specs.Prelude.{⊤}
use Rattle.simplex_wire.specs.Number.{number_from, varint_by}
use Rattle.model_ledger.specs.Balances.{moved}
use Rattle.model_ledger.specs.Blocks.{transfer, transfers_from, block}

-- what computes blocks and balances
unfoldable pub ledgers : ⊤
unfolding moved transfer transfers_from block number_from varint_by
ledgers = tt
