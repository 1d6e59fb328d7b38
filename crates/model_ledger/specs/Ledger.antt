-- The balances that a log gives.
use Rattle.std.specs.Prelude.{ℕ, List, flat_map, take}
use Rattle.model_log.specs.declared.entry.LogEntry.{LogEntry}
use Rattle.model_ledger.specs.declared.transfer.Transfer.{Transfer}
use Rattle.model_ledger.specs.Balances.{after_all}
use Rattle.model_ledger.specs.Blocks.{transfers_of}

-- the transfers of the blocks that a log names
abbrev pub transfers_along : List (List ℕ) → List LogEntry → List Transfer
transfers_along blocks log = flat_map (λ entry. transfers_of blocks entry.payload) log

-- the balances at this height of a log
unfoldable pub balances_at : List (List ℕ) → List ℕ → List LogEntry → ℕ → List ℕ
balances_at blocks accounts log height = after_all accounts (transfers_along blocks (take height log))
