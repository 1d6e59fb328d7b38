-- What came of decoding a block.
use Rattle.std.specs.Prelude.{List, Option, Some, None, Result, Ok, Err}
use Rattle.simplex_wire.specs.declared.error.DecodeError.{DecodeError}
use Rattle.model_ledger.specs.declared.transfer.Transfer.{Transfer}

-- the transfers, where it decodes
abbrev pub transfers_if_any : Result (List Transfer) DecodeError → Option (List Transfer)
transfers_if_any (Ok transfers) = Some transfers
transfers_if_any (Err error) = None
