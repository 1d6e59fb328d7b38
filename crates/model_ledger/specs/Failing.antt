-- What a call that may fail answers.
use Rattle.std.specs.Prelude.{◌≡◌, Option, Some, None, Result, Ok, Err}
use Rattle.model_ledger.specs.declared.transfer.LedgerError.{LedgerError}
use Rattle.model_ledger.specs.declared.transfer.LedgerError.TheVariants.{Memory}

-- the call fails by this fault, and goes well where there is none, unless memory ran out
abbrev pub FailsBy : {A : Type 0} → Option LedgerError → Result A LedgerError → Type 0
FailsBy fault (Ok x) = fault ≡ None
FailsBy fault (Err Memory) = Unit {0}
FailsBy fault (Err error) = fault ≡ Some error
