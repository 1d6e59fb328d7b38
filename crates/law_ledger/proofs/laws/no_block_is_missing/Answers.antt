use Rattle.law_ledger.proofs.Missing.{none_missing}
use Rattle.law_ledger.proofs.laws.no_block_is_missing.Goals as goal

pub returns : goal.returns
returns c = none_missing
