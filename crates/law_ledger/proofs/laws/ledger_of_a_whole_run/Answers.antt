use Rattle.law_ledger.proofs.Missing.{whole_ledger}
use Rattle.law_ledger.proofs.laws.ledger_of_a_whole_run.Goals as goal

pub returns : goal.returns
returns c = whole_ledger
