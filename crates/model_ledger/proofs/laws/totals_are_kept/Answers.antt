use Rattle.model_ledger.proofs.Keeping.{total_kept, count_kept}
use Rattle.model_ledger.proofs.laws.totals_are_kept.Goals as goal

pub returns-clause-total : goal.returns-clause-total
returns-clause-total c = total_kept

pub returns-clause-count : goal.returns-clause-count
returns-clause-count c = count_kept
