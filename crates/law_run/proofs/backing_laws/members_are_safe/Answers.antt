use Rattle.law_run.proofs.Safely.{mostly_honest_is_safe, faulty_counted}
use Rattle.law_run.proofs.backing_laws.members_are_safe.Goals as goal

pub returns-clause-safe : goal.returns-clause-safe
returns-clause-safe c = mostly_honest_is_safe

pub returns-clause-counted : goal.returns-clause-counted
returns-clause-counted c = λ setup. faulty_counted 0 setup.members
