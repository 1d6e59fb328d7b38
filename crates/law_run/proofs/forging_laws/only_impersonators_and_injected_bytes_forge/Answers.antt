use Rattle.law_run.proofs.Unforged.{none_forged, none_refused}
use Rattle.law_run.proofs.forging_laws.only_impersonators_and_injected_bytes_forge.Goals as goal

pub returns-clause-none : goal.returns-clause-none
returns-clause-none c = none_forged

pub returns-clause-taken : goal.returns-clause-taken
returns-clause-taken c = none_refused
