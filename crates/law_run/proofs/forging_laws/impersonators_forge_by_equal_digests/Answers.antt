use Rattle.law_run.proofs.Impersonating.{forged_by_one_signature}
use Rattle.law_run.proofs.forging_laws.impersonators_forge_by_equal_digests.Goals as goal

pub returns : goal.returns
returns c = forged_by_one_signature
