use Rattle.law_run.proofs.Unforged.{passed_on}
use Rattle.law_run.proofs.forging_laws.faulty_members_pass_on.Goals as goal

pub returns : goal.returns
returns c = passed_on
