use Rattle.law_member.proofs.Marking.{update_works}
use Rattle.law_member.proofs.certificates.current_views_are_worked.Goals as goal

pub returns : goal.returns
returns c made past given current leader finalized proposal = update_works made past given current leader finalized proposal
