use Rattle.law_run.proofs.Agreeing.{words_agree}
use Rattle.law_run.proofs.backing_laws.agreement_follows.Goals as goal

pub returns : goal.returns
returns c = words_agree
