use Rattle.std.proofs.Common.{refl}
use Rattle.model_steps.specs.Desk.{begun}
use Rattle.model_steps.specs.Voter.{acted, act_on_mail}
use Rattle.simplex_voter.proofs.Taking.{acted-so}
use Rattle.simplex_voter.proofs.planner.Planner.act.Goals as goal

pub returns-in_ok-touched-in-Mail : goal.returns-in_ok-touched-in-Mail
unfolding acted
returns-in_ok-touched-in-Mail g c = λ made answers desk s.
    acted-so (act_on_mail made c.args.now c.in-Mail.message (begun desk)) _ (rw c.in-Mail.is refl) (c.in_ok-touched-in-Mail.ensures.view made answers _ s) (c.in_ok-touched-in-Mail.ensures.stands made answers _ s)
