use Rattle.std.proofs.Common.{refl}
use Rattle.std.proofs.lemmas.Result.{IfOk-weaker}
use Rattle.simplex_judge.proofs.Following.{steps-on}
use Rattle.simplex_judge.proofs.follower.Follower.step.Goals as goal

pub returns-in-Ok : goal.returns-in-Ok
returns-in-Ok c =
    IfOk-weaker c.sends_whole.result _ _
    (λ sent is. steps-on c.args.self.now (record { scheme = c.args.self.now.scheme; reader = c.take_step.new.self }) c.args.prior.now c.args.source c.args.stop c.args.entry.now _ c.in-Ok.due
    sent refl c.request_of-asked.ensures c.in-Ok.ensures is)
    c.sends_whole.ensures
