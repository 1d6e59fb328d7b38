use Rattle.std.proofs.Common.{refl}
use Rattle.simplex_judge.proofs.Following.{goes-answer, goes-crash, goes-kept, goes-packet}
use Rattle.simplex_judge.proofs.follower.Follower.follow.Goals as goal

pub returns-in_ok-take_input-in-Deliver : goal.returns-in_ok-take_input-in-Deliver
returns-in_ok-take_input-in-Deliver c =
    goes-packet c.args.self.now (record { scheme = c.args.self.now.scheme; reader = c.take_input.new.self }) c.args.prior.now c.args.event.now _ _ c.args.entry.now c.in-Deliver.is refl
    (λ setting before node follows. c.in_ok-take_input-in-Deliver.ensures.packet setting before node _ follows)

pub returns-in_ok-take_input-in-Answer : goal.returns-in_ok-take_input-in-Answer
returns-in_ok-take_input-in-Answer c =
    goes-answer c.args.self.now (record { scheme = c.args.self.now.scheme; reader = c.take_input-in-Answer.new.self }) c.args.prior.now c.args.event.now _ _ _ c.args.entry.now c.in-Answer.is refl
    (λ setting before node follows. c.in_ok-take_input-in-Answer.ensures.answer setting before node _ _ follows)

pub returns-in_ok-take_crash-in-Crash : goal.returns-in_ok-take_crash-in-Crash
returns-in_ok-take_crash-in-Crash c =
    goes-crash c.args.self.now (record { scheme = c.args.self.now.scheme; reader = c.take_crash.new.self }) c.args.prior.now c.args.event.now _ c.args.entry.now c.in-Crash.is refl
    c.in_ok-take_crash-in-Crash.ensures

pub returns-in-Tick : goal.returns-in-Tick
returns-in-Tick c = goes-kept c.args.self.now c.args.prior.now c.args.event.now c.args.entry.now (rw c.in-Tick.is refl)

pub returns-in-Inject : goal.returns-in-Inject
returns-in-Inject c = goes-kept c.args.self.now c.args.prior.now c.args.event.now c.args.entry.now (rw c.in-Inject.is refl)
