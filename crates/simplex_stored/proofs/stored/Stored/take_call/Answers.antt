use Rattle.simplex_stored.proofs.Order.{call-append, call-sync, call-prune, call-other}
use Rattle.simplex_stored.proofs.stored.Stored.take_call.Goals as goal

pub returns-in_ok-append-in-Append : goal.returns-in_ok-append-in-Append
returns-in_ok-append-in-Append c =
    call-append c.args.call.now c.in-Append.section c.in-Append.artifact _ _ c.in-Append.is
    (let step = c.in_ok-append-in-Append.ensures.sections in let seen = c.self.view_is in cc)

pub returns-in-Sync : goal.returns-in-Sync
returns-in-Sync c =
    call-sync c.args.call.now c.in-Sync.section _ _ c.in-Sync.is (let step = c.sync.ensures.sections in let seen = c.self.view_is in cc)

pub returns-in-Prune : goal.returns-in-Prune
returns-in-Prune c =
    call-prune c.args.call.now c.in-Prune.least _ _ c.in-Prune.is (let step = c.prune.ensures.sections in let seen = c.self.view_is in cc)

pub returns-in_default : goal.returns-in_default
returns-in_default c = call-other c.args.call.now c.args.self.now c.in_default.not-Append c.in_default.not-Sync c.in_default.not-Prune
