use Rattle.std.proofs.Common.{sym, subst}
use Rattle.simplex_turns.specs.Handing.{Drains}
use Rattle.simplex_turns.proofs.Drained.{fewer-left, came-more, came-all}
use Rattle.simplex_turns.proofs.handing.drain.Goals as goal

pub loop-message-smaller : goal.loop-message-smaller
loop-message-smaller g c =
    rw c.recv.ensures.after (fewer-left g.M.Requested.is_skipped c.loop-message.mailbox c.in-Some.message (sym c.in-Some.ensures.message))

pub loop-message-preserved : goal.loop-message-preserved
loop-message-preserved g c = λ rest drains.
    rw c.in_ok-push_back.ensures.items (came-more g.M.Requested.is_skipped c.args.mailbox c.loop-message.mailbox c.loop-message.messages.items c.in-Some.message (sym c.in-Some.ensures.message) c.loop-message.invariant rest (subst (λ m. Drains g.M.Requested.is_skipped m rest) c.recv.ensures.after drains))

pub returns : goal.returns
returns g c = came-all g.M.Requested.is_skipped c.args.mailbox c.loop-message.mailbox c.loop-message.messages.items (sym c.in_default.ensures.message) c.loop-message.invariant
