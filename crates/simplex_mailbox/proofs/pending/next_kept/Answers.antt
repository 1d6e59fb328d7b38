use Rattle.std.proofs.Common.{◌∙◌, sym}
use Rattle.simplex_mailbox.proofs.Skipped.{goes-skipped, goes-kept, goes-none}
use Rattle.simplex_mailbox.proofs.pending.next_kept.Goals as goal

pub loop-message-preserved : goal.loop-message-preserved
loop-message-preserved g c = goes-skipped _ _ _ _ c.in-Some.message c.loop-message.invariant c.in-Some.ensures.items (sym c.is_skipped.ensures ∙ c.if-not-is_skipped.false)

pub returns-then-not-is_skipped : goal.returns-then-not-is_skipped
returns-then-not-is_skipped g c =
    let goes = goes-kept _ _ _ _ c.in-Some.message c.loop-message.invariant c.in-Some.ensures.items (sym c.is_skipped.ensures ∙ c.if-not-is_skipped.true) in
    record { message = goes.0; rest = goes.1 }

pub returns : goal.returns
returns g c =
    let goes = goes-none _ _ _ _ c.loop-message.invariant c.in_default.ensures.items c.in_default.ensures.rest in
    record { message = goes.0; rest = goes.1 }
