use Rattle.std.proofs.Common.{rules, [], ◌∷◌, take}
use Rattle.simplex_messages.specs.Step.{blocked_by_calls}
use Rattle.simplex_turns.proofs.Blocked.{blocked-more, same-noted}
use Rattle.simplex_turns.proofs.blocking.note_blocks.Goals as goal

pub loop-call-preserved : goal.loop-call-preserved
loop-call-preserved c =
    same-noted c.note.new.blocked.keys c.loop-call.blocked.keys (blocked_by_calls (take c.loop-call.call-index c.args.calls.now)) (blocked_by_calls (c.call-item.result ∷ [])) c.args.blocked.now.keys _
    c.in_ok-note.ensures c.loop-call.invariant (blocked-more c.args.calls.now c.loop-call.call-index c.call-item.result (search rules) c.call-item.is)
