use Rattle.std.proofs.Common.{sym, ap, ◌∙◌, drop, ◌+◌}
use Rattle.std.specs.Option.{option_or}
use Rattle.model_run.specs.Forged.{signed_by_faulty}
use Rattle.simplex_records.specs.Forgeries.{is_unsent, first_of}
use Rattle.simplex_records.proofs.Forging.{packets-left}
use Rattle.simplex_records.proofs.sent_votes.SentVotes.first_forged.Goals as goal

pub returns-in-Some : goal.returns-in-Some
returns-in-Some c =
    ap (λ found. option_or found (first_of (is_unsent c.args.self.now c.args.setup.now) (signed_by_faulty c.args.setup.now (drop (c.loop-packet.packet-index + 1) c.args.packets.now))))
    (sym c.in-Some.is ∙ c.in_ok-found.ensures)
    ∙ sym (packets-left (is_unsent c.args.self.now c.args.setup.now) c.args.setup.now c.args.packets.now c.loop-packet.packet-index c.packet-item.result
    c.loop-packet-test.true c.packet-item.is)
    ∙ c.loop-packet.invariant

pub loop-packet-preserved : goal.loop-packet-preserved
loop-packet-preserved c =
    ap (λ found. option_or found (first_of (is_unsent c.args.self.now c.args.setup.now) (signed_by_faulty c.args.setup.now (drop (c.loop-packet.packet-index + 1) c.args.packets.now))))
    (sym c.in_default.is ∙ c.in_ok-found.ensures)
    ∙ sym (packets-left (is_unsent c.args.self.now c.args.setup.now) c.args.setup.now c.args.packets.now c.loop-packet.packet-index c.packet-item.result
    c.loop-packet-test.true c.packet-item.is)
    ∙ c.loop-packet.invariant
