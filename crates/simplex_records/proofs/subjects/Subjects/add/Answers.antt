use Rattle.simplex_records.specs.Votes.{has_subject}
use Rattle.simplex_records.proofs.Voting.{packet-more}
use Rattle.simplex_records.proofs.subjects.Subjects.add.Goals as goal

pub loop-packet-preserved : goal.loop-packet-preserved
loop-packet-preserved c =
    λ s. packet-more c.args.packets.now c.loop-packet.packet-index c.packet-item.result s (has_subject c.args.self.now s) (has_subject c.loop-packet.self s) _
    c.loop-packet-test.true c.packet-item.is (c.loop-packet.invariant s) (c.in_ok-add_packet.ensures s)
