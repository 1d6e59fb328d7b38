use Rattle.std.proofs.Common.{subst, ◌∙◌, List}
use Rattle.simplex_transcript.specs.declared.entry.Packet.{Packet}
use Rattle.simplex_case.specs.Taking.{VotesAlong}
use Rattle.simplex_case.proofs.Sending.{along-first, along-last, take-next, take-done}
use Rattle.simplex_case.proofs.taking.take_packets.Goals as goal

pub loop-packet-init : goal.loop-packet-init
loop-packet-init c = λ before stand. along-first c.args.votes.now c.args.setup.now before stand

pub loop-packet-preserved : goal.loop-packet-preserved
loop-packet-preserved c =
    λ before stand. subst (λ (ps : List Packet). VotesAlong c.take_packet.new.votes c.args.setup.now before ps)
    (take-next c.args.packets.now c.loop-packet.packet-index c.packet-item.result c.loop-packet-test.true c.packet-item.is)
    (c.in_ok-take_packet.ensures before _ (c.loop-packet.invariant before stand))

pub returns : goal.returns
returns c =
    λ before noted same stand. along-last c.loop-packet.votes c.args.setup.now before noted _
    (same ∙ take-done c.args.packets.now c.loop-packet.packet-index c.loop-packet-test.false) (c.loop-packet.invariant before stand)
