use Rattle.law_run.specs.Backed.{of_packet}
use Rattle.simplex_conflicts.proofs.Clashing.{takes_none, list_more, list_stop, list_end}
use Rattle.simplex_conflicts.proofs.standing.Standing.take_packets.Goals as goal

pub loop-packet-init : goal.loop-packet-init
loop-packet-init c = takes_none c.args.self.now

pub loop-packet-preserved : goal.loop-packet-preserved
loop-packet-preserved c =
    list_more of_packet c.args.packets.now c.loop-packet.packet-index c.packet-item.result c.loop-packet-test.true c.packet-item.is
    c.args.self.now c.loop-packet.self c.take_packet.new.self c.loop-packet.invariant c.in_ok-take_packet.field-0 c.if-branch.false
    c.in_ok-take_packet.ensures

pub returns-then-branch : goal.returns-then-branch
returns-then-branch c =
    list_stop of_packet c.args.packets.now c.loop-packet.packet-index c.packet-item.result c.loop-packet-test.true c.packet-item.is
    c.args.self.now c.loop-packet.self c.take_packet.new.self c.loop-packet.invariant c.in_ok-take_packet.field-0 c.if-branch.true
    c.in_ok-take_packet.ensures

pub returns : goal.returns
returns c =
    list_end of_packet c.args.packets.now c.loop-packet.packet-index c.loop-packet-test.false
    c.args.self.now c.loop-packet.self c.loop-packet.invariant
