use Rattle.std.proofs.Common.{arith, ◌∙◌}
use Rattle.simplex_records.proofs.Routes.{routed-none, routed-item}
use Rattle.simplex_records.proofs.routing.nodes_of.Goals as goal

pub loop-member-init : goal.loop-member-init
loop-member-init c = c.new-nodes.ensures ∙ routed-none c.args.setup.now c.args.view c.args.from

pub loop-member-preserved : goal.loop-member-preserved
loop-member-preserved c =
    routed-item c.args.setup.now c.args.view c.args.from c.args.members.now c.loop-member.member-index c.member-item.result c.from.result _ _
    c.loop-member-test.true c.member-item.is (omega arith) c.loop-member.invariant c.in_ok-add_nodes.ensures
