use Rattle.std.proofs.Common.{◌∙◌}
use Rattle.simplex_records.proofs.Routes.{routed-none, others-more, others-but}
use Rattle.simplex_records.proofs.routing.nodes_of_others.Goals as goal
use Rattle.simplex_records.proofs.routing.nodes_of_others.Goals.{then-member-from+in_ok-add_nodes, else-member-from}

pub loop-member-init : goal.loop-member-init
loop-member-init c = c.new-nodes.ensures ∙ routed-none c.args.setup.now c.args.view c.args.from

pub loop-member-preserved : goal.loop-member-preserved
loop-member-preserved c =
    elim c.if-member-from.branch [
      | then-member-from+in_ok-add_nodes w ↦ w.nodes-is
          ∙ others-more c.args.setup.now c.args.view c.args.from c.loop-member.member _ _ w.if-member-from.true c.loop-member.invariant w.in_ok-add_nodes.ensures
      | else-member-from w ↦ w.nodes-is
          ∙ others-but c.args.setup.now c.args.view c.args.from c.loop-member.member _ w.if-member-from.false c.loop-member.invariant
    ]
