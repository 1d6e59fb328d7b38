use Rattle.std.proofs.Common.{sym, ◌∙◌, arith}
use Rattle.simplex_network.proofs.Places.{node_small, node-half}
use Rattle.simplex_network.proofs.Cutting.{seat-named, no-fresh, all-join}
use Rattle.simplex_network.proofs.cut.joining.Goals as goal

pub seat_of-requires-clause-member : goal.seat_of-requires-clause-member
seat_of-requires-clause-member c =
    let small = node_small c.args.setup.now c.in_ok-node.node c.requires (sym c.is_node.ensures ∙ c.if-not-is_node.false) in omega (arith, small)

pub returns-then-contains-clause-joins : goal.returns-then-contains-clause-joins
returns-then-contains-clause-joins c =
    λ before nodes stand seats.
    let exists = sym c.is_node.ensures ∙ c.if-not-is_node.false in
    no-fresh c.args.setup.now before nodes c.args.event.now c.in_ok-node.node (sym c.node_stepped.ensures ∙ c.in_ok-node.was) exists (sym c.is_honest.ensures ∙ c.if-not-is_honest.false)
    (sym (seat-named _ nodes c.in_ok-node.node _ (node-half c.args.setup.now c.in_ok-node.node exists) c.seat_of.ensures seats) ∙ sym c.contains.ensures ∙ c.if-contains.true)

pub returns-clause-joins : goal.returns-clause-joins
returns-clause-joins c =
    λ before nodes stand seats.
    let exists = sym c.is_node.ensures ∙ c.if-not-is_node.false in
    all-join c.args.setup.now before nodes c.args.event.now c.in_ok-node.node (sym c.node_stepped.ensures ∙ c.in_ok-node.was) exists (sym c.is_honest.ensures ∙ c.if-not-is_honest.false)
    (sym (seat-named _ nodes c.in_ok-node.node _ (node-half c.args.setup.now c.in_ok-node.node exists) c.seat_of.ensures seats) ∙ sym c.contains.ensures ∙ c.if-contains.false)
    (sym (c.has_packet.ensures c.args.setup.now before stand) ∙ c.if-not-has_packet.false)
