use Rattle.simplex_records.proofs.Routes.{sent-packet}
use Rattle.simplex_records.proofs.routing.packet_for_send.Goals as goal

pub returns : goal.returns
returns c =
    sent-packet c.args.setup.now c.args.from c.args.channel c.args.to.now c.args.bytes c.in_ok-view.view c.in_ok-nodes_for.field-0
    (rw c.as_slice.ensures at c.in_ok-view.ensures) c.in_ok-nodes_for.ensures
