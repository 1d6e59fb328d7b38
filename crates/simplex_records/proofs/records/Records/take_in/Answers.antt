use Rattle.simplex_records.proofs.KeptPackets.{packets-from}
use Rattle.simplex_records.proofs.records.Records.take_in.Goals as goal

pub returns-clause-stands : goal.returns-clause-stands
returns-clause-stands c =
    rw c.as_slice-2.ensures at
    (c.in_ok-add.ensures.stands (rw (c.as_slice-2.ensures, c.in_ok-packets.ensures, c.as_slice.ensures) (packets-from c.args.setup.now c.args.node c.args.out.now.calls)))
