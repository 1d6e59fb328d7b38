use Rattle.std.proofs.lemmas.Result.{err_from_is_err_and}
use Rattle.model_ledger.specs.Blocks.{transfers_from}
use Rattle.simplex_ledger.proofs.Reading.{goes_on, ends, is_done}
use Rattle.simplex_ledger.proofs.block.read_transfers.Goals as goal

pub returns-in_err-transfer : goal.returns-in_err-transfer
returns-in_err-transfer c =
    let p = err_from_is_err_and c.from_residual.result c.from_residual.ensures.1 in
    rw (p.1, p.2) (ends c.in_err-transfer.field-0.0 c.loop.transfers.items c.args.count c.loop.counter c.loop.reader c.read_transfer.new.reader (transfers_from c.args.count c.args.reader.now) c.loop-test.true c.in_err-transfer.ensures c.loop.invariant)

pub loop-preserved : goal.loop-preserved
loop-preserved c =
    rw c.in_ok-push.ensures.items (goes_on c.loop.transfers.items c.args.count c.loop.counter c.loop.reader c.in_ok-transfer.transfer c.read_transfer.new.reader (transfers_from c.args.count c.args.reader.now) c.loop-test.true c.in_ok-transfer.ensures c.loop.invariant)

pub returns : goal.returns
returns c = is_done c.loop.transfers.items c.args.count c.loop.counter c.loop.reader (transfers_from c.args.count c.args.reader.now) c.loop-test.false c.loop.invariant
