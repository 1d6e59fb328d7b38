use Rattle.std.proofs.Common.{◌≡◌, ◌-◌}
use Rattle.model_ledger.specs.Blocks.{transfers_from}
use Rattle.simplex_ledger.proofs.Reading.{with_front}
use Rattle.simplex_ledger.proofs.block.read_transfers.Given as goal

abbrev pub invariant-loop : goal.invariant-loop
invariant-loop l = with_front l.transfers.items (transfers_from (l.count - l.counter) l.reader) ≡ transfers_from l.count l.fn.reader
