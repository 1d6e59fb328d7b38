use Rattle.std.proofs.Common.{◌≡◌, []}
use Rattle.simplex_shared.specs.Lock.{maker_at}
use Rattle.simplex_shared.specs.Passes.{unused_passes}
use Rattle.simplex_shared.proofs.making.deal.Given as goal

abbrev pub invariant-loop-number : goal.invariant-loop-number
invariant-loop-number g l = record {
  own : l.maker.table_id ≡ l.fn.maker.table_id;
  maker : l.maker.me ≡ (maker_at l.terms l.number, []);
  dealt : l.passes.items ≡ unused_passes (record { table = l.lock.table.shared.table_id; terms = l.terms }) l.number;
}
