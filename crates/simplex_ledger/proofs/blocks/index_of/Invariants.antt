use Rattle.std.proofs.Common.{◌≡◌, take, drop}
use Rattle.model_ledger.specs.Doubles.{double_from, double_of}
use Rattle.simplex_ledger.specs.Index.{IsIndexOf}
use Rattle.simplex_ledger.proofs.blocks.index_of.Given as goal

abbrev pub invariant-loop-place : goal.invariant-loop-place
invariant-loop-place l = record {
  index : IsIndexOf l.index (take l.place l.blocks);
  none : double_from l.blocks l.place (drop l.place l.blocks) ≡ double_of l.blocks;
}
