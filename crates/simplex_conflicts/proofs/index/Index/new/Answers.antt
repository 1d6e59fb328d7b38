use Rattle.std.proofs.Common.{ap, arith}
use Rattle.law_agreement.specs.World.{view_of}
use Rattle.simplex_conflicts.specs.Indexes.{is_other}
use Rattle.simplex_conflicts.proofs.index.Index.new.Goals as goal

pub returns-clause-stands : goal.returns-clause-stands
returns-clause-stands c = record {
  some_length = omega arith;
  named_are = λ p. ap (is_other p) (c.empty_map.ensures (view_of p));
  finals_are = λ view. c.empty_set.ensures view;
  nullified_are = λ view. c.empty_set-2.ensures view;
  stairs_are = c.new.ensures;
}
