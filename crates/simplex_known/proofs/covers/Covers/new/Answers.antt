use Rattle.std.proofs.Common.{arith}
use Rattle.std.proofs.lemmas.Grind.{common_steps}
use Rattle.simplex_values.specs.Terms.{term_index}
use Rattle.simplex_state.specs.Stands.{covered_in}
use Rattle.simplex_known.proofs.covers.Covers.new.Goals as goal

pub returns-clause-stands : goal.returns-clause-stands
unfolding covered_in
returns-clause-stands c = record {
  some_length = omega arith;
  least = λ view. grind (arith, common_steps, c.empty_map.ensures (term_index c.args.length view));
  whole = λ view held. grind (arith, common_steps, c.new.ensures (term_index c.args.length view), held);
}
