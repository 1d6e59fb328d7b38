use Rattle.std.proofs.Common.{arith}
use Rattle.std.proofs.lemmas.Grind.{common_steps}
use Rattle.simplex_values.specs.Covers.{covers}
use Rattle.simplex_state.proofs.Walking.{first_least}
use Rattle.simplex_known.proofs.covers.complete.Goals as goal

pub returns : goal.returns
unfolding covers
returns c = λ q lies.
    grind (
      arith,
      common_steps,
      lies,
      c.in_ok-insert.ensures,
      c.term_index.ensures,
      first_least c.args.length c.args.view q (omega arith) (grind (arith, common_steps, c.term_start.ensures, c.ne.ensures, c.if-ne.false)),
    )
