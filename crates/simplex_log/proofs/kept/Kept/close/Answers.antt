use Rattle.std.proofs.Common.{arith}
use Rattle.simplex_log.proofs.kept.Kept.close.Goals as goal

pub returns-then-self-view-clause-stands : goal.returns-then-self-view-clause-stands
returns-then-self-view-clause-stands c = λ links finals last stands. record {
  links_are = c.end-self.ensures.same links stands.links_are;
  finals_are = stands.finals_are;
  last_is = omega (arith, stands.last_is);
  end_is = c.end-self.ensures.answer links stands.links_are;
}
