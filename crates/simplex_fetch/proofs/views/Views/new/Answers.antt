use Rattle.std.proofs.Common.{arith}
use Rattle.std.proofs.lemmas.Grind.{common_steps}
use Rattle.model_resolver.specs.Views.{entry_at}
use Rattle.simplex_fetch.specs.Index.{AreHolders}
use Rattle.simplex_fetch.proofs.views.Views.new.Goals as goal

pub invariant_of-result : goal.invariant_of-result
unfolding entry_at AreHolders
invariant_of-result c = (
  record {
    rising = c.new.ensures.ordered;
    timed = λ d v. grind (arith, common_steps);
    numbered = λ id v. grind (arith, common_steps);
  },
  record {
    nullifications = λ v. grind (arith, common_steps);
    notarizations = λ v. grind (arith, common_steps);
    floors = λ v. grind (arith, common_steps);
  },
)
