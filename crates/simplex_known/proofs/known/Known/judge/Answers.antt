use Rattle.std.proofs.Common.{arith, refl}
use Rattle.std.proofs.lemmas.Grind.{common_steps}
use Rattle.model_rules.specs.Known.{Judged}
use Rattle.simplex_known.proofs.Facts.{learn_round}
use Rattle.simplex_known.proofs.Growing.{grows}
use Rattle.simplex_known.proofs.known.Known.judge.Goals as goal

pub returns-then-not-good : goal.returns-then-not-good
unfolding learn_round
returns-then-not-good c = λ now.
    grows _ _ (Judged c.args.view c.args.good now) (record {
      rules = refl;
      length = refl;
      final = omega arith;
      current = grind (arith, common_steps);
      rounds = λ q. grind (arith, common_steps, c.in_ok-put_round.ensures q);
      given_up = λ q. refl;
      covers = λ covered stands. stands;
      answered = λ p. refl;
      approved = λ p. refl;
    })

pub returns : goal.returns
unfolding learn_round
returns c = λ now.
    grows _ _ (Judged c.args.view c.args.good now) (record {
      rules = refl;
      length = refl;
      final = omega arith;
      current = grind (arith, common_steps);
      rounds = λ q. grind (arith, common_steps, c.in_ok-put_round.ensures q);
      given_up = λ q. refl;
      covers = λ covered stands. stands;
      answered = λ p. refl;
      approved = λ p. refl;
    })
