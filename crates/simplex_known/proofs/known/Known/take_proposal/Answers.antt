use Rattle.std.proofs.Common.{arith, refl}
use Rattle.std.proofs.lemmas.Grind.{common_steps}
use Rattle.std.proofs.lemmas.Result.{on_ok_weaker}
use Rattle.model_rules.specs.Known.{Taken}
use Rattle.simplex_known.proofs.Facts.{learn_round}
use Rattle.simplex_known.proofs.Growing.{grows}
use Rattle.simplex_known.proofs.known.Known.take_proposal.Goals as goal

pub returns : goal.returns
unfolding learn_round
returns c = on_ok_weaker c.put_round.result (λ did.
    grows _ _ (Taken c.args.proposal.now) (record {
      rules = refl;
      length = refl;
      final = omega arith;
      current = omega arith;
      rounds = λ q. grind (arith, common_steps, did q);
      given_up = λ q. refl;
      covers = λ covered stands. stands;
      answered = λ p. refl;
      approved = λ p. refl;
    })) c.put_round.ensures
