use Rattle.std.proofs.Common.{arith, refl}
use Rattle.std.proofs.lemmas.Grind.{common_steps}
use Rattle.std.proofs.lemmas.Result.{on_ok_weaker}
use Rattle.model_rules.specs.Known.{Answered}
use Rattle.simplex_known.proofs.Facts.{learn_round}
use Rattle.simplex_known.proofs.Growing.{grows}
use Rattle.simplex_known.proofs.known.Known.answer_proposal.Goals as goal

pub returns : goal.returns
unfolding learn_round
returns c = on_ok_weaker c.add_proposal.result (λ did.
    grows _ _ (Answered c.args.proposal.now) (record {
      rules = refl;
      length = refl;
      final = omega arith;
      current = omega arith;
      rounds = λ q. grind (arith, common_steps, c.in_ok-put_round.ensures q);
      given_up = λ q. refl;
      covers = λ covered stands. stands;
      answered = did;
      approved = λ p. refl;
    })) c.add_proposal.ensures
