use Rattle.std.proofs.Common.{arith, refl}
use Rattle.std.proofs.lemmas.Result.{on_ok_weaker}
use Rattle.model_rules.specs.Known.{Approved}
use Rattle.simplex_known.proofs.Facts.{learn_round}
use Rattle.simplex_known.proofs.Growing.{grows}
use Rattle.simplex_known.proofs.known.Known.approve.Goals as goal

pub returns : goal.returns
unfolding learn_round
returns c = on_ok_weaker c.add_proposal.result (λ did.
    grows _ _ (Approved c.args.proposal.now) (record {
      rules = refl;
      length = refl;
      final = omega arith;
      current = omega arith;
      rounds = λ q. refl;
      given_up = λ q. refl;
      covers = λ covered stands. stands;
      answered = λ p. refl;
      approved = did;
    })) c.add_proposal.ensures
