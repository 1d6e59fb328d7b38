use Rattle.std.proofs.Common.{arith, refl}
use Rattle.std.proofs.lemmas.Grind.{common_steps}
use Rattle.simplex_wire.specs.declared.certificate.Certificate.TheVariants as certificates
use Rattle.model_rules.specs.Known.{Added}
use Rattle.simplex_known.proofs.Facts.{learn_round}
use Rattle.simplex_known.proofs.Growing.{grows}
use Rattle.simplex_known.proofs.known.Known.add_finalization.Goals as goal

pub returns : goal.returns
unfolding learn_round
returns c = λ now.
    grows _ _ (Added (certificates.Finalization c.args.finalization.now) now) (record {
      rules = refl;
      length = refl;
      final = grind (arith, common_steps);
      current = grind (arith, common_steps);
      rounds = λ q. grind (arith, common_steps, c.in_ok-put_round.ensures q);
      given_up = λ q. refl;
      covers = λ covered stands. stands;
      answered = λ p. refl;
      approved = λ p. refl;
    })
