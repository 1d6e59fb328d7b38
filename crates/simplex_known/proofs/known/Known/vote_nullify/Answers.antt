use Rattle.std.proofs.Common.{arith, refl}
use Rattle.std.proofs.lemmas.Grind.{common_steps}
use Rattle.std.proofs.lemmas.Result.{on_ok_weaker}
use Rattle.simplex_wire.specs.declared.vote.Vote.TheVariants as votes
use Rattle.model_rules.specs.Known.{Voted}
use Rattle.simplex_known.proofs.Facts.{learn_round}
use Rattle.simplex_known.proofs.Growing.{grows}
use Rattle.simplex_known.proofs.known.Known.vote_nullify.Goals as goal

pub returns : goal.returns
unfolding learn_round
returns c = on_ok_weaker c.insert.result (λ did.
    grows _ _ (Voted (votes.Nullify c.args.vote.now)) (record {
      rules = refl;
      length = refl;
      final = omega arith;
      current = omega arith;
      rounds = λ q. refl;
      given_up = λ q. grind (arith, common_steps, did q);
      covers = λ covered stands. stands;
      answered = λ p. refl;
      approved = λ p. refl;
    })) c.insert.ensures
