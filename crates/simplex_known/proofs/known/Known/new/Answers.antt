use Rattle.std.proofs.Common.{refl, arith, false, []}
use Rattle.std.proofs.lemmas.Grind.{common_steps}
use Rattle.model_rules.specs.Ancestry.{is_covered}
use Rattle.simplex_known.specs.Opened.{lists}
use Rattle.simplex_known.specs.Rounds.{round_in, round_of}
use Rattle.simplex_known.proofs.Growing.{covers_same}
use Rattle.simplex_known.proofs.known.Known.new.Goals as goal

pub returns : goal.returns
unfolding lists round_in round_of
returns c = λ made rules.
    record {
      rules = rules;
      length = grind (arith, common_steps, rules.term_length);
      final = refl;
      current = refl;
      rounds = λ view. grind (arith, common_steps, c.empty_map.ensures view);
      given_up = c.new.ensures;
      covers = covers_same c.new-2.result (λ view. false) (is_covered made []) (λ view. refl) c.new-2.ensures.stands;
      answered = c.no_proposals.ensures;
      approved = c.no_proposals-2.ensures;
    }
