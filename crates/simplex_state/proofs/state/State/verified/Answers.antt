use Rattle.std.proofs.Common.{arith, refl}
use Rattle.std.proofs.lemmas.Grind.{common_steps}
use Rattle.std.proofs.lemmas.Result.{on_ok_weaker}
use Rattle.model_rules.specs.Known.{Approved}
use Rattle.model_rules.specs.Requests.{verify_asked}
use Rattle.model_rules.specs.Calls.{facts_of, fact_of, known_of}
use Rattle.simplex_state.specs.Stands.{StandsFor}
use Rattle.simplex_state.proofs.Proposing.{takes_facts}
use Rattle.simplex_state.proofs.Verifying.{keeps_verified}
use Rattle.simplex_state.proofs.state.State.verified.Goals as goal

pub returns : goal.returns
unfolding StandsFor facts_of
returns g c = on_ok_weaker c.put_round.result (λ did. λ made calls s.
    takes_facts _ made calls _ (fact_of Approved (verify_asked (known_of made calls) c.args.view)) refl
    (keeps_verified _ made (known_of made calls) c.args.view _ s
    (λ q low. grind (arith, common_steps, did q)))) c.put_round.ensures

pub returns-then-is_none : goal.returns-then-is_none
unfolding StandsFor facts_of
returns-then-is_none g c = λ made calls s.
    takes_facts _ made calls _ (fact_of Approved (verify_asked (known_of made calls) c.args.view)) refl
    (keeps_verified _ made (known_of made calls) c.args.view _ s
    (λ q low. grind (arith, common_steps, c.round_at-round.ensures, c.is_none.ensures, c.if-is_none.true)))
