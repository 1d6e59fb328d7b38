use Rattle.std.proofs.Common.{arith}
use Rattle.std.proofs.lemmas.Grind.{common_steps}
use Rattle.model_rules.specs.Calls.{facts_of, known_of, verify_facts}
use Rattle.simplex_state.specs.Stands.{StandsFor}
use Rattle.simplex_state.proofs.Proposing.{takes_facts}
use Rattle.simplex_state.proofs.state.State.try_verify.Goals as goal

pub returns-clause-stands : goal.returns-clause-stands
unfolding StandsFor facts_of
returns-clause-stands g c = λ made calls s.
    takes_facts _ made calls _ (verify_facts c.verify_request-request.result)
    (grind (arith, common_steps, c.verify_request-request.ensures.answer made calls s))
    (c.in_ok-note_verify.ensures made (known_of made calls) s (c.verify_request-request.ensures.fresh made calls s))
