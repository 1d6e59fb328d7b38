use Rattle.std.proofs.Common.{arith, ◌∷◌, [], sym}
use Rattle.std.proofs.lemmas.Grind.{common_steps}
use Rattle.model_rules.specs.Calls.{facts_of, known_of}
use Rattle.simplex_state.specs.Stands.{StandsFor}
use Rattle.simplex_state.proofs.Proposing.{takes_facts}
use Rattle.model_rules.specs.Known.{ProposalAsked}
use Rattle.model_rules.specs.Calls.{request_context}
use Rattle.simplex_state.proofs.state.State.try_propose.Goals as goal

pub returns-clause-stands : goal.returns-clause-stands
unfolding StandsFor facts_of
returns-clause-stands g c = λ made calls s.
    takes_facts _ made calls _ (ProposalAsked (request_context c.in-Some.request).round.view ∷ [])
    (grind (arith, common_steps, c.proposal_request.ensures made calls s))
    (rw (sym c.context.ensures) (c.in_ok-ask_proposal.ensures made (known_of made calls) s))

pub returns-in_default-clause-stands : goal.returns-in_default-clause-stands
unfolding StandsFor facts_of
returns-in_default-clause-stands g c = λ made calls s.
    takes_facts _ made calls _ [] (grind (arith, common_steps, c.proposal_request.ensures made calls s)) s
