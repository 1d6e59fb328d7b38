use Rattle.std.proofs.Common.{◌∙◌}
use Rattle.model_rules.specs.Calls.{known_of}
use Rattle.simplex_state.specs.Stands.{StandsFor, Keeps}
use Rattle.simplex_state.proofs.Proposing.{takes_facts}
use Rattle.simplex_state.proofs.Waiting.{behind_both, asked_is}
use Rattle.simplex_state.proofs.state.State.certify_candidates.Goals as goal

pub returns-clause-stands : goal.returns-clause-stands
unfolding StandsFor
returns-clause-stands g c = λ made calls s.
    (let before = c.drop_settled.ensures made calls s in
    takes_facts _ made calls _ _
    (asked_is made (known_of made calls) _ _
    (c.deref.ensures.value ∙ c.in_ok-proposals.ensures.proposals made calls before)
    (c.deref-2.ensures.value ∙ c.in_ok-proposals.ensures.fetches made calls before))
    (behind_both (Keeps _ made) _ _ (known_of made calls) (c.in_ok-ask_parents.ensures made _ (c.in_ok-ask_certify.ensures made (known_of made calls) before))))
