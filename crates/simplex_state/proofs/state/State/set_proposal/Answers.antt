use Rattle.std.proofs.Common.{arith, ◌∷◌, []}
use Rattle.std.proofs.lemmas.Grind.{common_steps}
use Rattle.simplex_state.proofs.Proposing.{takes_facts, records_active, records_empty}
use Rattle.model_rules.specs.Known.{Taken}
use Rattle.simplex_state.specs.Stands.{StandsFor}
use Rattle.model_rules.specs.Calls.{facts_of, known_of}
use Rattle.simplex_state.proofs.state.State.set_proposal.Goals as goal

pub returns-clause-stands : goal.returns-clause-stands
unfolding StandsFor facts_of
returns-clause-stands g c = λ made calls s.
    takes_facts _ made calls _ (Taken c.args.proposal.now ∷ [])
    (grind (arith, common_steps, c.records_proposal.ensures made calls s))
    (c.in_ok-take.ensures made (known_of made calls) s
    (records_active made (known_of made calls) c.args.proposal.now (grind (arith, c.records_proposal.ensures made calls s)) s.active)
    (records_empty made (known_of made calls) c.args.proposal.now (grind (arith, c.records_proposal.ensures made calls s))))
