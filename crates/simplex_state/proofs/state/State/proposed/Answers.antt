use Rattle.std.proofs.Common.{arith, ◌∷◌, []}
use Rattle.std.proofs.lemmas.Grind.{common_steps}
use Rattle.simplex_state.proofs.Proposing.{takes_facts, keeps_answered, slot_is}
use Rattle.model_rules.specs.Known.{Answered}
use Rattle.model_rules.specs.Slot.{records_answer}
use Rattle.simplex_state.specs.Stands.{StandsFor}
use Rattle.simplex_state.specs.Progress.{progress_of}
use Rattle.model_rules.specs.Calls.{facts_of, known_of, proposal_on}
use Rattle.simplex_state.proofs.state.State.proposed.Goals as goal

pub returns-clause-stands : goal.returns-clause-stands
unfolding StandsFor facts_of records_answer progress_of
returns-clause-stands g c = λ made calls s. (
    let e = c.records_answer.ensures made calls s in
    takes_facts _ made calls _ (Answered (proposal_on c.args.context.now c.args.payload) ∷ [])
    (grind (arith, common_steps, e))
    (keeps_answered _ made (known_of made calls) (proposal_on c.args.context.now c.args.payload) _ s
    (grind (arith, common_steps, e, s.ahead))
    (grind (arith, common_steps, e, slot_is (known_of made calls) c.args.context.now.round.view))
    (λ q. grind (arith, common_steps, c.in_ok-put_round.ensures q))))
