use Rattle.std.proofs.Common.{arith, ◌∙◌}
use Rattle.std.proofs.lemmas.Grind.{common_steps}
use Rattle.model_rules.specs.Calls.{facts_of, known_of, nullify_facts}
use Rattle.simplex_state.specs.Stands.{StandsFor}
use Rattle.simplex_state.proofs.Proposing.{takes_facts}
use Rattle.simplex_state.proofs.Gates.{nullify_view}
use Rattle.simplex_state.proofs.state.State.construct_nullify.Goals as goal

pub returns-clause-stands : goal.returns-clause-stands
unfolding StandsFor facts_of
returns-clause-stands g c = λ made calls s. (
    let same = nullify_view made c.args.view c.in-Some.vote (grind (arith, c.nullify_at.ensures made calls s)) in
    takes_facts _ made calls _ (nullify_facts (known_of made calls) c.in-Some.vote.round.view c.args.now c.in-Some.vote)
    (grind (arith, common_steps, c.nullify_at.ensures made calls s, same))
    (c.give_up.ensures made (known_of made calls) c.in-Some.vote s (same ∙ c.requires.current made calls s)))
