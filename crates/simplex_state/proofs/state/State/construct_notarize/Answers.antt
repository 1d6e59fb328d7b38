use Rattle.std.proofs.Common.{arith, ◌∷◌, []}
use Rattle.std.proofs.lemmas.Grind.{common_steps}
use Rattle.model_rules.specs.Calls.{facts_of, known_of}
use Rattle.simplex_state.specs.Stands.{StandsFor}
use Rattle.simplex_state.proofs.Proposing.{takes_facts}
use Rattle.simplex_wire.specs.declared.vote.Vote.TheVariants as votes
use Rattle.model_rules.specs.Known.{Voted}
use Rattle.simplex_state.proofs.Checking.{notarize_view}
use Rattle.simplex_state.proofs.state.State.construct_notarize.Goals as goal

pub returns-clause-stands : goal.returns-clause-stands
unfolding StandsFor facts_of
returns-clause-stands g c = λ made calls s.
    takes_facts _ made calls _ (Voted (votes.Notarize c.in-Some.vote) ∷ [])
    (grind (arith, common_steps, c.notarize_at.ensures made calls s))
    (c.in_ok-vote_notarize.ensures made (known_of made calls) s
    (notarize_view made (known_of made calls) c.args.view c.in-Some.vote (grind (arith, c.notarize_at.ensures made calls s))))
