use Rattle.std.proofs.Common.{arith, ◌∷◌, ◌++◌, [], if◌then◌else◌}
use Rattle.std.proofs.lemmas.Grind.{common_steps}
use Rattle.simplex_values.specs.declared.timeout.TimeoutReason.TheVariants.{FailedCertification}
use Rattle.model_rules.specs.Known.{Judged}
use Rattle.model_rules.specs.Deadline.{triggered}
use Rattle.model_rules.specs.Calls.{facts_of, known_of, judged}
use Rattle.simplex_state.specs.Stands.{StandsFor, Keeps}
use Rattle.simplex_state.proofs.Proposing.{takes_facts}
use Rattle.simplex_state.proofs.Expiring.{behind_one, verdict_none}
use Rattle.simplex_state.proofs.state.State.certified.Goals as goal

pub returns-then-not-takes_verdict-clause-stands : goal.returns-then-not-takes_verdict-clause-stands
unfolding StandsFor facts_of judged
returns-then-not-takes_verdict-clause-stands g c = λ made calls s.
    takes_facts _ made calls _ [] (grind (arith, common_steps, c.takes_verdict.ensures made calls s)) s

pub returns-clause-stands : goal.returns-clause-stands
unfolding StandsFor facts_of judged
returns-clause-stands g c = λ made calls s.
    takes_facts _ made calls _ ((if c.args.good then [] else triggered made (known_of made calls) c.args.view FailedCertification c.args.now) ++ Judged c.args.view c.args.good c.args.now ∷ [])
    (grind (arith, common_steps, c.takes_verdict.ensures made calls s))
    (behind_one (Keeps _ made) _ _ _ (c.in_ok-judge.ensures made (known_of made calls) s (verdict_none (known_of made calls) c.args.view (grind (arith, c.takes_verdict.ensures made calls s)))))
