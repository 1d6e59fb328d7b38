use Rattle.std.proofs.Common.{arith, ◌∷◌, []}
use Rattle.std.proofs.lemmas.Grind.{common_steps}
use Rattle.simplex_state.proofs.Proposing.{takes_facts}
use Rattle.model_rules.specs.Known.{Added}
use Rattle.simplex_wire.specs.declared.certificate.Certificate.TheVariants as certificates
use Rattle.simplex_state.specs.Stands.{StandsFor}
use Rattle.model_rules.specs.Calls.{facts_of, known_of, adds_finalization}
use Rattle.model_rules.specs.Views.{admits_certificate}
use Rattle.simplex_state.proofs.state.State.add_finalization.Goals as goal

pub returns-clause-stands : goal.returns-clause-stands
unfolding StandsFor facts_of adds_finalization admits_certificate
returns-clause-stands g c = λ made calls s.
    takes_facts _ made calls _ (Added (certificates.Finalization c.args.finalization) c.args.now ∷ [])
    (grind (arith, common_steps, c.adds_finalization.ensures made calls s))
    (c.in_ok-know_finalization.ensures made (known_of made calls) s (grind (arith, common_steps, s.active, c.adds_finalization.ensures made calls s)))
