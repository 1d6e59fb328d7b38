use Rattle.std.proofs.Common.{arith, ◌∷◌, []}
use Rattle.std.proofs.lemmas.Grind.{common_steps}
use Rattle.model_rules.specs.Known.{Broadcast}
use Rattle.simplex_wire.specs.declared.certificate.CertificateKind.TheVariants as kinds
use Rattle.model_rules.specs.Calls.{facts_of, known_of}
use Rattle.simplex_state.specs.Stands.{StandsFor}
use Rattle.simplex_state.proofs.Proposing.{takes_facts}
use Rattle.simplex_state.proofs.Moves.{keeps_sent_finalization}
use Rattle.simplex_state.proofs.Unsent.{unsent_is_known_finalization}
use Rattle.simplex_state.proofs.state.State.broadcast_finalization.Goals as goal

pub returns-clause-stands : goal.returns-clause-stands
unfolding StandsFor facts_of
returns-clause-stands g c = λ made calls s.
    takes_facts _ made calls _ (Broadcast kinds.Finalization c.args.view ∷ [])
    (grind (arith, common_steps, s.unsent_finalizations c.args.view))
    (keeps_sent_finalization _ made (known_of made calls) c.args.view _ s
    (unsent_is_known_finalization (known_of made calls) c.args.view (grind (arith, common_steps, s.unsent_finalizations c.args.view)))
    (λ q. grind (arith, common_steps, c.mark_sent.ensures q)))
