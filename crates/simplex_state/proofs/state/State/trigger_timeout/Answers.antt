use Rattle.std.proofs.Common.{refl}
use Rattle.model_rules.specs.Calls.{facts_of, known_of}
use Rattle.simplex_state.specs.Stands.{StandsFor}
use Rattle.simplex_state.proofs.Proposing.{takes_facts}
use Rattle.simplex_state.proofs.state.State.trigger_timeout.Goals as goal

pub returns : goal.returns
unfolding StandsFor facts_of
returns g c = record { stands = λ made calls s. takes_facts _ made calls _ _ refl (c.in_ok-trigger.ensures made (known_of made calls) s) }
