use Rattle.std.proofs.Common.{arith, refl}
use Rattle.std.proofs.lemmas.Grind.{common_steps}
use Rattle.model_rules.specs.Calls.{known_of}
use Rattle.model_rules.specs.Requests.{is_unjudged}
use Rattle.model_rules.specs.Views.{least_active}
use Rattle.simplex_state.specs.Progress.{progress_of}
use Rattle.simplex_state.specs.Rounds.{round_of, is_open}
use Rattle.simplex_state.specs.Stands.{StandsFor}
use Rattle.simplex_state.proofs.Recording.{keeps_same}
use Rattle.simplex_state.proofs.state.State.drop_settled.Goals as goal

pub returns : goal.returns
unfolding StandsFor is_unjudged is_open round_of progress_of least_active
returns g c = λ made calls s.
    keeps_same _ made (known_of made calls) _ _ s
    (λ q low. refl)
    (λ q some waits. grind (arith, common_steps, some, waits, c.keep_open.ensures q, s.waiting q some waits, s.rounds q, s.progress, s.active))
