-- A step that no stop ended.
use Rattle.std.proofs.Common.{◌≡◌, ℕ, List, Option, Some, None, refl}
use Rattle.std.specs.Option.{option_map_or}
use Rattle.simplex_journal.specs.Journal.{Section}
use Rattle.simplex_messages.specs.declared.step.Outcome.TheVariants as outcomes
use Rattle.simplex_messages.specs.declared.step.Stop.{Stop}
use Rattle.simplex_messages.specs.declared.step.Stop.TheVariants as stops
use Rattle.model_steps.specs.Desk.{Doing}
use Rattle.model_steps.specs.Performed.{performed, whole, broken, stop_outcome, stop_place}

-- a stop ends a step otherwise
not_done : (stop : Stop) (doing : Doing) (place : ℕ) → stop_place stop doing.calls ≡ Some place → stop_outcome stop ≡ outcomes.Done → ⊥
unfolding stop_place
not_done stops.None doing place e f = cc
not_done (stops.Cut call keep) doing place e f = cc
not_done (stops.Fail call keep) doing place e f = cc

pub done_wholly : (stop : Stop) (doing : Doing) (sections : List Section) → (performed stop doing sections).outcome ≡ outcomes.Done → performed stop doing sections ≡ whole doing sections
unfolding performed
done_wholly stop doing sections e = at (stop_place stop doing.calls) refl e
  where
    at : (o : Option ℕ) → stop_place stop doing.calls ≡ o → (option_map_or (broken stop doing sections) o (whole doing sections)).outcome ≡ outcomes.Done
        → option_map_or (broken stop doing sections) o (whole doing sections) ≡ whole doing sections
    at None f h = refl
    at (Some place) f h = absurd (not_done stop doing place f h)
