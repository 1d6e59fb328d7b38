-- Whom the actors hand messages to.
use Rattle.std.specs.Prelude.{◌≡◌, ℕ, List, []}
use Rattle.std.specs.List.{filter_map}
use Rattle.simplex_messages.specs.declared.step.Stop.{Stop}
use Rattle.simplex_messages.specs.declared.voter.VoterInput.{VoterInput}
use Rattle.model_steps.specs.Batcher.{Made, Timed, step_out}
use Rattle.model_steps.specs.VoterLife.{VoterMade, Given, start_given, step_given}
use Rattle.model_steps.specs.Engine.{for_voter, for_batcher, for_resolver}

-- a step of the voter hands the voter nothing
abbrev pub StepsAreQuiet : Type 0
StepsAreQuiet =
    (made : VoterMade) (past : List Given) (input : VoterInput) (now : ℕ) (stop : Stop) → filter_map for_voter (step_given made past input now stop).out.handed ≡ []

-- nor does its start
abbrev pub StartsAreQuiet : Type 0
StartsAreQuiet = (made : VoterMade) (past : List Given) (now : ℕ) (stop : Stop) → filter_map for_voter (start_given made past now stop).out.handed ≡ []

-- a step of the batcher hands the batcher nothing, and the resolver nothing
abbrev pub BatcherIsQuiet : Type 0
BatcherIsQuiet = (made : Made) (before : List Timed) (given : Timed) → filter_map for_batcher (step_out made before given).handed ≡ []

abbrev pub ResolverIsLeft : Type 0
ResolverIsLeft = (made : Made) (before : List Timed) (given : Timed) → filter_map for_resolver (step_out made before given).handed ≡ []
