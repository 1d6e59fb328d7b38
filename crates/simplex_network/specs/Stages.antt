-- How far a step is.
use Rattle.std.specs.Prelude.{Bool, true, false}
use Rattle.simplex_network.specs.declared.task.Stage.{Stage}
use Rattle.simplex_network.specs.declared.task.Stage.TheVariants as stages
use Rattle.simplex_network.specs.Answer.{is_failed}

-- it is made, or refused
abbrev pub is_done : Stage → Bool
is_done (stages.Given given) = false
is_done _ = true

abbrev pub is_made : Stage → Bool
is_made (stages.Made made) = true
is_made _ = false

-- it is refused as behind want of memory, which none is
abbrev pub is_failed_at : Stage → Bool
is_failed_at (stages.Refused error) = is_failed error
is_failed_at _ = false
