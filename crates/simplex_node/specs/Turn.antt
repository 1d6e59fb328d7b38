-- Which source a member steps on next.
use Rattle.std.specs.Prelude.{ℕ, List, [], ◌∷◌, Option, None, Some, if◌then◌else◌}
use Rattle.simplex_transcript.specs.declared.event.StepSource.{StepSource}
use Rattle.simplex_transcript.specs.declared.event.StepSource.TheVariants as sources
use Rattle.model_steps.specs.Engine.{EngineMade, Did}
use Rattle.simplex_engine.specs.Holding.{holds}

-- the order in which sources are tried: mail before answers, deadlines last
abbrev pub turn_order : List StepSource
turn_order =
    sources.Voter ∷ sources.Batcher ∷ sources.Resolver ∷ sources.Handler ∷ sources.Certify ∷ sources.Verify ∷ sources.Propose ∷ sources.Timer
    ∷ sources.Fetch ∷ []

-- the first of these sources that holds something at this clock
unfoldable pub first_holding : EngineMade → List Did → ℕ → List StepSource → Option StepSource
first_holding made past now [] = None
first_holding made past now (source ∷ rest) = if holds made past source now then Some source else first_holding made past now rest

abbrev pub next_source : EngineMade → List Did → ℕ → Option StepSource
next_source made past now = first_holding made past now turn_order
