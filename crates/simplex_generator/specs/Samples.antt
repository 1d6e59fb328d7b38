-- What the samples are made of: a run in which time passes.
use Rattle.std.specs.Prelude.{ℕ, zero, suc, List, [], ◌∷◌, None}
use Rattle.simplex_transcript.specs.declared.event.Event.TheVariants as events
use Rattle.model_run.specs.Life.{Noted}
use Rattle.model_run.specs.Entries.{noted_blank}

abbrev pub pauses : ℕ → List Noted
pauses zero = []
pauses (suc count) = noted_blank (pauses count) (events.Tick 50) None ∷ pauses count
