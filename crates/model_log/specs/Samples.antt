-- Small values to try the log on.
use Rattle.std.specs.Prelude.{ℕ, Bool, true, [], ◌∷◌}
use Rattle.simplex_values.specs.declared.proposal.Proposal.{Proposal}
use Rattle.simplex_types.specs.declared.activity.Activity.{Activity}
use Rattle.simplex_types.specs.declared.activity.Activity.TheVariants as activities
use Rattle.model_log.specs.declared.entry.LogEntry.{LogEntry}

abbrev pub anything : Activity → Bool
anything _ = true

-- a proposal of a view on a parent
abbrev pub block : ℕ → ℕ → ℕ → Proposal
block view parent payload =
    record { round = record { epoch = 0; view = view }; parent = parent; payload = payload ∷ [] }

abbrev pub notarized : Proposal → Activity
notarized p = activities.Notarization (record { proposal = p; certificate = [] })

abbrev pub finalized : Proposal → Activity
finalized p = activities.Finalization (record { proposal = p; certificate = [] })

abbrev pub nullified : ℕ → Activity
nullified view = activities.Nullification (record { round = record { epoch = 0; view = view }; certificate = [] })

abbrev pub line : ℕ → ℕ → ℕ → LogEntry
line view parent payload = record { view = view; parent = parent; payload = payload ∷ [] }
