-- Which of the activities that are told are taken.
use Rattle.std.specs.Prelude.{ℕ, Bool, List, [], ◌∷◌, Option, Some, None}
use Rattle.simplex_values.specs.declared.proposal.Subject.{Subject}
use Rattle.simplex_wire.specs.declared.attestation.Attestation.{Attestation}
use Rattle.simplex_types.specs.declared.activity.Activity.{Activity}
use Rattle.model_log.specs.declared.entry.LogError.{LogError}
use Rattle.model_log.specs.Observing.{with_next, clash_of}
use Rattle.simplex_log.specs.declared.finalized_log.FinalizedLog.{FinalizedLog}
use Rattle.simplex_log.specs.Stands.{StandsFor}

-- one more, unless it clashes
abbrev pub unless_clashing : Option LogError → List Activity → Activity → List Activity
unless_clashing None taken activity = with_next taken activity
unless_clashing (Some clash) taken activity = taken

abbrev pub taken_with : (Activity → Bool) → List Activity → Activity → List Activity
taken_with verifies taken activity = unless_clashing (clash_of verifies taken activity) taken activity

-- and so on
unfoldable pub taken_of : (Activity → Bool) → List Activity → List Activity → List Activity
taken_of verifies taken [] = taken
taken_of verifies taken (activity ∷ later) = taken_of verifies (taken_with verifies taken activity) later

-- whatever activities the old log took, the new one took what the rule makes of them
abbrev pub Takes : {S : Type 0} → (S → Subject → Attestation → Bool) → (S → ℕ) → FinalizedLog S → FinalizedLog S
    → ((Activity → Bool) → List Activity → List Activity) → Type 0
Takes verified_by members old new rule =
    (verifies : Activity → Bool) (taken : List Activity) → StandsFor verified_by members old verifies taken
    → StandsFor verified_by members new verifies (rule verifies taken)
