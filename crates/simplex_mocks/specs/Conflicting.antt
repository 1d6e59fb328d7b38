-- A conflicter that has heard these messages, the newest first.
use Rattle.std.specs.Prelude.{◌≡◌, List, [], ◌∷◌, Option, Some, None}
use Rattle.simplex_values.specs.declared.proposal.Subject.{Subject}
use Rattle.simplex_wire.specs.declared.attestation.Attestation.{Attestation}
use Rattle.model_faults.specs.Words.{Words, Draws}
use Rattle.model_faults.specs.Heard.{Heard}
use Rattle.model_faults.specs.Conflicter.{conflicter_drew}
use Rattle.simplex_mocks.specs.declared.conflicter.Conflicter.{Conflicter}
use Rattle.simplex_mocks.specs.Drawing.{answers_of}

-- none, or two
abbrev pub pair_list : Option (Subject × Subject) → List Subject
pair_list None = []
pair_list (Some both) = both.0 ∷ both.1 ∷ []

-- it signs so, and of these words those are left that its answers did not take
unfoldable pub StandsFor : {S : Type 0} → (S → Subject → Option Attestation) → Conflicter S
    → (Subject → Option Attestation) → Words → List Heard → Type 0
StandsFor signs conflicter attests words before =
    (signs conflicter.scheme ≡ attests) × Draws (answers_of conflicter.random) words (conflicter_drew before)
