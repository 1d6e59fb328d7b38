-- An outdated member that has heard these messages, the newest first.
use Rattle.std.specs.Prelude.{◌≡◌, ℕ, List, Option}
use Rattle.std.specs.Ordering.{nat_cmp}
use Rattle.std.specs.BTreeMap as tree
use Rattle.simplex_values.specs.declared.proposal.Proposal.{Proposal}
use Rattle.simplex_values.specs.declared.proposal.Subject.{Subject}
use Rattle.simplex_wire.specs.declared.attestation.Attestation.{Attestation}
use Rattle.model_faults.specs.Heard.{Heard}
use Rattle.model_faults.specs.Outdated.{stored_at}
use Rattle.simplex_mocks.specs.declared.stored.Stored.{Stored}
use Rattle.simplex_mocks.specs.declared.outdated.Outdated.{Outdated}

unfoldable pub stored_in : Stored → ℕ → Option Proposal
stored_in stored view = tree.get nat_cmp stored.proposals view

-- it signs so, is so many views behind, and has what was heard last of each view
unfoldable pub StandsFor : {S : Type 0} → (S → Subject → Option Attestation) → Outdated S
    → (Subject → Option Attestation) → (delta : ℕ) → List Heard → Type 0
StandsFor signs outdated attests delta before =
    (signs outdated.scheme ≡ attests)
    × (outdated.view_delta ≡ delta)
    × ((view : ℕ) → stored_in outdated.stored view ≡ stored_at before view)
