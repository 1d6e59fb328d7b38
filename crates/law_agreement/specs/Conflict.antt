-- When two certificates conflict.
use Rattle.std.specs.Prelude.{ℕ, ◌≡◌, ◌≢◌, ◌<◌, ◌⊎◌}
use Rattle.simplex_values.specs.declared.proposal.Proposal.{Proposal}
use Rattle.simplex_values.specs.declared.proposal.Subject.{Subject}
use Rattle.simplex_values.specs.declared.proposal.Subject.TheVariants.{Notarize, Nullify, Finalize}
use Rattle.law_agreement.specs.Terms.{Covers}
use Rattle.law_agreement.specs.World.{view_of}

-- both proposals are for one view, and they differ
abbrev pub AreRivals : Proposal → Proposal → Type 0
AreRivals p q = (view_of p ≡ view_of q) × (p ≢ q)

-- the second proposal is for a later view than the first, and stands on an earlier one
abbrev pub IsSkipped : Proposal → Proposal → Type 0
IsSkipped p q = (view_of p < view_of q) × (q.parent < view_of p)

-- no chain can have both: rivals, a final view that is nullified, or a final view that a later proposal skips
abbrev pub Conflict : ℕ → Subject → Subject → Type 0
Conflict length (Notarize p) (Notarize q) = AreRivals p q
Conflict length (Notarize p) (Nullify s) = ⊥
Conflict length (Notarize p) (Finalize q) = AreRivals p q ⊎ IsSkipped q p
Conflict length (Nullify r) (Notarize q) = ⊥
Conflict length (Nullify r) (Nullify s) = ⊥
Conflict length (Nullify r) (Finalize q) = Covers length r.view (view_of q)
Conflict length (Finalize p) (Notarize q) = AreRivals p q ⊎ IsSkipped p q
Conflict length (Finalize p) (Nullify s) = Covers length s.view (view_of p)
Conflict length (Finalize p) (Finalize q) = AreRivals p q ⊎ (IsSkipped p q ⊎ IsSkipped q p)
