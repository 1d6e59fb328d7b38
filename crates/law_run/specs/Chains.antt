-- Chains of certified proposals.
use Rattle.std.specs.Prelude.{ℕ, ◌≡◌, ◌≤◌, List, [], ◌∷◌, Contains}
use Rattle.simplex_values.specs.declared.proposal.Proposal.{Proposal}
use Rattle.simplex_wire.specs.declared.certificate.Certificate.{Certificate}
use Rattle.simplex_wire.specs.Fields.{certificate_subject}
use Rattle.simplex_transcript.specs.declared.setup.Setup.{Setup}
use Rattle.model_run.specs.Life.{Noted}
use Rattle.law_agreement.specs.World.{view_of}
use Rattle.law_run.specs.Founded.{IsOn}
use Rattle.law_run.specs.Safe.{Stands}

-- a certificate of the run that verifies notarizes it, or makes it final
abbrev pub IsCertified : Setup → List Noted → Proposal → Type 0
IsCertified setup noted p = (c : Certificate) × Stands setup noted c × IsOn (certificate_subject c) p

-- from the first proposal down each is certified, and is for the view of the parent of the one above it
unfoldable pub IsChain : Setup → List Noted → Proposal → List Proposal → Type 0
IsChain setup noted p [] = IsCertified setup noted p
IsChain setup noted p (q ∷ down) = IsCertified setup noted p × (view_of q ≡ p.parent) × IsChain setup noted q down

-- the view of the last
abbrev pub end_view : Proposal → List Proposal → ℕ
end_view p [] = view_of p
end_view p (q ∷ down) = end_view q down

-- the proposal is on each chain that goes down from its view, or one above it, to it or below it
abbrev pub IsOnEachChain : Setup → List Noted → Proposal → Type 0
IsOnEachChain setup noted final =
    (p : Proposal) (down : List Proposal) → IsChain setup noted p down
    → view_of final ≤ view_of p → end_view p down ≤ view_of final → Contains (p ∷ down) final
