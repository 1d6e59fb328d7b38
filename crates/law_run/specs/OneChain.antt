-- That what engines report as final is of one chain.
use Rattle.std.specs.Prelude.{◌≡◌, ◌<◌, ◌≤◌, ◌⊎◌, List, [], ◌∷◌, Contains}
use Rattle.simplex_values.specs.declared.proposal.Proposal.{Proposal}
use Rattle.simplex_wire.specs.declared.certificate.Finalization.{Finalization}
use Rattle.simplex_types.specs.declared.activity.Activity.TheVariants as activities
use Rattle.simplex_messages.specs.declared.call.Call.TheVariants as calls
use Rattle.simplex_transcript.specs.declared.entry.Entry.{Entry}
use Rattle.model_run.specs.Life.{Noted}
use Rattle.law_agreement.specs.World.{view_of}

-- one of the entries reports it
unfoldable pub IsReported : List Noted → Finalization → Type 0
IsReported [] f = ⊥
IsReported (noted ∷ before) f =
    Contains noted.entry.calls (calls.Report (activities.Finalization f)) ⊎ IsReported before f

-- one of the entries of a transcript does
abbrev pub IsReportedIn : List Entry → Finalization → Type 0
IsReportedIn entries f = (entry : Entry) × Contains entries entry
    × Contains entry.calls (calls.Report (activities.Finalization f))

-- of one view they are the same, and the parent of the one with the later view is not before the other
pub record AreOfOneChain (p q : Proposal) : Type 0 where
  pub same : view_of p ≡ view_of q → p ≡ q
  pub later : view_of p < view_of q → view_of p ≤ q.parent
  pub earlier : view_of q < view_of p → view_of q ≤ p.parent

-- so are each two that the entries of a transcript report as final
abbrev pub ReportOneChain : List Entry → Type 0
ReportOneChain entries = (f g : Finalization) → IsReportedIn entries f
    → IsReportedIn entries g → AreOfOneChain f.proposal g.proposal
