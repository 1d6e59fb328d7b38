-- What the bytes of an input say of a verdict.
use Rattle.std.specs.Prelude.{ℕ, ◌≡◌, List, [], ◌∷◌, Ok, Err, codes, decimal}
use Rattle.simplex_text.specs.Lines.{pieces}
use Rattle.simplex_transcript.specs.declared.refusal.Refusal.{Refusal}
use Rattle.model_run.specs.Setting.{at_epoch_genesis}
use Rattle.model_audit.specs.declared.record.AuditFault.{AuditFault}
use Rattle.model_audit.specs.declared.record.AuditFault.TheVariants as faults
use Rattle.model_audit.specs.declared.record.Verdict.{Verdict}
use Rattle.model_audit.specs.declared.record.Verdict.TheVariants.{Sound, Fault}
use Rattle.model_audit.specs.Audit.{audited}
use Rattle.simplex_audit_form.specs.declared.document.Document.{Document}
use Rattle.simplex_audit_form.specs.Document.{document_of}

abbrev pub fault_name : AuditFault → List ℕ
fault_name faults.Setup = codes "Setup"
fault_name faults.Entry = codes "Entry"
fault_name faults.Condition = codes "Condition"
fault_name faults.Forged = codes "Forged"
fault_name faults.Order = codes "Order"
fault_name faults.Votes = codes "Votes"
fault_name faults.Conflict = codes "Conflict"

-- the line on a fault at an event
abbrev pub fault_line : List ℕ → ℕ → List ℕ
fault_line name event = pieces (codes "fault " ∷ name ∷ codes " at " ∷ decimal event ∷ codes "\n" ∷ [])

abbrev pub verdict_text : Verdict → List ℕ
verdict_text Sound = codes "sound\n"
verdict_text (Fault event cause) = fault_line (fault_name cause) event

-- the bytes say a setup, events and the entries of a record, of which this is the verdict, which the text tells
abbrev pub CheckSays : List ℕ → Verdict → List ℕ → Type 0
CheckSays bytes verdict text =
    (document : Document) × (document_of bytes ≡ Ok document) × (verdict ≡ audited (at_epoch_genesis document.setup) document.events document.entries)
    × (text ≡ verdict_text verdict)

-- the bytes are not of the form: this is the first place
abbrev pub IsNoDocument : List ℕ → ℕ → Type 0
IsNoDocument bytes place = document_of bytes ≡ Err place

-- no record is refused
abbrev pub NothingRefused : Refusal → List ℕ → Type 0
NothingRefused refusal text = ⊥
