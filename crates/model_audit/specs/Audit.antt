-- The verdict on a record.
use Rattle.std.specs.Prelude.{ℕ, ◌+◌, ◌&&◌, Bool, true, false, not, List, [], ◌∷◌, length, is_some, Option, Some, None, if◌then◌else◌}
use Rattle.std.specs.Option.{is_none, option_or}
use Rattle.simplex_journal.specs.Contents.{kept}
use Rattle.simplex_transcript.specs.declared.event.Event.{Event}
use Rattle.simplex_transcript.specs.declared.entry.Entry.{Entry}
use Rattle.simplex_transcript.specs.declared.node.Node.{Node}
use Rattle.model_run.specs.Kinds.{is_honest}
use Rattle.model_run.specs.Setting.{Setting}
use Rattle.model_run.specs.Life.{Noted}
use Rattle.model_run.specs.Forged.{first_forged}
use Rattle.model_run.specs.Run.{are_few}
use Rattle.model_run.specs.Setups.{first_bad}
use Rattle.law_run.specs.Complete.{node_named}
use Rattle.model_audit.specs.declared.record.AuditEntry.{AuditEntry}
use Rattle.model_audit.specs.declared.record.AuditFault.{AuditFault}
use Rattle.model_audit.specs.declared.record.AuditFault.TheVariants as faults
use Rattle.model_audit.specs.declared.record.Verdict.{Verdict}
use Rattle.model_audit.specs.declared.record.Verdict.TheVariants.{Sound, Fault}
use Rattle.model_audit.specs.Rebuilt.{rebuilt, rebuilt_entry}
use Rattle.model_audit.specs.Fitting.{fits}
use Rattle.model_audit.specs.Conditions.{is_allowed}
use Rattle.model_audit.specs.Order.{are_in_order}
use Rattle.model_audit.specs.VotesDue.{sends_due}
use Rattle.model_audit.specs.Conflicts.{has_conflict}
use Rattle.model_audit.specs.Reading.{read}

-- the fault, unless the test holds
abbrev pub unless : Bool → AuditFault → Option AuditFault
unless true fault = None
unless false fault = Some fault

-- the test, of an honest member's entry alone
abbrev pub if_honest : Setting → Option Node → (Node → Bool) → Bool
if_honest setting None test = true
if_honest setting (Some node) test = if is_honest setting.setup node.member then test node else true

-- its votes were stored before they were sent
abbrev pub stores_first : Setting → List Noted → Entry → Node → Bool
stores_first setting before entry node = are_in_order (kept (read setting before node).sections) [] entry.calls

-- the first fault of an entry, behind those before it
unfoldable pub fault_in : Setting → List Noted → Event → AuditEntry → Option AuditFault
fault_in setting before event e =
    let entry = rebuilt_entry e in
    option_or (unless (fits before event e) faults.Entry)
    (option_or (unless (is_allowed setting before event) faults.Condition)
    (option_or (unless (is_none (first_forged setting.setup before entry)) faults.Forged)
    (option_or (unless (if_honest setting (node_named event) (stores_first setting before entry)) faults.Order)
    (option_or (unless (if_honest setting (node_named event) (λ node. sends_due setting before entry node event)) faults.Votes)
    (unless (not (has_conflict setting.setup before entry)) faults.Conflict)))))

abbrev pub verdict_or : ℕ → Option AuditFault → Verdict → Verdict
verdict_or number (Some fault) later = Fault number fault
verdict_or number None later = later

-- the verdict on the rest of a record, behind these entries
unfoldable pub judged_from : Setting → List Noted → List Event → List AuditEntry → Verdict
judged_from setting before [] [] = Sound
judged_from setting before [] (e ∷ entries) = Fault (length before + 1) faults.Entry
judged_from setting before (event ∷ events) [] = Fault (length before + 1) faults.Entry
judged_from setting before (event ∷ events) (e ∷ entries) =
    verdict_or (length before + 1) (fault_in setting before event e) (judged_from setting (rebuilt event e ∷ before) events entries)

-- the setup first
unfoldable pub audited : Setting → List Event → List AuditEntry → Verdict
audited setting events entries =
    if are_few setting.setup events && not (is_some (first_bad setting.setup)) then judged_from setting [] events entries else Fault 0 faults.Setup
