-- What a record is in which no fault is found.
use Rattle.std.specs.Prelude.{◌≡◌, true, false, List, [], ◌∷◌, IsNone}
use Rattle.simplex_transcript.specs.declared.event.Event.{Event}
use Rattle.model_run.specs.Setting.{Setting}
use Rattle.model_run.specs.Life.{Noted}
use Rattle.model_run.specs.Forged.{first_forged}
use Rattle.law_run.specs.Complete.{node_named, IsValid}
use Rattle.model_audit.specs.declared.record.AuditEntry.{AuditEntry}
use Rattle.model_audit.specs.Rebuilt.{rebuilt, rebuilt_entry}
use Rattle.model_audit.specs.Fitting.{fits}
use Rattle.model_audit.specs.Conditions.{is_allowed}
use Rattle.model_audit.specs.VotesDue.{sends_due}
use Rattle.model_audit.specs.Conflicts.{has_conflict}
use Rattle.model_audit.specs.Audit.{if_honest, stores_first}

-- The entry fits its event, and this could be taken; no packet of a faulty node holds what is forged; an honest member's
-- votes were stored before they were sent, and are those that are due; and no certificate that verifies conflicts with one
-- here or before
pub record IsFaultless (setting : Setting) (before : List Noted) (event : Event) (e : AuditEntry) : Type 0 where
  pub fitting : fits before event e ≡ true
  pub allowed : is_allowed setting before event ≡ true
  pub genuine : IsNone (first_forged setting.setup before (rebuilt_entry e))
  pub stored : if_honest setting (node_named event) (stores_first setting before (rebuilt_entry e)) ≡ true
  pub ruled : if_honest setting (node_named event) (λ node. sends_due setting before (rebuilt_entry e) node event) ≡ true
  pub agrees : has_conflict setting.setup before (rebuilt_entry e) ≡ false

-- one entry for each event, each without fault behind those before it
unfoldable pub AreFaultless : Setting → List Noted → List Event → List AuditEntry → Type 0
AreFaultless setting before [] [] = Unit {0}
AreFaultless setting before (event ∷ events) (e ∷ entries) =
    IsFaultless setting before event e × AreFaultless setting (rebuilt event e ∷ before) events entries
AreFaultless setting before _ _ = ⊥

-- the setup keeps its limits, and each entry is without fault
pub record IsSound (setting : Setting) (events : List Event) (entries : List AuditEntry) : Type 0 where
  pub valid : IsValid setting.setup events
  pub faultless : AreFaultless setting [] events entries

-- the entries of a record as those of a run, the newest first, behind these
unfoldable pub rebuilt_from : List Noted → List Event → List AuditEntry → List Noted
rebuilt_from before (event ∷ events) (e ∷ entries) = rebuilt_from (rebuilt event e ∷ before) events entries
rebuilt_from before _ _ = before

abbrev pub all_rebuilt : List Event → List AuditEntry → List Noted
all_rebuilt events entries = rebuilt_from [] events entries
