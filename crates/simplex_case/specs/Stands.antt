-- Which entries of a record a case stands for.
use Rattle.std.specs.Prelude.{◌≡◌, ◌*◌, ◌-◌, ◌^◌, ◌≤◌, ℕ, All, Bool, true, IfSome, List, length, Option, None, Some}
use Rattle.std.specs.List.{slice_get}
use Rattle.simplex_wire.specs.declared.certificate.Finalization.{Finalization}
use Rattle.simplex_transcript.specs.declared.event.Event.{Event}
use Rattle.simplex_transcript.specs.declared.node.Node.{Node}
use Rattle.simplex_transcript.specs.declared.setup.Setup.{Setup}
use Rattle.model_run.specs.Entries.{was_reported}
use Rattle.model_run.specs.Kinds.{is_node, members_of, runs_engine}
use Rattle.model_run.specs.Life.{Noted, clock_of}
use Rattle.model_run.specs.Setting.{Setting}
use Rattle.simplex_records.specs.Reported.{has_reported}
use Rattle.simplex_records.specs.Seats.{node_at}
use Rattle.simplex_records.specs.Votes.{VotesStand}
use Rattle.model_audit.specs.declared.record.AuditEntry.{AuditEntry}
use Rattle.model_audit.specs.Conditions.{is_at_end}
use Rattle.model_audit.specs.Running.{runs_at}
use Rattle.simplex_case.specs.Answered.{AnswersStand}
use Rattle.simplex_case.specs.Desk.{DeskStands}
use Rattle.simplex_case.specs.Items.{AreItems}
use Rattle.simplex_case.specs.Taking.{own_node}
use Rattle.simplex_case.specs.declared.case.Case.{Case}
use Rattle.simplex_case.specs.declared.desk.Desk.{Desk}

-- what is kept of the node at each seat
unfoldable pub DesksStand : List Desk → List Noted → Type 0
DesksStand desks before = (at : ℕ) (desk : Desk) → slice_get desks at ≡ Some desk → DeskStands desk before (node_at at)

-- the event is one of a node that exists, or of none
unfoldable pub IsOfNode : Setup → Event → Type 0
IsOfNode setup event = IfSome (own_node event) (λ node. is_node setup node ≡ true)

-- each event is one of a node that exists, or of none
unfoldable pub AreOfNodes : Setup → List Noted → Type 0
AreOfNodes setup before = All (λ (noted : Noted). IsOfNode setup noted.event) before

-- the case of a run that is so set up keeps these entries of a record, which are these of a run, the newest first
pub record CaseStands (case : Case) (setup : Setup) (prior : List AuditEntry) (before : List Noted) : Type 0 where
  pub items : AreItems prior before
  pub clock : case.clock ≡ clock_of before
  pub early : case.clock ≤ 2 ^ 63 - 1
  pub seats : length case.desks.items ≡ 2 * members_of setup
  pub desks : DesksStand case.desks.items before
  pub nodes : AreOfNodes setup before
  pub answers : AnswersStand case.answered.marks.items before
  pub reported : (f : Finalization) → has_reported case.reported f ≡ was_reported setup before f
  pub votes : VotesStand case.votes setup before

-- whatever entries the case stands for, this is the rule's answer at them
abbrev pub Answers : {A : Type 0} → Case → Setup → List AuditEntry → (List Noted → A) → A → Type 0
Answers case setup prior rule answer = (before : List Noted) → CaseStands case setup prior before → answer ≡ rule before

-- of a node that exists, runs an engine and runs, this is whether it is at its end
abbrev pub IsEndOf : Setting → List Noted → Bool → Option Node → Type 0
IsEndOf setting before at_end None = Unit {0}
IsEndOf setting before at_end (Some node) =
    is_node setting.setup node ≡ true → runs_engine setting.setup node.member ≡ true → runs_at before node ≡ true → at_end ≡ is_at_end setting before node
