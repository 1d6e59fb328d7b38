-- Which entries of a record a judge stands for.
use Rattle.std.specs.Prelude.{◌≡◌, ◌∷◌, ◌++◌, [], List, Option, None}
use Rattle.simplex_transcript.specs.declared.event.Event.{Event}
use Rattle.model_run.specs.Life.{Noted}
use Rattle.model_run.specs.Setting.{Setting}
use Rattle.model_audit.specs.declared.record.AuditEntry.{AuditEntry}
use Rattle.model_audit.specs.declared.record.AuditFault.{AuditFault}
use Rattle.model_audit.specs.Audit.{fault_in}
use Rattle.model_audit.specs.Rebuilt.{rebuilt}
use Rattle.simplex_case.specs.Stands.{CaseStands}
use Rattle.simplex_conflicts.specs.Standing.{StandsFor}
use Rattle.simplex_judge.specs.Followers.{FollowersStand}
use Rattle.simplex_judge.specs.declared.judge.Judge.{Judge}

-- it keeps these entries of the record, in which no fault was found, and which are these of a run, the newest first
pub record JudgeStands (judge : Judge) (setting : Setting) (prior : List AuditEntry) (before : List Noted) : Type 0 where
  pub case : CaseStands judge.case setting.setup prior before
  pub followers : FollowersStand judge.followers.seats.items setting before
  pub standing : StandsFor judge.standing setting.setup before

-- whatever entries it kept, this is the first fault of the next one, and where it has none, it keeps that too
pub record Judges (old new : Judge) (setting : Setting) (prior : List AuditEntry) (event : Event) (e : AuditEntry) (fault : Option AuditFault) : Type 0 where
  pub answers : (before : List Noted) → JudgeStands old setting prior before → fault ≡ fault_in setting before event e
  pub stands : (before : List Noted) → JudgeStands old setting prior before → fault ≡ None → JudgeStands new setting (prior ++ e ∷ []) (rebuilt event e ∷ before)
