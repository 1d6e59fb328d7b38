-- What the words of the program ask for, and what comes of it.
use Rattle.std.specs.Prelude.{ℕ, List, Option, Some, None, String, codes, map, string_bytes, if◌then◌else◌}
use Rattle.std.specs.declared.alloc.Global.{Global}
use Rattle.model_audit.specs.declared.record.Verdict.{Verdict}
use Rattle.simplex_front.specs.Words.{is_alone}
use Rattle.simplex_transcript.specs.declared.refusal.Refusal.{Refusal}
use Rattle.simplex_audits.specs.declared.recording.RecordDone.{RecordDone}
use Rattle.simplex_audits.specs.declared.work.AuditDone.{AuditDone}
use Rattle.simplex_audits.specs.declared.work.AuditDone.TheVariants as done
use Rattle.simplex_audits.specs.declared.work.AuditTask.{AuditTask}
use Rattle.simplex_audits.specs.declared.work.AuditTask.TheVariants as tasks
use Rattle.simplex_audits.specs.Checks.{CheckSays, IsNoDocument}
use Rattle.simplex_audits.specs.Says.{IsMisread, RecordSays, RefusalSays}

-- the word is `record` alone, or `check`
abbrev pub asks_for : List (String Global) → Option AuditTask
asks_for words =
    if is_alone (codes "record") (map string_bytes words) then Some tasks.Record
    else (if is_alone (codes "check") (map string_bytes words) then Some tasks.Check else None)

-- what is said of other words
abbrev pub usage : List ℕ
usage = codes "usage: record | check\n"

-- the bytes lead to this, which the text tells
abbrev pub DoneSays : AuditTask → List ℕ → AuditDone → List ℕ → Type 0
DoneSays tasks.Record bytes (done.Recorded recorded) text = RecordSays bytes recorded text
DoneSays tasks.Check bytes (done.Checked verdict) text = CheckSays bytes verdict text
DoneSays task bytes other text = ⊥

-- the run of the input is this refusal, which the text tells; no record is refused
abbrev pub RefusedSays : AuditTask → List ℕ → Refusal → List ℕ → Type 0
RefusedSays tasks.Record bytes refusal text = RefusalSays bytes refusal text
RefusedSays tasks.Check bytes refusal text = ⊥

-- the bytes are not of the form that is asked for: this is the first place
abbrev pub MisreadSays : AuditTask → List ℕ → ℕ → Type 0
MisreadSays tasks.Record bytes place = IsMisread bytes place
MisreadSays tasks.Check bytes place = IsNoDocument bytes place
