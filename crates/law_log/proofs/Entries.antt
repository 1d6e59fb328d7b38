-- What holds of a safe run holds of the entries of a whole one.
use Rattle.std.proofs.Common.{◌≡◌, ℕ, not, Bool, true, false, List, [], ◌∷◌, ◌++◌, Option, Some, None, Result, Ok, Err, refl, sym, ap, subst, take, if◌then◌else◌}
use Rattle.simplex_types.specs.declared.activity.Activity.{Activity}
use Rattle.simplex_transcript.specs.declared.entry.Entry.{Entry}
use Rattle.simplex_transcript.specs.declared.event.Event.{Event}
use Rattle.simplex_transcript.specs.declared.field.Field.{Field}
use Rattle.simplex_transcript.specs.declared.node.Node.{Node}
use Rattle.simplex_transcript.specs.declared.setup.Setup.{Setup}
use Rattle.simplex_transcript.specs.declared.refusal.Refusal.{Refusal}
use Rattle.model_run.specs.Setting.{Setting, setting_of}
use Rattle.model_run.specs.Life.{Noted}
use Rattle.model_run.specs.Run.{unless_bad, run, transcript_of, RunFrom}
use Rattle.law_run.specs.Histories.{IsRun}
use Rattle.law_run.specs.Safe.{IsSafe}
use Rattle.law_run.proofs.Ran.{run_is_run}
use Rattle.model_log.specs.declared.entry.LogEntry.{LogEntry}
use Rattle.model_log.specs.Fronts.{AreFronts}
use Rattle.model_log.specs.Observing.{clash_of}
use Rattle.law_log.specs.Logs.{verified_by, log_at, logs_in}
use Rattle.law_log.specs.Reports.{entries_of, reported}
use Rattle.law_log.specs.Transcripts.{IsTranscript, LogsAreFronts, ReportsDoNotClash, AreLogsOf}
use Rattle.law_log.proofs.Reporting.{run_fronts, run_no_clash}

not_refused : {A E : Type 0} (b : Bool) (x : E) (r : Result A E) (a : A) → (if not b then Err x else r) ≡ Ok a → r ≡ Ok a
not_refused true x r a e = e
not_refused false x r a e = cc

unbad : (o : Option Field) (r : Result (List Entry) Refusal) (entries : List Entry) → unless_bad o r ≡ Ok entries → r ≡ Ok entries
unbad None r entries e = e
unbad (Some field) r entries e = cc

-- the entries are those that the events make, in their order
pub record IsRan (setting : Setting) (events : List Event) (entries : List Entry) : Type 0 where
  pub noted : List Noted
  pub made : run setting [] events ≡ Ok noted
  pub ran : IsRun setting noted
  pub safe : IsSafe setting noted
  pub same : entries_of noted ≡ entries

ran_run : (setting : Setting) (events : List Event) (entries : List Entry) → RunFrom setting events ≡ Ok entries → transcript_of (run setting [] events) ≡ Ok entries
unfolding RunFrom
ran_run setting events entries e = unbad _ (transcript_of (run setting [] events)) entries (not_refused _ _ _ entries e)

pub transcript_ran : (setup : Setup) (events : List Event) (entries : List Entry) (t : IsTranscript setup events entries) → IsRan (setting_of setup t.genesis) events entries
unfolding IsRun
transcript_ran setup events entries t = at (run setting [] events) refl (ran_run setting events entries t.ran)
  where
    setting : Setting
    setting = setting_of setup t.genesis

    at : (r : Result (List Noted) Refusal) → run setting [] events ≡ r → transcript_of r ≡ Ok entries → IsRan setting events entries
    at (Err refusal) e h = cc
    at (Ok noted) e h = record { noted = noted; made = e; ran = run_is_run setting [] events noted tt e; safe = t.safe noted e; same = cc }

pub transcript_fronts : (setup : Setup) (events : List Event) (entries : List Entry) → IsTranscript setup events entries → LogsAreFronts setup entries
transcript_fronts setup events entries t a b i j =
    let r = transcript_ran setup events entries t in
    let s = r.safe in
    subst (λ (es : List Entry). AreFronts (log_at setup (take i es) a) (log_at setup (take j es) b)) r.same (run_fronts setup r.noted a b i j s.agrees)

pub transcript_does_not_clash : (setup : Setup) (events : List Event) (entries : List Entry) → IsTranscript setup events entries → ReportsDoNotClash setup entries
transcript_does_not_clash setup events entries t node taken later activity e =
    let r = transcript_ran setup events entries t in
    let s = r.safe in
    run_no_clash setup r.noted node taken later activity s.agrees (subst (λ (es : List Entry). reported es node ≡ taken ++ activity ∷ later) (sym r.same) e)

pub transcript_logs : (setup : Setup) (events : List Event) (entries : List Entry) → IsTranscript setup events entries → AreLogsOf setup entries (logs_in setup entries)
transcript_logs setup events entries t = record { each = refl; fronts = transcript_fronts setup events entries t }
