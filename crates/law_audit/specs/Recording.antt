-- The record of a run, read as the entries of one.
use Rattle.std.specs.Prelude.{ℕ, ◌≡◌, Bool, true, false, List, map, filter, Option, Some, None}
use Rattle.std.specs.List.{filter_map}
use Rattle.model_rules.specs.Known.{Made}
use Rattle.simplex_messages.specs.declared.call.Call.{Call}
use Rattle.simplex_messages.specs.declared.step.Stop.{Stop}
use Rattle.simplex_transcript.specs.declared.entry.Entry.{Entry}
use Rattle.model_steps.specs.Desk.{Doing}
use Rattle.model_audit.specs.Alike.{AreAlike}
use Rattle.simplex_messages.specs.declared.call.Call.TheVariants as calls
use Rattle.simplex_messages.specs.declared.voter.VoterInput.{VoterInput}
use Rattle.simplex_transcript.specs.declared.node.Node.{Node}
use Rattle.model_steps.specs.Engine.{EngineMade, Did, is_whole, started_at, sections_of, voter_in, voter_past}
use Rattle.model_steps.specs.VoterLife.{place_of}
use Rattle.model_run.specs.Members.{rules_of}
use Rattle.model_steps.specs.Performed.{Performed, is_of_journal}
use Rattle.model_run.specs.Setting.{Setting}
use Rattle.model_run.specs.Kinds.{runs_engine}
use Rattle.model_run.specs.Entries as entries
use Rattle.model_audit.specs.Conditions.{is_at_end}
use Rattle.simplex_transcript.specs.declared.entry.Took.{Took}
use Rattle.simplex_transcript.specs.declared.event.StepSource.{StepSource}
use Rattle.model_steps.specs.Voter.{Standing}
use Rattle.model_run.specs.Life.{Noted, Life, Stopped, Running, life_in}
use Rattle.model_audit.specs.Taking.{Taking}
use Rattle.law_audit.specs.Taken.{Takes}
use Rattle.model_audit.specs.Record.{call_of, took_of}
use Rattle.model_audit.specs.Rebuilt.{call_for, recorded, took_for}
use Rattle.model_audit.specs.Fitting.{step_took_fits}
use Rattle.model_audit.specs.Reading.{Read, step_read, taking_of}

-- what a record tells of these entries
abbrev pub all_recorded : List Noted → List Noted
all_recorded before = map recorded before

-- which calls of the journal are prunes, and at which view
abbrev pub prune_in : Call → Option ℕ
prune_in (calls.Prune least) = Some least
prune_in _ = None

abbrev pub shape_of : List Call → List (Option ℕ)
shape_of made = map prune_in (filter is_of_journal made)

-- whether an engine runs
abbrev pub runs_in : Life → Bool
runs_in (Stopped sections) = false
runs_in (Running made past) = true

-- what a step took is read from its entry, and fits its source
pub record IsTakenSo (before : List Noted) (node : Node) (s : Standing)
    (source : StepSource) (took : Option Took) (input : VoterInput) : Type 0 where
  pub taking : Taking
  pub read : taking_of (all_recorded before) source (took_for (took_of took)) ≡ Some taking
  pub fits : step_took_fits (all_recorded before) node source (took_of took) ≡ true
  pub takes : Takes s input taking

-- the entry is the record of this step
pub record IsStep (entry : Entry) (given : Performed) : Type 0 where
  pub calls : entry.calls ≡ filter_map call_for (map call_of given.out.calls)
  pub added : entry.added ≡ given.out.added
  pub outcome : entry.outcome ≡ given.outcome

-- what is read behind it is what the step leaves
pub record IsFollowed (made : Made) (now : ℕ) (stop : Stop) (entry : Entry)
    (r : Read) (taking : Taking) (d : Doing) (given : Performed) : Type 0 where
  pub sections : (step_read made now stop entry r (Some taking)).sections ≡ given.sections
  pub known : is_whole given.outcome ≡ true
      → AreAlike (step_read made now stop entry r (Some taking)).known d.desk.known

-- whether an engine that runs is too near the greatest view is read from the record
abbrev pub AreEndsRead : Setting → List Noted → Type 0
AreEndsRead setting before =
    (node : Node) (made : EngineMade) (past : List Did) → runs_engine setting.setup node.member ≡ true
    → life_in setting before node ≡ Running made past
    → is_at_end setting (all_recorded before) node ≡ entries.is_at_end setting.setup made past

-- of an engine that runs the clock of its start, its journal, its rules, and what its voter knows, but for what no vote rests on
pub record IsRunningAs (setting : Setting) (node : Node) (made : EngineMade) (past : List Did) (r : Read) : Type 0 where
  pub start : r.start ≡ started_at past
  pub sections : r.sections ≡ sections_of made past
  pub known : AreAlike r.known (place_of (voter_in made past) (voter_past past)).standing.desk.known
  pub rules : (start : ℕ) → (made.voter start).rules ≡ rules_of setting node.member start

-- this was read of a node whose life is there; of one that is stopped its journal
abbrev pub IsReadAs : Setting → Node → Life → Read → Type 0
IsReadAs setting node (Stopped sections) r = r.sections ≡ sections
IsReadAs setting node (Running made past) r = IsRunningAs setting node made past r
