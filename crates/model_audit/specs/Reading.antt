-- What a node knows and what its journal holds, read from the entries of a record, the newest first.
use Rattle.std.specs.Prelude.{ℕ, List, [], ◌∷◌, ◌++◌, Option, Some, None, if◌then◌else◌}
use Rattle.std.specs.Option.{option_map}
use Rattle.simplex_values.specs.declared.answer.Answer.{Answer}
use Rattle.model_rules.specs.declared.request.Asked.{Asked}
use Rattle.model_rules.specs.Known.{Made, Fact}
use Rattle.simplex_journal.specs.Journal.{Section, replayed, crashed}
use Rattle.simplex_messages.specs.declared.call.Call.{Call}
use Rattle.simplex_messages.specs.declared.handed.Handed.TheVariants as handed
use Rattle.simplex_messages.specs.declared.step.Stop.{Stop}
use Rattle.simplex_messages.specs.declared.step.Stop.TheVariants as stops
use Rattle.simplex_transcript.specs.declared.event.Event.{Event}
use Rattle.simplex_transcript.specs.declared.event.Event.TheVariants as events
use Rattle.simplex_transcript.specs.declared.event.StepSource.{StepSource}
use Rattle.simplex_transcript.specs.declared.event.StepSource.TheVariants as sources
use Rattle.simplex_transcript.specs.declared.entry.Entry.{Entry}
use Rattle.simplex_transcript.specs.declared.entry.Took.{Took}
use Rattle.simplex_transcript.specs.declared.entry.Took.TheVariants as tooks
use Rattle.simplex_transcript.specs.declared.node.Node.{Node}
use Rattle.model_steps.specs.Desk.{Doing}
use Rattle.model_steps.specs.Voter.{started}
use Rattle.model_run.specs.Setting.{Setting}
use Rattle.model_run.specs.Life.{Noted, clock_of, is_of}
use Rattle.model_run.specs.Members.{floor_of, rules_of}
use Rattle.law_member.specs.Learned.{facts_of_step}
use Rattle.model_audit.specs.Alike.{own_votes}
use Rattle.model_audit.specs.Taking.{Taking, Deadline, Mail, Reply, acted}
use Rattle.model_audit.specs.JournalCalls.{journal_calls}
use Rattle.model_audit.specs.Running.{asked_at}
use Rattle.model_audit.specs.Journal.{behind_reading, sections_behind}

-- the clock of its last start, what it knows since, and its journal
pub record Read : Type 0 where
  pub start : ℕ
  pub known : List Fact
  pub sections : List Section

-- ---- what was taken

abbrev pub reply : Answer → Asked → Taking
reply answer asked = Reply asked answer

-- none where the step is not the voter's
unfoldable pub taking_of : List Noted → StepSource → Option Took → Option Taking
taking_of before sources.Timer (Some tooks.Timer) = Some Deadline
taking_of before sources.Voter (Some (tooks.Message (handed.Voter message))) = Some (Mail message)
taking_of before source (Some (tooks.Request at answer)) = option_map (reply answer) (asked_at before at)
taking_of before source took = None

-- ---- what is known behind a step

-- the own votes that were appended, the newest first
abbrev pub votes_in : ℕ → List Call → List Fact
votes_in now made = own_votes (facts_of_step now made)

abbrev pub rules_at : Setting → Node → Read → Made
rules_at setting node r = rules_of setting node.member r.start

-- after the calls of an entry: the own votes that they appended, and what they leave of the journal
abbrev pub calls_read : ℕ → Stop → Entry → Read → Read
calls_read now stop entry r =
    record r { known = votes_in now entry.calls ++ r.known; sections = sections_behind entry.outcome stop [] entry.calls r.sections }

-- after a step: what it took tells, the certificates that it added, and the own votes that it appended
abbrev pub step_read : Made → ℕ → Stop → Entry → Read → Option Taking → Read
step_read made now stop entry r None = calls_read now stop entry r
step_read made now stop entry r (Some taking) =
    record r {
      known = votes_in now entry.calls ++ acted made now r.known entry.added taking;
      sections = sections_behind entry.outcome stop (journal_calls made now r.known taking) entry.calls r.sections;
    }

-- after a start: what the rules make of the floor and of what the journal held, and the own votes that it appended
abbrev pub start_read : ℕ → Stop → Entry → Doing → Read → Read
start_read now stop entry doing r =
    record {
      start = now;
      known = votes_in now entry.calls ++ doing.desk.known;
      sections = sections_behind entry.outcome (behind_reading stop) doing.calls entry.calls r.sections;
    }

-- after a crash: nothing is known, and nothing is kept of what was pending
abbrev pub crash_read : Read → Read
crash_read r = record { start = r.start; known = []; sections = crashed 0 r.sections }

-- What an event makes of what was read of its node. The calls of an entry count, whatever its event is
abbrev pub read_behind : Setting → Node → List Noted → Entry → Event → Read → Read
read_behind setting node before entry (events.Start at floor stop) r =
    let now = clock_of before in
    start_read now stop entry (started (rules_of setting node.member now) now (floor_of setting.genesis floor) (replayed r.sections)) r
read_behind setting node before entry (events.Step at source stop) r =
    step_read (rules_at setting node r) (clock_of before) stop entry r (taking_of before source entry.took)
read_behind setting node before entry (events.Crash at) r = crash_read (calls_read (clock_of before) stops.None entry r)
read_behind setting node before entry event r = calls_read (clock_of before) stops.None entry r

unfoldable pub read : Setting → List Noted → Node → Read
read setting [] node = record { start = 0; known = []; sections = [] }
read setting (noted ∷ before) node =
    if is_of node noted.event then read_behind setting node before noted.entry noted.event (read setting before node)
    else read setting before node
