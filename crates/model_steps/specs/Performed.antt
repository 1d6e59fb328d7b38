-- Where a stop ends a step, and what the journal then holds.
use Rattle.std.specs.Prelude.{ℕ, ◌+◌, ◌-◌, ◌==◌, ◌&&◌, nat_lt, nat_le, Bool, true, false, List, [], ◌∷◌, length, take, Option, Some, None, if◌then◌else◌}
use Rattle.std.specs.Option.{option_map, option_map_or}
use Rattle.simplex_journal.specs.Journal.{Section, appended, synced_at, pruned, pruned_first, crashed}
use Rattle.simplex_messages.specs.declared.call.Call.{Call}
use Rattle.simplex_messages.specs.declared.call.Call.TheVariants as calls
use Rattle.simplex_messages.specs.declared.step.Stop.{Stop}
use Rattle.simplex_messages.specs.declared.step.Stop.TheVariants as stops
use Rattle.simplex_messages.specs.declared.step.Outcome.{Outcome}
use Rattle.simplex_messages.specs.declared.step.Outcome.TheVariants as outcomes
use Rattle.simplex_messages.specs.declared.step.StepOut.{StepOut}
use Rattle.model_steps.specs.Desk.{Doing}

-- whether the journal is called
abbrev pub is_of_journal : Call → Bool
is_of_journal (calls.Append section artifact) = true
is_of_journal (calls.Sync section) = true
is_of_journal (calls.Prune least) = true
is_of_journal _ = false

-- the place, counted from 0, of the journal's call of this number, counted from 1
unfoldable pub journal_place : ℕ → List Call → Option ℕ
journal_place number [] = None
journal_place number (call ∷ rest) =
    if is_of_journal call
    then (if number == 1 then Some 0 else option_map (λ n. n + 1) (journal_place (number - 1) rest))
    else option_map (λ n. n + 1) (journal_place number rest)

-- the place of the call before which a step ends; none where it is made whole
unfoldable pub stop_place : Stop → List Call → Option ℕ
stop_place stops.None made = None
stop_place (stops.Cut call keep) made = if nat_lt 0 call && nat_le call (length made) then Some (call - 1) else None
stop_place (stops.Fail call keep) made = if nat_lt 0 call then journal_place call made else None

-- what a call leaves of the journal
abbrev pub after_call : Call → List Section → List Section
after_call (calls.Append section artifact) sections = appended section artifact sections
after_call (calls.Sync section) sections = synced_at section sections
after_call (calls.Prune least) sections = pruned least sections
after_call _ sections = sections

unfoldable pub after_calls : List Call → List Section → List Section
after_calls [] sections = sections
after_calls (call ∷ rest) sections = after_calls rest (after_call call sections)

abbrev pub stop_outcome : Stop → Outcome
stop_outcome stops.None = outcomes.Done
stop_outcome (stops.Cut call keep) = outcomes.Cut
stop_outcome (stops.Fail call keep) = outcomes.Journal

-- how many pending records of each section a stop keeps
abbrev pub kept_by : Stop → ℕ
kept_by stops.None = 0
kept_by (stops.Cut call keep) = keep
kept_by (stops.Fail call keep) = keep

-- what the call that fails leaves of the journal: a prune drops the first sections below its least
abbrev pub after_failing : Stop → Call → List Section → List Section
after_failing (stops.Fail call keep) (calls.Prune least) sections = pruned_first keep least sections
after_failing _ _ sections = sections

abbrev pub failing_at : Stop → List Call → ℕ → List Section → List Section
failing_at stop [] place sections = sections
failing_at stop (call ∷ rest) place sections =
    if place == 0 then after_failing stop call sections else failing_at stop rest (place - 1) sections

-- a step as it was made: how it ended, what it gave, and what the journal holds
pub record Performed : Type 0 where
  pub outcome : Outcome
  pub out : StepOut
  pub sections : List Section

abbrev pub whole : Doing → List Section → Performed
whole doing sections =
    record {
      outcome = outcomes.Done;
      out = record {
        added = doing.added;
        asked = doing.desk.asked;
        dropped = doing.desk.dropped;
        handed = doing.handed;
        calls = doing.calls;
      };
      sections = after_calls doing.calls sections;
    }

-- a step that ends at a place lists the calls before it, and nothing else
abbrev pub broken : Stop → Doing → List Section → ℕ → Performed
broken stop doing sections place =
    record {
      outcome = stop_outcome stop;
      out = record { added = []; asked = []; dropped = []; handed = []; calls = take place doing.calls };
      sections =
          crashed (kept_by stop) (failing_at stop doing.calls place (after_calls (take place doing.calls) sections));
    }

unfoldable pub performed : Stop → Doing → List Section → Performed
performed stop doing sections =
    option_map_or (broken stop doing sections) (stop_place stop doing.calls) (whole doing sections)
