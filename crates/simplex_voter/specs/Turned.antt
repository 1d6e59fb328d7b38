-- What becomes of an order to stop over a journal that does not tell which of its calls fail.
use Rattle.std.specs.Prelude.{◌≡◌, ℕ, ◌-◌, ◌<◌, ◌≤◌, ◌⊎◌, true, List, take, if◌then◌else◌}
use Rattle.std.specs.Option.{option_map_or}
use Rattle.simplex_journal.specs.Faults.{Rose}
use Rattle.simplex_journal.specs.Journal.{Section, crashed}
use Rattle.simplex_messages.specs.declared.call.Call.{Call}
use Rattle.simplex_messages.specs.declared.step.Stop.{Stop}
use Rattle.simplex_messages.specs.declared.step.Stop.TheVariants as stops
use Rattle.simplex_messages.specs.declared.step.Outcome.{Outcome}
use Rattle.simplex_messages.specs.declared.step.Outcome.TheVariants as outcomes
use Rattle.simplex_messages.specs.declared.voter.VoterInput.{VoterInput}
use Rattle.model_steps.specs.Performed.{stop_place, after_calls, failing_at}
use Rattle.model_steps.specs.Voter.{stepped}
use Rattle.model_steps.specs.VoterLife.{VoterMade, Given, place_of, start_at, unreadable}

-- no order to cut a step short: none at all, or one that lets a call of the journal fail
abbrev pub IsOfJournal : Stop → Type 0
IsOfJournal stops.None = Unit {0}
IsOfJournal (stops.Cut call keep) = ⊥
IsOfJournal (stops.Fail call keep) = 0 < call

-- What a stop becomes in a step that made so many calls. A cut stays what it is, unless a call of the journal failed
-- before it. Any other becomes one that lets a call of the journal fail, or none.
abbrev pub Becomes : Stop → ℕ → Stop → Type 0
Becomes stops.None made turned = IsOfJournal turned
Becomes (stops.Cut call keep) made turned = (turned ≡ stops.Cut call keep) ⊎ (IsOfJournal turned × (0 < call → made < call))
Becomes (stops.Fail call keep) made turned = IsOfJournal turned

-- the same of a start, which reads the journal before it makes any call
abbrev pub BecomesFirst : Stop → ℕ → Stop → Type 0
BecomesFirst stop made turned = (unreadable turned ≡ true) ⊎ Becomes stop made turned

-- What a step that was ended leaves of the journal. A stop that was given keeps the first pending records of each section.
-- A call that failed by itself leaves them all.
abbrev pub left_by : Stop → Stop → List Section → List Section
left_by stops.None turned sections = sections
left_by (stops.Cut call keep) stops.None sections = sections
left_by (stops.Cut call keep) (stops.Cut number kept) sections = crashed keep sections
left_by (stops.Cut call keep) (stops.Fail number kept) sections = sections
left_by (stops.Fail call keep) turned sections = crashed keep sections

-- what the calls leave of the journal, with this stop that became that one
unfoldable pub left_as : Stop → Stop → List Call → List Section → List Section
left_as stop turned calls sections =
    option_map_or (λ place. left_by stop turned (failing_at turned calls place (after_calls (take place calls) sections)))
    (stop_place turned calls) (after_calls calls sections)

-- what a step leaves of the journal
unfoldable pub step_left : VoterMade → List Given → VoterInput → ℕ → Stop → Stop → List Section
step_left made past input now stop turned =
    let before = place_of made past in
    option_map_or (λ doing. left_as stop turned doing.calls before.sections) (stepped made.rules now before.standing input) before.sections

-- the stop, once the journal was read
abbrev pub past_reading : Stop → Stop
past_reading stops.None = stops.None
past_reading (stops.Cut call keep) = stops.Cut call keep
past_reading (stops.Fail call keep) = stops.Fail (call - 1) keep

-- what a start leaves of the journal
unfoldable pub start_left : VoterMade → List Given → ℕ → Stop → Stop → List Section
start_left made past now stop turned =
    let before = place_of made past in
    if unreadable turned then left_by stop stops.None before.sections
    else left_as (past_reading stop) (past_reading turned) (start_at made now before.sections).calls before.sections

-- The journal's count of faults rose where a step ended for a call of the journal that failed, and there alone.
abbrev pub FaultsAt : Outcome → ℕ → ℕ → Type 0
FaultsAt outcomes.Done before now = now ≡ before
FaultsAt outcomes.Idle before now = now ≡ before
FaultsAt outcomes.Cut before now = now ≡ before
FaultsAt outcomes.Refused before now = now ≡ before
FaultsAt outcomes.Journal before now = (before ≤ now) × Rose before now
