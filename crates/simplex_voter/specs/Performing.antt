-- How far the calls of a step are made, and what the journal then holds.
use Rattle.std.specs.Prelude.{◌≡◌, ℕ, ◌<◌, ◌≤◌, ◌&&◌, Bool, true, false, List, length, take, Option, Some, None, Result, Ok, Err, if◌then◌else◌}
use Rattle.std.specs.Option.{option_map, option_map_or}
use Rattle.std.specs.Global.{Vec}
use Rattle.simplex_wire.specs.declared.artifact.Artifact.{Artifact}
use Rattle.simplex_journal.specs.Faults.{Rose}
use Rattle.simplex_journal.specs.Journal.{Section, crashed, replayed}
use Rattle.simplex_journal.specs.Order.{Order, no_order, names_next, counted}
use Rattle.simplex_journal.specs.declared.error.JournalError.{JournalError}
use Rattle.simplex_journal.specs.declared.error.JournalError.TheVariants.{Failed, Memory}
use Rattle.simplex_messages.specs.declared.call.Call.{Call}
use Rattle.simplex_messages.specs.declared.step.Stop.{Stop}
use Rattle.simplex_messages.specs.declared.step.Stop.TheVariants as stops
use Rattle.simplex_messages.specs.declared.step.Outcome.{Outcome}
use Rattle.simplex_messages.specs.declared.step.Outcome.TheVariants as outcomes
use Rattle.simplex_messages.specs.declared.step.StepOut.{StepOut}
use Rattle.model_steps.specs.Desk.{Doing}
use Rattle.model_steps.specs.Performed.{Performed, is_of_journal, journal_place, stop_place, stop_outcome, kept_by, after_calls, after_failing, failing_at, performed}
use Rattle.model_steps.specs.VoterLife.{unreadable}
use Rattle.simplex_voter.specs.declared.performing.Break.{Break}
use Rattle.simplex_voter.specs.Turned.{Becomes, left_by, left_as, FaultsAt}
pub use Rattle.simplex_voter.specs.Turned.{past_reading}

-- the order after the call, and whether the call is the one that is to fail
abbrev pub after_order : Call → Order → Order
after_order call order = if is_of_journal call then counted order else order

abbrev pub fails_at : Call → Order → Bool
fails_at call order = is_of_journal call && names_next order

-- Where the order is told, a call failed exactly if it is one of the journal and the order named it. Where it is not,
-- only a call of the journal failed.
abbrev pub Heeds : Option Order → Call → Result (Unit {0}) JournalError → Option Order → Type 0
Heeds None call (Ok _) now = Unit {0}
Heeds None call (Err Failed) now = is_of_journal call ≡ true
Heeds None call (Err Memory) now = Unit {0}
Heeds (Some order) call (Ok _) now = (fails_at call order ≡ false) × (now ≡ Some (after_order call order))
Heeds (Some order) call (Err Failed) now = (fails_at call order ≡ true) × (now ≡ Some (counted order))
Heeds (Some order) call (Err Memory) now = now ≡ Some order

-- what a call that failed left: of a prune that dropped so many sections as the order says, where it is told, else some
abbrev pub FailsPart : Option Order → Call → List Section → List Section → Type 0
FailsPart None call before now = (dropped : ℕ) × (now ≡ after_failing (stops.Fail 1 dropped) call before)
FailsPart (Some order) call before now = now ≡ after_failing (stops.Fail order.call order.sections) call before

-- what the calls leave that end before this place
abbrev pub broken_at : Stop → List Call → List Section → ℕ → List Section
broken_at stop calls before place = failing_at stop calls place (after_calls (take place calls) before)

-- the order is still told, and names no call where it named none
pub record Tells (order : Order) (told : Option Order) : Type 0 where
  pub call : ℕ
  pub is_told : told ≡ Some (record { call = call; sections = order.sections })
  pub stays : order.call ≡ 0 → call ≡ 0

-- the calls were made, up to the one that failed: the one that the order names
pub record Ran (order : Order) (calls : List Call) (before : List Section) (failed : Option ℕ) (now : List Section) (told : Option Order) : Type 0 where
  pub fails : failed ≡ journal_place order.call calls
  pub leaves : now ≡ option_map_or (broken_at (stops.Fail order.call order.sections) calls before) failed (after_calls calls before)
  pub tells : Tells order told

-- the calls were made up to one of the journal, the one of this number, that failed
pub record FailedAt (calls : List Call) (before : List Section) (place : ℕ) (now : List Section) : Type 0 where
  pub number : ℕ
  pub dropped : ℕ
  pub counts : 0 < number
  pub fails : journal_place number calls ≡ Some place
  pub leaves : now ≡ broken_at (stops.Fail number dropped) calls before place

-- over any journal, the calls were made, up to one that failed where one did
abbrev pub Reached : List Call → List Section → Option ℕ → List Section → Type 0
Reached calls before None now = now ≡ after_calls calls before
Reached calls before (Some place) now = FailedAt calls before place now

-- the count of faults rose where a call failed, and there alone
abbrev pub FaultsBy : {A : Type 0} → Option A → ℕ → ℕ → Type 0
FaultsBy None before now = now ≡ before
FaultsBy (Some failed) before now = (before ≤ now) × Rose before now

-- all calls were made, and none failed
pub record Passed (calls : List Call) (before : List Section) (broke : Option Break) (now : List Section) (told : Option Order) : Type 0 where
  pub unbroken : broke ≡ None
  pub leaves : now ≡ after_calls calls before
  pub tells : told ≡ Some no_order

-- the calls were made up to where the stop ends them
pub record Made (stop : Stop) (calls : List Call) (before : List Section) (broke : Option Break) (now : List Section) (told : Option Order) : Type 0 where
  pub ends : broke ≡ option_map (λ place. record { place = place; outcome = stop_outcome stop }) (stop_place stop calls)
  pub leaves : now ≡ option_map_or (λ place. crashed (kept_by stop) (broken_at stop calls before place)) (stop_place stop calls) (after_calls calls before)
  pub tells : told ≡ Some no_order

-- how many calls were made
abbrev pub made_count : List Call → Option Break → ℕ
made_count calls broke = option_map_or (λ (b : Break). b.place) broke (length calls)

-- over any journal, the calls were made up to where this stop ends them that became another
pub record MadeOver (stop : Stop) (calls : List Call) (before : List Section) (broke : Option Break) (now : List Section) : Type 0 where
  pub turned : Stop
  pub becomes : Becomes stop (made_count calls broke) turned
  pub ends : broke ≡ option_map (λ place. record { place = place; outcome = stop_outcome turned }) (stop_place turned calls)
  pub leaves : now ≡ left_as stop turned calls before

-- over any journal, the calls were made up to one that failed by itself, if one did
pub record BrokeOver (calls : List Call) (before : List Section) (broke : Option Break) (now : List Section) : Type 0 where
  pub failed : Option ℕ
  pub ends : broke ≡ option_map (λ place. record { place = place; outcome = outcomes.Journal }) failed
  pub reached : Reached calls before failed now

-- the count of faults rose where a failing call ended the calls, and there alone
abbrev pub FaultsWith : Option Break → ℕ → ℕ → Type 0
FaultsWith None before now = now ≡ before
FaultsWith (Some b) before now = FaultsAt b.outcome before now

-- what was done is what a step gives that does so much
pub record Gave (given : Performed) (outcome : Outcome) (out : StepOut) (now : List Section) : Type 0 where
  pub outcome_is : outcome ≡ given.outcome
  pub out_is : out ≡ given.out
  pub leaves : now ≡ given.sections

-- all that a doing gives
abbrev pub out_of : Doing → StepOut
out_of doing =
    record { added = doing.added; asked = doing.desk.asked; dropped = doing.desk.dropped; handed = doing.handed; calls = doing.calls }

-- whatever was planned, it was performed up to the stop
pub record Settled (stop : Stop) (planned : StepOut) (before : List Section) (outcome : Outcome) (out : StepOut) (now : List Section) (told : Option Order) : Type 0 where
  pub gives : (doing : Doing) → planned ≡ out_of doing → Gave (performed stop doing before) outcome out now
  pub tells : told ≡ Some no_order

-- over any journal, what was done is what a step gives that does so much, with this stop that became another
pub record GaveOver (stop turned : Stop) (doing : Doing) (before : List Section) (outcome : Outcome) (out : StepOut) (now : List Section) : Type 0 where
  pub outcome_is : outcome ≡ (performed turned doing before).outcome
  pub out_is : out ≡ (performed turned doing before).out
  pub leaves : now ≡ left_as stop turned doing.calls before

-- over any journal, whatever was planned was performed up to what the stop became
pub record SettledOver (stop : Stop) (planned : StepOut) (before : List Section) (outcome : Outcome) (out : StepOut) (now : List Section) : Type 0 where
  pub turned : Stop
  pub becomes : Becomes stop (length out.calls) turned
  pub gives : (doing : Doing) → planned ≡ out_of doing → GaveOver stop turned doing before outcome out now

-- all records were read, unless the order named the reading
pub record Reads (order : Order) (before : List Section) (records : Option (Vec Artifact)) (told : Option Order) : Type 0 where
  pub reads : option_map (λ (r : Vec Artifact). r.items) records ≡ (if names_next order then None else Some (replayed before))
  pub tells : told ≡ Some (counted order)

-- all records were read, unless the stop ends the start there
pub record Read (stop : Stop) (before : List Section) (records : Option (Vec Artifact)) (now : List Section) (told : Option Order) : Type 0 where
  pub reads : option_map (λ (r : Vec Artifact). r.items) records ≡ (if unreadable stop then None else Some (replayed before))
  pub leaves : now ≡ (if unreadable stop then crashed (kept_by stop) before else before)
  pub tells : told ≡ Some no_order

-- over any journal, all records were read, or the reading failed
abbrev pub ReadOver : Stop → List Section → Option (Vec Artifact) → List Section → Type 0
ReadOver stop before None now = now ≡ left_by stop stops.None before
ReadOver stop before (Some records) now = (records.items ≡ replayed before) × (now ≡ before)

-- the count of faults rose where the reading failed, and there alone
abbrev pub CountsReading : Option (Vec Artifact) → ℕ → ℕ → Type 0
CountsReading None before now = (before ≤ now) × Rose before now
CountsReading (Some records) before now = now ≡ before
