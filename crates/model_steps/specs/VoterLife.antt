-- A voter's history: what it was made with, and what it was given since, the newest first.
use Rattle.std.specs.Prelude.{ℕ, ◌-◌, ◌==◌, Bool, false, List, [], ◌∷◌, take, if◌then◌else◌}
use Rattle.std.specs.Option.{option_map_or}
use Rattle.simplex_values.specs.declared.answer.Answer.{Answer}
use Rattle.simplex_types.specs.declared.floor.Floor.{Floor}
use Rattle.simplex_types.specs.declared.floor.Floor.TheVariants as floors
use Rattle.model_rules.specs.Known.{Made}
use Rattle.simplex_journal.specs.Journal.{Section, replayed, crashed}
use Rattle.simplex_messages.specs.declared.step.Stop.{Stop}
use Rattle.simplex_messages.specs.declared.step.Stop.TheVariants as stops
use Rattle.simplex_messages.specs.declared.step.Outcome.TheVariants as outcomes
use Rattle.simplex_messages.specs.declared.voter.VoterInput.{VoterInput}
use Rattle.simplex_messages.specs.Step.{no_out}
use Rattle.model_steps.specs.Desk.{Doing}
use Rattle.model_steps.specs.Performed.{Performed, performed}
use Rattle.model_steps.specs.Voter.{Standing, blank_desk, stepped, started, answered}

-- what a voter was made with: its rules, its floor, and what its journal held
pub record VoterMade : Type 0 where
  pub rules : Made
  pub floor : Floor
  pub sections : List Section

-- what a voter was given
pub data Given : Type 0 where
  Started : (now : ℕ) → (stop : Stop) → Given
  Stepped : (input : VoterInput) → (now : ℕ) → (stop : Stop) → Given
  Answered : (number : ℕ) → (answer : Answer) → Given

-- where a voter is between two steps: its standing, and what its journal holds
pub record Place : Type 0 where
  pub standing : Standing
  pub sections : List Section

-- what a step did is done: the next begins with nothing asked, dropped or sought
abbrev pub rest : Doing → List (ℕ × Answer) → Standing
rest doing answers = record { desk = record doing.desk { asked = []; dropped = []; sought = [] }; answers = answers }

-- how many calls a start makes before it reads its journal
abbrev pub before_reading : Floor → ℕ
before_reading (floors.Genesis payload) = 0
before_reading (floors.Finalized f) = 1

-- a start whose reading of the journal failed: the calls before it were made, and no record was dropped or added
abbrev pub unread : Floor → Doing → ℕ → List Section → Performed
unread floor doing keep sections =
    record {
      outcome = outcomes.Journal;
      out = record no_out { calls = take (before_reading floor) doing.calls };
      sections = crashed keep sections;
    }

-- A start as it was made. Reading the journal is its first call of the journal.
unfoldable pub start_performed : Stop → Floor → Doing → List Section → Performed
start_performed (stops.Fail call keep) floor doing sections =
    if call == 1 then unread floor doing keep sections else performed (stops.Fail (call - 1) keep) doing sections
start_performed stop floor doing sections = performed stop doing sections

-- whether the reading of a start fails: then the voter stands where it stood
abbrev pub unreadable : Stop → Bool
unreadable (stops.Fail call keep) = call == 1
unreadable _ = false

-- all that a start does, over what the journal holds
abbrev pub start_at : VoterMade → ℕ → List Section → Doing
start_at made now sections = started made.rules now made.floor (replayed sections)

unfoldable pub place_of : VoterMade → List Given → Place
place_of made [] = record { standing = record { desk = blank_desk; answers = [] }; sections = made.sections }
place_of made (Started now stop ∷ past) =
    let before = place_of made past in
    let doing = start_at made now before.sections in
    record {
      standing = if unreadable stop then before.standing else rest doing [];
      sections = (start_performed stop made.floor doing before.sections).sections;
    }
place_of made (Stepped input now stop ∷ past) =
    let before = place_of made past in
    option_map_or (λ doing. record {
      standing = rest doing before.standing.answers;
      sections = (performed stop doing before.sections).sections;
    })
    (stepped made.rules now before.standing input) before
place_of made (Answered number answer ∷ past) =
    let before = place_of made past in
    record { standing = answered number answer before.standing; sections = before.sections }

-- what a start gives
unfoldable pub start_given : VoterMade → List Given → ℕ → Stop → Performed
start_given made past now stop =
    let before = place_of made past in
    start_performed stop made.floor (start_at made now before.sections) before.sections

-- nothing was held
abbrev pub idle : List Section → Performed
idle sections = record { outcome = outcomes.Idle; out = no_out; sections = sections }

-- what a step gives
unfoldable pub step_given : VoterMade → List Given → VoterInput → ℕ → Stop → Performed
step_given made past input now stop =
    let before = place_of made past in
    option_map_or (λ doing. performed stop doing before.sections)
    (stepped made.rules now before.standing input) (idle before.sections)
