-- A voter's turns.
use Rattle.std.specs.Prelude.{ℕ, max, Bool, false, List, [], ◌∷◌, drop, Option, Some, None, if◌then◌else◌}
use Rattle.std.specs.Option.{option_map_or}
use Rattle.simplex_values.specs.declared.answer.Answer.{Answer}
use Rattle.simplex_mailbox.specs.Waiting.{front}
use Rattle.simplex_journal.specs.Journal.{Section}
use Rattle.simplex_messages.specs.declared.voter.Message.{Message}
use Rattle.simplex_messages.specs.declared.voter.VoterInput.{VoterInput}
use Rattle.simplex_messages.specs.declared.voter.VoterInput.TheVariants as inputs
use Rattle.simplex_messages.specs.declared.step.StepOut.{StepOut}
use Rattle.simplex_messages.specs.declared.step.Outcome.{Outcome}
use Rattle.simplex_messages.specs.declared.step.Outcome.TheVariants as outcomes
use Rattle.simplex_messages.specs.declared.step.Stop.{Stop}
use Rattle.simplex_messages.specs.declared.step.Stop.TheVariants as stops
use Rattle.simplex_messages.specs.Step.{no_out}
use Rattle.model_rules.specs.Known.{Fact}
use Rattle.model_rules.specs.Ancestry.{is_certified}
use Rattle.model_rules.specs.Pending.{Pending, pending_parent}
use Rattle.model_rules.specs.declared.request.ProposalState.{ProposalState}
use Rattle.model_rules.specs.declared.request.ProposalState.TheVariants.{Held}
use Rattle.model_steps.specs.Voter.{Standing, takes_answer}
use Rattle.model_steps.specs.VoterLife.{VoterMade, Given, Stepped, Answered, place_of, step_given}
use Rattle.simplex_voter.specs.declared.kind.AskKind.{AskKind}
use Rattle.simplex_voter.specs.declared.kind.AskKind.TheVariants.{Prepare, Propose, Verify, Certify}
use Rattle.simplex_voter.specs.Unanswered.{unanswered}
use Rattle.simplex_voter.specs.Turned.{step_left}
use Rattle.simplex_turns.specs.declared.feed.FeedItem.{FeedItem}
use Rattle.simplex_turns.specs.declared.feed.FeedItem.TheVariants as items

-- where a voter's turns have come: what it was given, the newest first, its clock, and what of its feed is left
pub record VoterPlace : Type 0 where
  pub past : List Given
  pub now : ℕ
  pub feed : List FeedItem

-- what a turn finds: the place where its step is made, and the input, if there is one
abbrev pub Found : Type 0
Found = VoterPlace × Option VoterInput

-- whether a payload is held whose parent is certified
abbrev pub is_ready : List Fact → Pending → ProposalState → Bool
is_ready known p (Held payload) = is_certified known (pending_parent p)
is_ready known p _ = false

unfoldable pub holds_candidate : Standing → Bool
holds_candidate s = option_map_or (λ (p : Pending). is_ready s.desk.known p p.state) s.desk.proposal false

-- the source of the step that takes the answer to a request of this kind
abbrev pub taken_by : AskKind → VoterInput
taken_by Prepare = inputs.Propose
taken_by Propose = inputs.Propose
taken_by Verify = inputs.Verify
taken_by Certify = inputs.Certify

-- the request of this number is answered, where there is one and the answer is of its kind
unfoldable pub replied : Standing → VoterPlace → AskKind → Answer → Option ℕ → Found
replied s place kind answer None = (place, None)
replied s place kind answer (Some number) =
    if takes_answer s number answer
    then (record place { past = Answered number answer ∷ place.past }, Some (taken_by kind)) else (place, None)

-- the next item of the feed: a later clock, or an answer to the oldest open request of its kind that has none
abbrev pub on_item : VoterMade → VoterPlace → Option FeedItem → Found
on_item made place None = (place, None)
on_item made place (Some (items.Now ms)) = (record place { now = max place.now ms }, Some inputs.Timer)
on_item made place (Some (items.Reply kind answer)) =
    let s = (place_of made place.past).standing in
    replied s place kind answer (unanswered s kind)

-- a turn takes a message, else a held payload whose parent is certified, else the next item of the feed
unfoldable pub finds : VoterMade → VoterPlace → Option Message → Found
finds made place (Some message) = (place, Some (inputs.Mail message))
finds made place None =
    if holds_candidate (place_of made place.past).standing then (place, Some inputs.Propose)
    else on_item made (record place { feed = drop 1 place.feed }) (front place.feed)

-- what a turn took from the mailbox, and what its stop, which was none, became by what the journal did
abbrev pub Turn : Type 0
Turn = Option Message × Stop

-- a step on what was found, and an empty one where there is no input
abbrev pub voter_step : VoterMade → Found → Stop → VoterPlace × StepOut
voter_step made (place, None) stop = (place, no_out)
voter_step made (place, Some input) stop = (
  record place { past = Stepped input place.now stop ∷ place.past },
  (step_given made place.past input place.now stop).out,
)

unfoldable pub voter_turn : VoterMade → VoterPlace → Turn → VoterPlace × StepOut
voter_turn made place turn = voter_step made (finds made place turn.0) turn.1

-- how a turn ends, and what it leaves of the journal
abbrev pub step_outcome : VoterMade → Found → Stop → Outcome
step_outcome made (place, None) stop = outcomes.Idle
step_outcome made (place, Some input) stop = (step_given made place.past input place.now stop).outcome

unfoldable pub turn_outcome : VoterMade → VoterPlace → Turn → Outcome
turn_outcome made place turn = step_outcome made (finds made place turn.0) turn.1

abbrev pub step_leaves : VoterMade → Found → Stop → List Section
step_leaves made (place, None) stop = (place_of made place.past).sections
step_leaves made (place, Some input) stop = step_left made place.past input place.now stops.None stop

unfoldable pub turn_leaves : VoterMade → VoterPlace → Turn → List Section
turn_leaves made place turn = step_leaves made (finds made place turn.0) turn.1

-- how turns end, one after another
unfoldable pub outcomes_of : VoterMade → VoterPlace → List Turn → List Outcome
outcomes_of made place [] = []
outcomes_of made place (turn ∷ rest) =
    turn_outcome made place turn ∷ outcomes_of made (voter_turn made place turn).0 rest

-- what the journal holds behind them
unfoldable pub leave : VoterMade → VoterPlace → List Turn → List Section
leave made place [] = (place_of made place.past).sections
leave made place (turn ∷ []) = turn_leaves made place turn
leave made place (turn ∷ next ∷ rest) = leave made (voter_turn made place turn).0 (next ∷ rest)

-- the turn over a journal of which no call fails
abbrev pub unstopped : Option Message → Turn
unstopped message = (message, stops.None)
