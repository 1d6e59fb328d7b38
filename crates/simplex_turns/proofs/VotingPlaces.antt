-- A voter's place, by what it was given, and what its turns find there.
use Rattle.std.proofs.Common.{All, ◌<◌, ◌^◌, length, length-drop, arith, ◌≡◌, ◌≢◌, refl, ap, ◌∙◌, ℕ, Bool, true, false, List, [], ◌∷◌, ◌++◌, drop, Option, Some, None}
use Rattle.std.proofs.lemmas.List.Elements.{All-head, All-tail}
use Rattle.std.specs.Prelude.{if◌then◌else◌}
use Rattle.std.specs.Option.{option_and_then, option_map, option_map_or, option_to_list, is_some}
use Rattle.simplex_values.specs.declared.answer.Answer.{Answer}
use Rattle.simplex_mailbox.specs.Waiting.{front}
use Rattle.simplex_journal.specs.Journal.{Section}
use Rattle.simplex_messages.specs.declared.voter.VoterInput.{VoterInput}
use Rattle.simplex_messages.specs.declared.voter.VoterInput.TheVariants as inputs
use Rattle.simplex_messages.specs.declared.step.Stop.{Stop}
use Rattle.simplex_messages.specs.declared.step.Stop.TheVariants as stops
use Rattle.simplex_messages.specs.declared.step.Outcome.TheVariants as outcomes
use Rattle.model_rules.specs.Known.{Made}
use Rattle.model_rules.specs.Ancestry.{is_certified}
use Rattle.model_rules.specs.Pending.{Pending, pending_parent}
use Rattle.model_rules.specs.declared.request.ProposalState.{ProposalState}
use Rattle.model_rules.specs.declared.request.ProposalState.TheVariants.{Held}
use Rattle.model_steps.specs.Desk.{Doing}
use Rattle.model_steps.specs.Performed.{performed, stop_place}
use Rattle.model_steps.specs.Voter.{Standing, takes_answer, answered, acted, stepped, take_proposal}
use Rattle.model_steps.specs.VoterLife.{VoterMade, Given, Started, Stepped, Answered, place_of, step_given, idle}
use Rattle.simplex_voter.specs.declared.kind.AskKind.{AskKind}
use Rattle.simplex_voter.specs.Unanswered.{unanswered}
use Rattle.simplex_voter.specs.Turned.{step_left}
use Rattle.simplex_turns.specs.declared.feed.FeedItem.{FeedItem}
use Rattle.simplex_turns.specs.declared.feed.FeedItem.TheVariants as items
use Rattle.simplex_turns.specs.Threads.{IsInTime}
use Rattle.simplex_turns.specs.Voting.{VoterPlace, is_ready, holds_candidate, taken_by, replied, on_item, finds}

-- ---- two histories that lead to one place

module _ (made : VoterMade) (given past : List Given) (e : place_of made given ≡ place_of made past) where
  -- so do they with one more item
  pub place-more : (next : Given) → place_of made (next ∷ given) ≡ place_of made (next ∷ past)
  unfolding place_of
  place-more (Started now stop) = rw e refl
  place-more (Stepped input now stop) = rw e refl
  place-more (Answered number answer) = rw e refl

  -- what a step gives there is the same, and what it leaves of the journal
  pub step-at : (input : VoterInput) (now : ℕ) (stop : Stop) → step_given made given input now stop ≡ step_given made past input now stop
  unfolding step_given
  step-at input now stop = rw e refl

  pub left-at : (input : VoterInput) (now : ℕ) (stop turned : Stop) → step_left made given input now stop turned ≡ step_left made past input now stop turned
  unfolding step_left
  left-at input now stop turned = rw e refl

answered-not : (number : ℕ) (answer : Answer) (standing : Standing) → takes_answer standing number answer ≡ false → answered number answer standing ≡ standing
unfolding answered
answered-not number answer standing e = rw e refl

-- an answer that is not taken leads nowhere else
pub place-refused : (made : VoterMade) (given : List Given) (number : ℕ) (answer : Answer) → takes_answer (place_of made given).standing number answer ≡ false
    → place_of made (Answered number answer ∷ given) ≡ place_of made given
unfolding place_of
place-refused made given number answer e =
    let before = place_of made given in
    ap (λ standing. record { standing = standing; sections = before.sections }) (answered-not number answer before.standing e)

-- ---- a step without a stop

goes-on : (sections : List Section) (done : Option Doing) → (option_map_or (λ doing. performed stops.None doing sections) done (idle sections)).outcome ≢ outcomes.Journal
unfolding performed stop_place
goes-on sections None = λ e. absurd cc
goes-on sections (Some doing) = λ e. absurd cc

-- no failing call ends it
pub unstopped-goes : (made : VoterMade) (past : List Given) (input : VoterInput) (now : ℕ) → (step_given made past input now stops.None).outcome ≢ outcomes.Journal
unfolding step_given
unstopped-goes made past input now = goes-on (place_of made past).sections (stepped made.rules now (place_of made past).standing input)

-- ---- whether a payload is held whose parent is certified

abbrev pub is_held : Option ProposalState → Bool
is_held (Some (Held payload)) = true
is_held _ = false

is_some-if : {A : Type 0} (b : Bool) (x : A) → is_some (if b then Some x else None) ≡ b
is_some-if true x = refl
is_some-if false x = refl

ready-is : (made : Made) (now : ℕ) (s : Standing) (p : Pending) (at : ProposalState) → is_held (Some at) ≡ true → is_some (take_proposal made now s p at) ≡ is_ready s.desk.known p at
ready-is made now s p (Held payload) h = is_some-if (is_certified s.desk.known (pending_parent p)) _
ready-is made now s p at h = absurd cc

unready-is : (s : Standing) (p : Pending) (at : ProposalState) → is_held (Some at) ≡ false → is_ready s.desk.known p at ≡ false
unready-is s p (Held payload) h = absurd cc
unready-is s p at h = refl

-- a state that is no held payload
pub not-held : (at : ProposalState) → ((payload : List ℕ) → at ≡ Held payload → ⊥) → is_held (Some at) ≡ false
not-held (Held payload) other = absurd (other payload refl)
not-held at other = refl

-- no state
pub none-held : (state : Option ProposalState) → ((at : ProposalState) → state ≡ Some at → ⊥) → is_held state ≡ false
none-held None other = refl
none-held (Some at) other = absurd (other at refl)

module _ (s : Standing) where
  -- where the proposal stands, if there is one
  abbrev pub state_in : Option ProposalState
  state_in = option_map (λ p. p.state) s.desk.proposal

  held-of : (made : Made) (now : ℕ) (proposal : Option Pending) → is_held (option_map (λ p. p.state) proposal) ≡ true
      → is_some (option_and_then (λ p. take_proposal made now s p p.state) proposal) ≡ option_map_or (λ (p : Pending). is_ready s.desk.known p p.state) proposal false
  held-of made now None h = absurd cc
  held-of made now (Some p) h = ready-is made now s p p.state h

  unheld-of : (proposal : Option Pending) → is_held (option_map (λ p. p.state) proposal) ≡ false → option_map_or (λ (p : Pending). is_ready s.desk.known p p.state) proposal false ≡ false
  unheld-of None h = refl
  unheld-of (Some p) h = unready-is s p p.state h

  -- where a payload is held, that is whether a step takes it
  pub candidate-held : (made : Made) (now : ℕ) → is_held state_in ≡ true → is_some (acted made now s inputs.Propose) ≡ holds_candidate s
  unfolding acted holds_candidate
  candidate-held made now h = held-of made now s.desk.proposal h

  -- where none is held
  pub candidate-unheld : is_held state_in ≡ false → holds_candidate s ≡ false
  unfolding holds_candidate
  candidate-unheld h = unheld-of s.desk.proposal h

-- ---- what a turn finds

stays-empty : {A : Type 0} (xs : List A) → xs ≡ drop 1 xs → None ≡ front xs
stays-empty [] e = refl
stays-empty (x ∷ xs) e = absurd (omega (arith, ap length e, length-drop 1 (x ∷ xs)))

-- what was taken from the front
pub popped-first : {A : Type 0} (before after : List A) (popped : Option A) → before ≡ option_to_list popped ++ after → after ≡ drop 1 before → popped ≡ front before
popped-first before after None is rest = stays-empty before (is ∙ rest)
popped-first before after (Some first) is rest = rw is refl

-- what is left is in time, and so is a clock that was taken
pub time-left : (before after : List FeedItem) (popped : Option FeedItem) → before ≡ option_to_list popped ++ after → All IsInTime before → All IsInTime after
time-left before after None is all = rw is at all
time-left before after (Some first) is all = All-tail IsInTime first after (rw is at all)

pub time-now : (before after : List FeedItem) (ms : ℕ) → before ≡ items.Now ms ∷ after → All IsInTime before → ms < 2 ^ 63
time-now before after ms is all = All-head IsInTime (items.Now ms) after (rw is at all)

module _ (made : VoterMade) (place : VoterPlace) where
  pub finds-own : holds_candidate (place_of made place.past).standing ≡ true → finds made place None ≡ (place, Some inputs.Propose)
  unfolding finds
  finds-own h = rw h refl

  pub finds-item : (item : Option FeedItem) → holds_candidate (place_of made place.past).standing ≡ false → item ≡ front place.feed
      → finds made place None ≡ on_item made (record place { feed = drop 1 place.feed }) item
  unfolding finds
  finds-item item h is = rw (h, is) refl

  module _ (kind : AskKind) (answer : Answer) where
    pub replied-none : unanswered (place_of made place.past).standing kind ≡ None → on_item made place (Some (items.Reply kind answer)) ≡ (place, None)
    unfolding replied
    replied-none none = rw none refl

    pub replied-refused : (number : ℕ) → unanswered (place_of made place.past).standing kind ≡ Some number → takes_answer (place_of made place.past).standing number answer ≡ false
        → on_item made place (Some (items.Reply kind answer)) ≡ (place, None)
    unfolding replied
    replied-refused number is refused = rw (is, refused) refl

    pub replied-taken : (number : ℕ) → unanswered (place_of made place.past).standing kind ≡ Some number → takes_answer (place_of made place.past).standing number answer ≡ true
        → on_item made place (Some (items.Reply kind answer)) ≡ (record place { past = Answered number answer ∷ place.past }, Some (taken_by kind))
    unfolding replied
    replied-taken number is taken = rw (is, taken) refl
