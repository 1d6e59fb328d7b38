-- A voter's turns have the laws of its steps.
use Rattle.std.proofs.Common.{◌≡◌, ℕ, Bool, true, false, List, [], ◌∷◌, ◌++◌, map, take, drop, Option, Some, None, refl, sym, ap, ◌∙◌, append_assoc}
use Rattle.std.proofs.lemmas.Bool.{false≢true}
use Rattle.std.proofs.lemmas.List.{take-append-drop}
use Rattle.std.specs.Option.{is_some, option_map, option_map_or}
use Rattle.simplex_values.specs.declared.plan.Channel.{Channel}
use Rattle.simplex_values.specs.declared.plan.Recipients.{Recipients}
use Rattle.simplex_journal.specs.Journal.{Section}
use Rattle.simplex_messages.specs.declared.call.Call.{Call}
use Rattle.simplex_messages.specs.declared.call.Call.TheVariants as calls
use Rattle.simplex_messages.specs.declared.step.Stop.{Stop}
use Rattle.simplex_messages.specs.declared.step.Stop.TheVariants as stops
use Rattle.simplex_messages.specs.declared.voter.VoterInput.{VoterInput}
use Rattle.model_rules.specs.Known.{Made}
use Rattle.model_steps.specs.Desk.{Doing}
use Rattle.model_steps.specs.Performed.{performed, broken, whole, stop_place, stop_outcome}
use Rattle.model_steps.specs.Voter.{Standing, acted, stepped}
use Rattle.model_steps.specs.VoterLife.{VoterMade, place_of, step_given, idle}
use Rattle.model_steps.specs.Engine.{is_whole}
use Rattle.law_member.specs.Syncs.{unsynced}
use Rattle.law_member.specs.VoterVotes.{vote_packets, packet_of, votes_by_rule}
use Rattle.simplex_turns.specs.Voting.{VoterPlace, Found, Turn, finds, voter_step, voter_turn, step_outcome, turn_outcome}
use Rattle.simplex_threads.specs.Laws.{SendsWhatIsSynced, VotesByRule, AllSendWhatIsSynced, AllVoteByRule}

-- ---- what is sent

-- the law of a step
abbrev StepsSend : Type 0
StepsSend =
    (made : Made) (now : ℕ) (input : VoterInput) (standing : Standing) (doing : Doing) (before behind : List Call) (channel : Channel) (to : Recipients) (bytes : List ℕ)
    → stepped made now standing input ≡ Some doing → doing.calls ≡ before ++ calls.Send channel to bytes ∷ behind → unsynced before ≡ []

abbrev is-some-list : List Call → Bool
is-some-list [] = false
is-some-list (call ∷ rest) = true

no-call : (before : List Call) (call : Call) (behind : List Call) → [] ≡ before ++ call ∷ behind → ⊥
no-call [] call behind e = false≢true (ap is-some-list e)
no-call (first ∷ before) call behind e = false≢true (ap is-some-list e)

nothing-sent : SendsWhatIsSynced []
nothing-sent = λ before behind channel to bytes e. absurd (no-call before (calls.Send channel to bytes) behind e)

longer : (made : List Call) (n : ℕ) (before : List Call) (call : Call) (behind : List Call) → take n made ≡ before ++ call ∷ behind → made ≡ before ++ call ∷ (behind ++ drop n made)
longer made n before call behind e = sym (take-append-drop n made) ∙ ap (λ (front : List Call). front ++ drop n made) e ∙ append_assoc before (call ∷ behind) (drop n made)

module _ (law : StepsSend) (made : Made) (now : ℕ) (standing : Standing) (input : VoterInput) (stop : Stop) (sections : List Section) where
  by-place : (doing : Doing) → stepped made now standing input ≡ Some doing → (p : Option ℕ)
      → SendsWhatIsSynced (option_map_or (broken stop doing sections) p (whole doing sections)).out.calls
  by-place doing is None = λ before behind channel to bytes e. law made now input standing doing before behind channel to bytes is e
  by-place doing is (Some n) = λ before behind channel to bytes e.
      law made now input standing doing before (behind ++ drop n doing.calls) channel to bytes is (longer doing.calls n before (calls.Send channel to bytes) behind e)

  by-step : (o : Option Doing) → stepped made now standing input ≡ o
      → SendsWhatIsSynced (option_map_or (λ doing. performed stop doing sections) o (idle sections)).out.calls
  unfolding performed
  by-step None is = nothing-sent
  by-step (Some doing) is = by-place doing is (stop_place stop doing.calls)

step-sends : StepsSend → (made : VoterMade) (found : Found) (stop : Stop) → SendsWhatIsSynced (voter_step made found stop).1.calls
unfolding step_given
step-sends law made (place, None) stop = nothing-sent
step-sends law made (place, Some input) stop =
    let at = place_of made place.past in
    by-step law made.rules place.now at.standing input stop at.sections (stepped made.rules place.now at.standing input) refl

pub all-send : StepsSend → (made : VoterMade) (place : VoterPlace) (did : List Turn) → AllSendWhatIsSynced made place did
unfolding AllSendWhatIsSynced voter_turn
all-send law made place [] = tt
all-send law made place (turn ∷ rest) =
    (step-sends law made (finds made place turn.0) turn.1, all-send law made (voter_turn made place turn).0 rest)

-- ---- what is voted

abbrev StepsVote : Type 0
StepsVote =
    (made : Made) (now : ℕ) (input : VoterInput) (standing : Standing) (doing : Doing)
    → stepped made now standing input ≡ Some doing → vote_packets doing.calls ≡ map packet_of (votes_by_rule made now standing input)

none-from : {A B : Type 0} (f : A → B) (x : Option A) → option_map f x ≡ None → x ≡ None
none-from f None e = refl
none-from f (Some a) e = absurd (false≢true (sym (ap is_some e)))

module _ (law : StepsVote) (made : Made) (now : ℕ) (standing : Standing) (input : VoterInput) (stop : Stop) (sections : List Section) where
  none-acted : stepped made now standing input ≡ None → votes_by_rule made now standing input ≡ []
  unfolding stepped votes_by_rule
  none-acted is = rw (none-from _ (acted made now standing input) is) refl

  -- a step that a stop ended is not whole
  not-whole : (stop : Stop) (doing : Doing) (n : ℕ) → stop_place stop doing.calls ≡ Some n → is_whole (stop_outcome stop) ≡ true → ⊥
  unfolding stop_place
  not-whole stops.None doing n e w = absurd (false≢true (ap is_some e))
  not-whole (stops.Cut call keep) doing n e w = absurd (false≢true w)
  not-whole (stops.Fail call keep) doing n e w = absurd (false≢true w)

  votes-at : (doing : Doing) → stepped made now standing input ≡ Some doing → (p : Option ℕ) → stop_place stop doing.calls ≡ p
      → is_whole (option_map_or (broken stop doing sections) p (whole doing sections)).outcome ≡ true
      → vote_packets (option_map_or (broken stop doing sections) p (whole doing sections)).out.calls ≡ map packet_of (votes_by_rule made now standing input)
  votes-at doing is None at w = law made now input standing doing is
  votes-at doing is (Some n) at w = absurd (not-whole stop doing n at w)

  votes-by : (o : Option Doing) → stepped made now standing input ≡ o
      → is_whole (option_map_or (λ doing. performed stop doing sections) o (idle sections)).outcome ≡ true
      → vote_packets (option_map_or (λ doing. performed stop doing sections) o (idle sections)).out.calls ≡ map packet_of (votes_by_rule made now standing input)
  unfolding performed
  votes-by None is w = rw (none-acted is) refl
  votes-by (Some doing) is w = votes-at doing is (stop_place stop doing.calls) refl w

step-votes : StepsVote → (made : VoterMade) (found : Found) (stop : Stop) → is_whole (step_outcome made found stop) ≡ true → VotesByRule made found (voter_step made found stop).1
unfolding step_given
step-votes law made (place, None) stop w = refl
step-votes law made (place, Some input) stop w =
    let at = place_of made place.past in
    votes-by law made.rules place.now at.standing input stop at.sections (stepped made.rules place.now at.standing input) refl w

pub all-vote : StepsVote → (made : VoterMade) (place : VoterPlace) (did : List Turn) → AllVoteByRule made place did
unfolding AllVoteByRule voter_turn turn_outcome
all-vote law made place [] = tt
all-vote law made place (turn ∷ rest) =
    (step-votes law made (finds made place turn.0) turn.1, all-vote law made (voter_turn made place turn).0 rest)
