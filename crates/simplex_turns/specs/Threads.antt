-- What the actors did in their turns, and what the calls of their passes tell of it.
use Rattle.std.specs.Prelude.{◌≡◌, ◌≢◌, ℕ, ◌≤◌, ◌<◌, ◌^◌, ◌⊎◌, Bool, true, false, List, [], ◌∷◌, ◌++◌, All, length, map, Option}
use Rattle.std.specs.List.{filter_map}
use Rattle.simplex_wire.specs.declared.scheme.Scheme as scheme
use Rattle.simplex_types.specs.declared.elector.Elector as elector
use Rattle.simplex_journal.specs.declared.journal.Journal as journal
use Rattle.simplex_journal.specs.Faults.{Rose}
use Rattle.simplex_messages.specs.declared.batcher.Message as batcher_message
use Rattle.simplex_messages.specs.declared.voter.Message as voter_message
use Rattle.simplex_messages.specs.declared.voter.VoterInput.{VoterInput}
use Rattle.simplex_messages.specs.declared.resolver.MailboxMessage.{MailboxMessage}
use Rattle.simplex_messages.specs.declared.step.StepOut.{StepOut}
use Rattle.simplex_messages.specs.declared.step.Stop.{Stop}
use Rattle.simplex_messages.specs.declared.step.Stop.TheVariants as stops
use Rattle.simplex_messages.specs.declared.step.Outcome.{Outcome}
use Rattle.simplex_messages.specs.declared.step.Outcome.TheVariants as outcomes
use Rattle.simplex_messages.specs.Handing.{for_batcher, for_voter, for_resolver}
use Rattle.simplex_shared.specs.declared.op.Op.TheVariants.{Took}
use Rattle.simplex_shared.specs.Passes.{IsSamePass, calls_of}
use Rattle.model_resolver.specs.Asks.{holds_member}
use Rattle.model_steps.specs.Batcher as batching
use Rattle.model_steps.specs.VoterLife.{VoterMade, Given, place_of}
use Rattle.model_resolver.specs.Resolver as resolving
use Rattle.simplex_batcher.specs.Stands as batchers
use Rattle.simplex_resolver.specs.Stands as resolvers
use Rattle.simplex_voter.specs.Actor.{VoterStands, journal_of}
use Rattle.simplex_voter.specs.Turned.{IsOfJournal, FaultsAt}
use Rattle.simplex_turns.specs.declared.feed.FeedItem.{FeedItem}
use Rattle.simplex_turns.specs.declared.feed.FeedItem.TheVariants as items
use Rattle.simplex_turns.specs.declared.batcher.BatcherThread.{BatcherThread}
use Rattle.simplex_turns.specs.declared.mailboxes.Mailboxes.{Mailboxes}
use Rattle.simplex_turns.specs.declared.resolver.ResolverThread.{ResolverThread}
use Rattle.simplex_turns.specs.declared.voter.VoterThread.{VoterThread}
use Rattle.simplex_turns.specs.Turns.{outs_of, Gives}
use Rattle.simplex_turns.specs.Handing.{PutsBehind, handed_on}
use Rattle.simplex_turns.specs.Batching.{BatcherPlace, batcher_turn}
use Rattle.simplex_turns.specs.Resolving.{ResolverPlace, resolver_turn}
use Rattle.simplex_turns.specs.Voting.{VoterPlace, Found, Turn, voter_step, step_outcome, step_leaves, voter_turn, turn_outcome, turn_leaves, outcomes_of, leave, unstopped}

-- a clock that the actors take
abbrev pub IsInTime : FeedItem → Type 0
IsInTime (items.Now ms) = ms < 2 ^ 63
IsInTime (items.Reply kind answer) = Unit {0}

-- ---- the batcher

module _ {S : Type 0} {s : scheme.Ghosts S} where
  -- the thread's batcher stands there
  pub record BatcherIsAt (thread : BatcherThread S s) (made : batching.Made) (place : BatcherPlace) : Type 0 where
    pub stands : batchers.StandsFor thread.actor made place.past
    pub feed : thread.feed.items ≡ place.feed
    pub blocked : (member : ℕ) → holds_member thread.blocked.keys member ≡ holds_member place.blocked member

  -- the same passes and the same clock
  pub record IsSameBatcher (old new : BatcherThread S s) : Type 0 where
    pub own : IsSamePass old.own new.own
    pub voter : IsSamePass old.voter new.voter
    pub now : new.now ≡ old.now

  -- A turn took one message, or found none; it gave what the rule gives for that, and handed that on
  pub record BatcherTurns (old new : BatcherThread S s) (out : StepOut) : Type 0 where
    pub taken : Option batcher_message.Message
    pub took : calls_of new.own ≡ calls_of old.own ++ Took old.own.number taken ∷ []
    pub put : PutsBehind (filter_map for_voter out.handed) (calls_of old.voter) (calls_of new.voter)
    pub gives : (made : batching.Made) (place : BatcherPlace) → BatcherIsAt old made place
        → (out ≡ (batcher_turn made old.now place taken).1)
        × BatcherIsAt new made (batcher_turn made old.now place taken).0

  -- the same of so many turns
  pub record BatcherRuns (old new : BatcherThread S s) (turns : ℕ) (outs : List StepOut) : Type 0 where
    pub taken : List (Option batcher_message.Message)
    pub count : length taken ≡ turns
    pub took : calls_of new.own ≡ calls_of old.own ++ map (Took old.own.number) taken
    pub put : PutsBehind (handed_on for_voter outs) (calls_of old.voter) (calls_of new.voter)
    pub gives : (made : batching.Made)
        → Gives (batcher_turn made old.now) (λ thread place. BatcherIsAt thread made place) old new taken outs

  -- the batcher made so many turns, by the same passes and at the same clock
  abbrev pub BatcherGoesOn : BatcherThread S s → BatcherThread S s → (turns : ℕ) → List StepOut → Type 0
  BatcherGoesOn old new turns outs = IsSameBatcher old new × BatcherRuns old new turns outs

  -- ---- the resolver

  pub record ResolverIsAt (thread : ResolverThread S s) (made : resolving.Made) (place : ResolverPlace) : Type 0 where
    pub stands : resolvers.StandsFor thread.actor made place.past
    pub feed : thread.feed.items ≡ place.feed

  pub record IsSameResolver (old new : ResolverThread S s) : Type 0 where
    pub own : IsSamePass old.own new.own
    pub voter : IsSamePass old.voter new.voter
    pub now : new.now ≡ old.now

  -- its passes and its clock are the same
  abbrev pub KeepsResolver : ResolverThread S s → ResolverThread S s → Type 0
  KeepsResolver old new = (new.own ≡ old.own) × (new.voter ≡ old.voter) × (new.now ≡ old.now)

  pub record ResolverTurns (old new : ResolverThread S s) (out : StepOut) : Type 0 where
    pub taken : Option MailboxMessage
    pub took : calls_of new.own ≡ calls_of old.own ++ Took old.own.number taken ∷ []
    pub put : PutsBehind (filter_map for_voter out.handed) (calls_of old.voter) (calls_of new.voter)
    pub gives : (made : resolving.Made) (place : ResolverPlace) → ResolverIsAt old made place
        → (out ≡ (resolver_turn made old.now place taken).1)
        × ResolverIsAt new made (resolver_turn made old.now place taken).0

  pub record ResolverRuns (old new : ResolverThread S s) (turns : ℕ) (outs : List StepOut) : Type 0 where
    pub taken : List (Option MailboxMessage)
    pub count : length taken ≡ turns
    pub took : calls_of new.own ≡ calls_of old.own ++ map (Took old.own.number) taken
    pub put : PutsBehind (handed_on for_voter outs) (calls_of old.voter) (calls_of new.voter)
    pub gives : (made : resolving.Made)
        → Gives (resolver_turn made old.now) (λ thread place. ResolverIsAt thread made place) old new taken outs

  -- the same of the resolver
  abbrev pub ResolverGoesOn : ResolverThread S s → ResolverThread S s → (turns : ℕ) → List StepOut → Type 0
  ResolverGoesOn old new turns outs = IsSameResolver old new × ResolverRuns old new turns outs

-- ---- the voter

-- Turns were made to their end, or up to one that a failing call of the journal ended. Then its count of faults rose, and
-- else it did not.
abbrev pub IsUnbroken : Outcome → Type 0
IsUnbroken outcome = outcome ≢ outcomes.Journal

abbrev pub Ended : ℕ → List Outcome → ℕ → ℕ → Type 0
Ended turns ends before now =
    ((now ≡ before) × (length ends ≡ turns) × All IsUnbroken ends)
    ⊎ (Rose before now × (length ends ≤ turns)
    × ((front : List Outcome) × (ends ≡ front ++ outcomes.Journal ∷ []) × All IsUnbroken front))

abbrev pub took_of : Turn → Option voter_message.Message
took_of turn = turn.0

-- a stop that none became by what the journal did
abbrev pub IsFree : Turn → Type 0
IsFree turn = IsOfJournal turn.1

module _ {S L J : Type 0} {s : scheme.Ghosts S} {l : elector.Ghosts L} {j : journal.Ghosts J} where
  -- The thread's voter stands there, over a journal that tells that no call of it will fail, or over any. What it was given
  -- itself may hold answers more, which were not taken.
  pub record VoterIsAt (told : Bool) (thread : VoterThread S L J s l j) (made : VoterMade)
      (place : VoterPlace) : Type 0 where
    pub given : List Given
    pub stands : VoterStands told thread.actor made given
    pub place_is : place_of made given ≡ place_of made place.past
    pub now : thread.now ≡ place.now
    pub feed : thread.feed.items ≡ place.feed

  pub record IsSameVoter (old new : VoterThread S L J s l j) : Type 0 where
    pub own : IsSamePass old.own new.own
    pub batcher : IsSamePass old.batcher new.batcher
    pub resolver : IsSamePass old.resolver new.resolver

  -- its passes are of these mailboxes
  abbrev pub IsOfBoxes : VoterThread S L J s l j → Mailboxes → Type 0
  IsOfBoxes thread boxes =
      (thread.own.mailbox ≡ boxes.voter) × (thread.batcher.mailbox ≡ boxes.batcher)
      × (thread.resolver.mailbox ≡ boxes.resolver)

  -- its passes and its journal are the same
  pub record KeepsVoter (old new : VoterThread S L J s l j) : Type 0 where
    pub own : new.own ≡ old.own
    pub batcher : new.batcher ≡ old.batcher
    pub resolver : new.resolver ≡ old.resolver
    pub journal : journal_of new.actor ≡ journal_of old.actor

  -- wherever the old voter is, this is what the rule finds there, and the new one is at the place where its step is made
  abbrev pub Finds : VoterThread S L J s l j → VoterThread S L J s l j → (VoterMade → VoterPlace → Found)
      → Option VoterInput → Type 0
  Finds old new rule found =
      (told : Bool) (made : VoterMade) (place : VoterPlace) → VoterIsAt told old made place
      → (found ≡ (rule made place).1) × VoterIsAt told new made (rule made place).0

  -- how many calls of the voter's journal failed, and what it holds
  abbrev pub faults_in : VoterThread S L J s l j → ℕ
  faults_in thread = j.fault_count (journal_of thread.actor)

  -- What a step on this did, or an empty one. Where no call of the journal fails it gave what the rule gives. Over any
  -- journal there is a stop that none became by what the journal did, with which the rule gives that.
  pub record VoterSteps (old new : VoterThread S L J s l j) (found : Option VoterInput) (outcome : Outcome)
      (out : StepOut) : Type 0 where
    pub stop : Stop
    pub free : IsOfJournal stop
    pub to_batcher : PutsBehind (filter_map for_batcher out.handed) (calls_of old.batcher) (calls_of new.batcher)
    pub to_resolver : PutsBehind (filter_map for_resolver out.handed) (calls_of old.resolver) (calls_of new.resolver)
    pub faults : FaultsAt outcome (faults_in old) (faults_in new)
    pub told : (made : VoterMade) (place : VoterPlace) → VoterIsAt true old made place
        → IsUnbroken outcome × (out ≡ (voter_step made (place, found) stops.None).1)
        × VoterIsAt true new made (voter_step made (place, found) stops.None).0
    pub over : (made : VoterMade) (place : VoterPlace) → VoterIsAt false old made place
        → (outcome ≡ step_outcome made (place, found) stop) × (out ≡ (voter_step made (place, found) stop).1)
        × (j.sections (journal_of new.actor) ≡ step_leaves made (place, found) stop)
    pub stands : IsUnbroken outcome
        → (made : VoterMade) (place : VoterPlace) → VoterIsAt false old made place
        → VoterIsAt false new made (voter_step made (place, found) stop).0

  -- A turn took one message, or found none, and handed on what it gave. Where no call of the journal fails it gave what the
  -- rule gives. Over any journal there is a stop that none became by what the journal did, with which the rule gives that;
  -- where no failing call ended the turn, the voter stands behind it.
  pub record VoterTurns (old new : VoterThread S L J s l j) (outcome : Outcome) (out : StepOut) : Type 0 where
    pub turn : Turn
    pub free : IsFree turn
    pub took : calls_of new.own ≡ calls_of old.own ++ Took old.own.number turn.0 ∷ []
    pub to_batcher : PutsBehind (filter_map for_batcher out.handed) (calls_of old.batcher) (calls_of new.batcher)
    pub to_resolver : PutsBehind (filter_map for_resolver out.handed) (calls_of old.resolver) (calls_of new.resolver)
    pub faults : FaultsAt outcome (faults_in old) (faults_in new)
    pub told : (made : VoterMade) (place : VoterPlace) → VoterIsAt true old made place
        → IsUnbroken outcome × (out ≡ (voter_turn made place (unstopped turn.0)).1)
        × VoterIsAt true new made (voter_turn made place (unstopped turn.0)).0
    pub over : (made : VoterMade) (place : VoterPlace) → VoterIsAt false old made place
        → (outcome ≡ turn_outcome made place turn) × (out ≡ (voter_turn made place turn).1)
        × (j.sections (journal_of new.actor) ≡ turn_leaves made place turn)
    pub stands : IsUnbroken outcome
        → (made : VoterMade) (place : VoterPlace) → VoterIsAt false old made place
        → VoterIsAt false new made (voter_turn made place turn).0

  -- the same of so many turns, or of those up to one that a failing call of the journal ended
  pub record VoterRuns (old new : VoterThread S L J s l j) (turns : ℕ) (outs : List StepOut) : Type 0 where
    pub did : List Turn
    pub ends : List Outcome
    pub free : All IsFree did
    pub ended : Ended turns ends (faults_in old) (faults_in new)
    pub took : calls_of new.own ≡ calls_of old.own ++ map (Took old.own.number) (map took_of did)
    pub to_batcher : PutsBehind (handed_on for_batcher outs) (calls_of old.batcher) (calls_of new.batcher)
    pub to_resolver : PutsBehind (handed_on for_resolver outs) (calls_of old.resolver) (calls_of new.resolver)
    pub told : (made : VoterMade) (place : VoterPlace) → VoterIsAt true old made place
        → (length did ≡ turns)
        × Gives (voter_turn made) (λ thread place. VoterIsAt true thread made place) old new
        (map unstopped (map took_of did)) outs
    pub over : (made : VoterMade) (place : VoterPlace) → VoterIsAt false old made place
        → (ends ≡ outcomes_of made place did) × (outs ≡ outs_of (voter_turn made) place did)
        × (j.sections (journal_of new.actor) ≡ leave made place did)

  -- the voter made so many turns, or those up to such a call, by the same passes
  abbrev pub VoterGoesOn : VoterThread S L J s l j → VoterThread S L J s l j → (turns : ℕ) → List StepOut → Type 0
  VoterGoesOn old new turns outs = IsSameVoter old new × VoterRuns old new turns outs
