-- What the parts of a voter's turn do.
use Rattle.std.proofs.Common.{◌≡◌, refl, sym, ap, ◌∙◌, ℕ, Bool, true, false, List, [], ◌∷◌, ◌++◌, drop, Option, Some, None, subst}
use Rattle.std.specs.List.{filter_map}
use Rattle.simplex_wire.specs.declared.scheme.Scheme as scheme
use Rattle.simplex_types.specs.declared.elector.Elector as elector
use Rattle.simplex_journal.specs.declared.journal.Journal as journal
use Rattle.simplex_messages.specs.declared.voter.Message as voter_message
use Rattle.simplex_messages.specs.declared.voter.VoterInput.{VoterInput}
use Rattle.simplex_messages.specs.declared.step.StepOut.{StepOut}
use Rattle.simplex_messages.specs.declared.step.Stop.{Stop}
use Rattle.simplex_messages.specs.declared.step.Stop.TheVariants as stops
use Rattle.simplex_messages.specs.declared.step.Outcome.{Outcome}
use Rattle.simplex_messages.specs.declared.step.Outcome.TheVariants as outcomes
use Rattle.simplex_messages.specs.Handing.{for_batcher, for_resolver}
use Rattle.simplex_messages.specs.Step.{no_out}
use Rattle.simplex_shared.specs.declared.op.Op.TheVariants.{Took}
use Rattle.simplex_shared.specs.declared.op.Op.{Op}
use Rattle.simplex_shared.specs.Passes.{Viewer, IsSamePass, calls_of}
use Rattle.model_steps.specs.VoterLife.{VoterMade, Given, Stepped, Place, place_of, step_given}
use Rattle.simplex_voter.specs.declared.actor.Actor.{Actor}
use Rattle.simplex_voter.specs.Actor.{VoterStands, Takes, TakesOver, Answers, Gives, Fares, journal_of}
use Rattle.simplex_voter.specs.Turned.{FaultsAt, step_left}
use Rattle.simplex_voter.proofs.LivesOver.{held-over, known-over}
use Rattle.simplex_turns.specs.declared.voter.VoterThread.{VoterThread}
use Rattle.simplex_turns.specs.Handing.{PutsBehind}
use Rattle.simplex_turns.specs.Voting.{VoterPlace, finds, voter_step, voter_turn, turn_outcome, turn_leaves}
use Rattle.simplex_turns.specs.Threads.{IsSameVoter, VoterIsAt, KeepsVoter, Finds, VoterSteps, VoterTurns, faults_in}
use Rattle.simplex_turns.proofs.VotingPlaces.{place-more, step-at, left-at, unstopped-goes}

-- what was held is put
pub held-put : {M : Type 0} (messages start held items : List M) (before after : List (Op M)) → start ≡ [] → held ≡ start ++ messages → items ≡ held → PutsBehind items before after → PutsBehind messages before after
held-put messages start held items before after empty is same put = subst (λ list. PutsBehind list before after) (same ∙ is ∙ ap (λ list. list ++ messages) empty) put

-- over a journal that tells its order, and over any
module _ {S L J : Type 0} {s : scheme.Ghosts S} {l : elector.Ghosts L} {j : journal.Ghosts J} where
  pub either-takes : (told : Bool) (old new : Actor S L J s l j) (given : Given)
      → Takes old new given → TakesOver old new given
      → (made : VoterMade) (past : List Given) → VoterStands told old made past → VoterStands told new made (given ∷ past)
  either-takes true old new given takes over = takes
  either-takes false old new given takes over = over

  pub either-answers : {R : Type 0} (told : Bool) (actor : Actor S L J s l j) (rule : VoterMade → List Given → R) (answer : R)
      → Answers actor rule answer → (made : VoterMade) (past : List Given) → VoterStands told actor made past → answer ≡ rule made past
  either-answers told actor rule answer over = λ made past stands. over made past (known-over told actor made past stands)

  -- ---- what is told of a voter

  -- what the actor answers by a rule that reads its place, it answers at the thread's place
  pub told-at : {R : Type 0} (told : Bool) (thread : VoterThread S L J s l j) (rule : VoterMade → Place → R) (answer : R)
      → Answers thread.actor (λ made past. rule made (place_of made past)) answer
      → (made : VoterMade) (place : VoterPlace) → VoterIsAt told thread made place → answer ≡ rule made (place_of made place.past)
  told-at told thread rule answer over made place h =
      either-answers told thread.actor (λ made past. rule made (place_of made past)) answer over made h.given h.stands
      ∙ ap (rule made) h.place_is

  -- what the actor took itself, whose place is this
  pub answered-at : (told : Bool) (old new : VoterThread S L J s l j) (given : Given) (past : List Given)
      → Takes old.actor new.actor given → TakesOver old.actor new.actor given
      → new.now ≡ old.now → new.feed ≡ old.feed
      → (made : VoterMade) (place : VoterPlace) → (h : VoterIsAt told old made place) → place_of made (given ∷ h.given) ≡ place_of made past
      → VoterIsAt told new made (record place { past = past })
  answered-at told old new given past takes over now feed made place h is = record {
    given = given ∷ h.given;
    stands = either-takes told old.actor new.actor given takes over made h.given h.stands;
    place_is = is;
    now = now ∙ h.now;
    feed = ap (λ q. q.items) feed ∙ h.feed;
  }

  -- an item of the feed was taken, and this is the clock
  pub moved-at : (told : Bool) (old new : VoterThread S L J s l j) (clock : ℕ) (made : VoterMade) (place : VoterPlace)
      → new.actor ≡ old.actor → new.now ≡ clock → new.feed.items ≡ drop 1 old.feed.items → VoterIsAt told old made place
      → VoterIsAt told new made (record place { now = clock; feed = drop 1 place.feed })
  moved-at told old new clock made place actor now rest h = record {
    given = h.given;
    stands = rw actor h.stands;
    place_is = h.place_is;
    now = now;
    feed = rest ∙ ap (drop 1) h.feed;
  }

  -- ---- a step

  module _ (old new : VoterThread S L J s l j) (input : VoterInput) (stop : Stop) (now : new.now ≡ old.now) (feed : new.feed ≡ old.feed) where
    -- the place behind the step, where the actor took it
    step-stands : (told : Bool) (made : VoterMade) (place : VoterPlace) (h : VoterIsAt told old made place)
        → VoterStands told new.actor made (Stepped input old.now stop ∷ h.given)
        → VoterIsAt told new made (voter_step made (place, Some input) stop).0
    step-stands told made place h stands = record {
      given = Stepped input old.now stop ∷ h.given;
      stands = stands;
      place_is = rw (← h.now) (place-more made h.given place.past h.place_is (Stepped input old.now stop));
      now = now ∙ h.now;
      feed = ap (λ q. q.items) feed ∙ h.feed;
    }

    step-is : (told : Bool) (made : VoterMade) (place : VoterPlace) (h : VoterIsAt told old made place)
        → step_given made h.given input old.now stop ≡ step_given made place.past input place.now stop
    step-is told made place h = rw (← h.now) (step-at made h.given place.past h.place_is input old.now stop)

    step-left : (told : Bool) (made : VoterMade) (place : VoterPlace) (h : VoterIsAt told old made place)
        → step_left made h.given input old.now stops.None stop ≡ step_left made place.past input place.now stops.None stop
    step-left told made place h = rw (← h.now) (left-at made h.given place.past h.place_is input old.now stops.None stop)

  pub step-steps : (old new : VoterThread S L J s l j) (input : VoterInput) (outcome : Outcome) (out : StepOut)
      → new.now ≡ old.now → new.feed ≡ old.feed
      → Takes old.actor new.actor (Stepped input old.now stops.None)
      → Gives old.actor (λ made past. step_given made past input old.now stops.None) outcome out
      → Fares old.actor new.actor stops.None outcome out (λ turned. Stepped input old.now turned) (λ turned made past. step_given made past input old.now turned) (λ turned made past. step_left made past input old.now stops.None turned)
      → FaultsAt outcome (faults_in old) (faults_in new)
      → PutsBehind (filter_map for_batcher out.handed) (calls_of old.batcher) (calls_of new.batcher)
      → PutsBehind (filter_map for_resolver out.handed) (calls_of old.resolver) (calls_of new.resolver)
      → VoterSteps old new (Some input) outcome out
  step-steps old new input outcome out now feed takes gives fares faults to_batcher to_resolver = record {
    stop = fares.turned;
    free = fares.becomes;
    to_batcher = to_batcher;
    to_resolver = to_resolver;
    faults = faults;
    told = λ made place h.
        let gave = gives made h.given h.stands in
        let is = step-is old new input stops.None now feed true made place h in (
          λ broken. unstopped-goes made h.given input old.now (sym gave.0 ∙ broken),
          gave.1 ∙ ap (λ p. p.out) is,
          step-stands old new input stops.None now feed true made place h (takes made h.given h.stands),
        );
    over = λ made place h.
        let gave = fares.gives made h.given h.stands in
        let is = step-is old new input fares.turned now feed false made place h in (
          gave.0 ∙ ap (λ p. p.outcome) is,
          gave.1 ∙ ap (λ p. p.out) is,
          fares.leaves made h.given h.stands ∙ step-left old new input fares.turned now feed false made place h,
        );
    stands = λ going made place h. step-stands old new input fares.turned now feed false made place h (fares.stands going made h.given h.stands);
  }

  -- what the journal of a voter holds
  pub held-at : (thread : VoterThread S L J s l j) (made : VoterMade) (place : VoterPlace) → VoterIsAt false thread made place
      → j.sections (journal_of thread.actor) ≡ (place_of made place.past).sections
  held-at thread made place h = held-over _ _ _ h.stands ∙ ap (λ (p : Place). p.sections) h.place_is

  -- nothing was found
  pub idle-steps : (thread : VoterThread S L J s l j) (out : StepOut) → out ≡ no_out
      → PutsBehind [] (calls_of thread.batcher) (calls_of thread.batcher) → PutsBehind [] (calls_of thread.resolver) (calls_of thread.resolver)
      → VoterSteps thread thread None outcomes.Idle out
  idle-steps thread out empty to_batcher to_resolver = record {
    stop = stops.None;
    free = tt;
    to_batcher = rw empty to_batcher;
    to_resolver = rw empty to_resolver;
    faults = refl;
    told = λ made place h. ((λ broken. absurd cc), empty, h);
    over = λ made place h. (refl, empty, held-at thread made place h);
    stands = λ going made place h. h;
  }

  -- ---- a turn

  -- the thread made a call with its own pass, which is this one now
  pub record Called (old now : VoterThread S L J s l j) (pass : Viewer voter_message.Message) : Type 0 where
    pub own : now.own ≡ pass
    pub actor : now.actor ≡ old.actor
    pub clock : now.now ≡ old.now
    pub feed : now.feed ≡ old.feed
    pub batcher : now.batcher ≡ old.batcher
    pub resolver : now.resolver ≡ old.resolver

  called-at : (told : Bool) (old now : VoterThread S L J s l j) (pass : Viewer voter_message.Message) (called : Called old now pass) (made : VoterMade) (place : VoterPlace)
      → VoterIsAt told old made place → VoterIsAt told now made place
  called-at told old now pass called made place h = record {
    given = h.given;
    stands = rw called.actor h.stands;
    place_is = h.place_is;
    now = called.clock ∙ h.now;
    feed = ap (λ q. q.items) called.feed ∙ h.feed;
  }

  pub turn-turns : (old now mid new : VoterThread S L J s l j) (own : Viewer voter_message.Message) (taken : Option voter_message.Message) (found : Option VoterInput) (outcome : Outcome) (out : StepOut)
      → Called old now own → calls_of own ≡ calls_of old.own ++ Took old.own.number taken ∷ []
      → KeepsVoter now mid → Finds now mid (λ made place. finds made place taken) found
      → new.own ≡ mid.own → VoterSteps mid new found outcome out
      → VoterTurns old new outcome out
  unfolding voter_turn turn_outcome turn_leaves
  turn-turns old now mid new own taken found outcome out called took keeps finding same steps = record {
    turn = (taken, steps.stop);
    free = steps.free;
    took = rw (same, keeps.own, called.own) took;
    to_batcher = rw (keeps.batcher, called.batcher) at steps.to_batcher;
    to_resolver = rw (keeps.resolver, called.resolver) at steps.to_resolver;
    faults = rw (keeps.journal, called.actor) at steps.faults;
    told = λ made place h.
        let f = finding true made place (called-at true old now own called made place h) in
        rw (← f.0) (steps.told made (finds made place taken).0 f.1);
    over = λ made place h.
        let f = finding false made place (called-at false old now own called made place h) in
        rw (← f.0) (steps.over made (finds made place taken).0 f.1);
    stands = λ going made place h.
        let f = finding false made place (called-at false old now own called made place h) in
        rw (← f.0) (steps.stands going made (finds made place taken).0 f.1);
  }

  -- the same passes
  pub turn-same : (old now mid new : VoterThread S L J s l j) (own : Viewer voter_message.Message)
      → Called old now own → IsSamePass old.own own → KeepsVoter now mid
      → new.own ≡ mid.own → IsSamePass mid.batcher new.batcher → IsSamePass mid.resolver new.resolver
      → IsSameVoter old new
  turn-same old now mid new own called taken keeps same batcher resolver =
      let mine : new.own ≡ own = same ∙ keeps.own ∙ called.own in
      let his : mid.batcher ≡ old.batcher = keeps.batcher ∙ called.batcher in
      let its : mid.resolver ≡ old.resolver = keeps.resolver ∙ called.resolver in
      record {
        own = (ap (λ p. p.mailbox) mine ∙ taken.0, ap (λ p. p.number) mine ∙ taken.1);
        batcher = (batcher.0 ∙ ap (λ p. p.mailbox) his, batcher.1 ∙ ap (λ p. p.number) his);
        resolver = (resolver.0 ∙ ap (λ p. p.mailbox) its, resolver.1 ∙ ap (λ p. p.number) its);
      }
