-- A voter's turns, one after another.
use Rattle.std.proofs.Common.{◌≡◌, refl, sym, ap, ◌∙◌, ℕ, ◌+◌, ◌<◌, true, false, List, [], ◌∷◌, ◌++◌, All, length, map, arith, length-append, append-nil, append_assoc, inl, inr}
use Rattle.std.proofs.lemmas.List.{map-append}
use Rattle.std.proofs.lemmas.List.Elements.{All-nil, All-push}
use Rattle.simplex_wire.specs.declared.scheme.Scheme as scheme
use Rattle.simplex_types.specs.declared.elector.Elector as elector
use Rattle.simplex_journal.specs.declared.journal.Journal as journal
use Rattle.simplex_messages.specs.declared.step.StepOut.{StepOut}
use Rattle.simplex_messages.specs.declared.step.Outcome.{Outcome}
use Rattle.simplex_messages.specs.declared.step.Outcome.TheVariants as outcomes
use Rattle.simplex_messages.specs.Handing.{for_batcher, for_resolver}
use Rattle.simplex_shared.specs.declared.op.Op.TheVariants.{Took}
use Rattle.simplex_shared.specs.Passes.{calls_of}
use Rattle.model_steps.specs.VoterLife.{VoterMade}
use Rattle.simplex_voter.specs.Actor.{journal_of}
use Rattle.simplex_voter.specs.Turned.{FaultsAt}
use Rattle.simplex_turns.specs.declared.voter.VoterThread.{VoterThread}
use Rattle.simplex_turns.specs.Turns.{outs_of, after, Gives}
use Rattle.simplex_turns.specs.Handing.{PutsBehind, handed_on}
use Rattle.simplex_turns.specs.Voting.{VoterPlace, Turn, voter_turn, turn_outcome, turn_leaves, outcomes_of, leave, unstopped}
use Rattle.simplex_turns.specs.Threads.{IsUnbroken, IsFree, took_of, VoterIsAt, IsSameVoter, VoterTurns, VoterRuns, faults_in}
use Rattle.simplex_turns.proofs.Turning.{outs_of-behind, after-behind, gives-nothing, gives-more}
use Rattle.simplex_turns.proofs.Handed.{puts-nothing, puts-then, same-still, handed_on-behind}
use Rattle.simplex_turns.proofs.VotingSteps.{held-at}

-- ---- one turn more behind others

module _ (made : VoterMade) where
  pub outcomes-more : (place : VoterPlace) (did : List Turn) (turn : Turn)
      → outcomes_of made place (did ++ turn ∷ []) ≡ outcomes_of made place did ++ turn_outcome made (after (voter_turn made) place did) turn ∷ []
  unfolding outcomes_of after
  outcomes-more place [] turn = refl
  outcomes-more place (first ∷ rest) turn = ap (λ l. turn_outcome made place first ∷ l) (outcomes-more (voter_turn made place first).0 rest turn)

  pub leave-more : (place : VoterPlace) (did : List Turn) (turn : Turn)
      → leave made place (did ++ turn ∷ []) ≡ turn_leaves made (after (voter_turn made) place did) turn
  unfolding leave after
  leave-more place [] turn = refl
  leave-more place (first ∷ []) turn = refl
  leave-more place (first ∷ next ∷ rest) turn = leave-more (voter_turn made place first).0 (next ∷ rest) turn

unbroken-faults : (outcome : Outcome) (before now : ℕ) → FaultsAt outcome before now → IsUnbroken outcome → now ≡ before
unbroken-faults outcomes.Done before now faults going = faults
unbroken-faults outcomes.Idle before now faults going = faults
unbroken-faults outcomes.Cut before now faults going = faults
unbroken-faults outcomes.Refused before now faults going = faults
unbroken-faults outcomes.Journal before now faults going = absurd (going refl)

module _ {S L J : Type 0} {s : scheme.Ghosts S} {l : elector.Ghosts L} {j : journal.Ghosts J} where
  -- so many turns, none of which a failing call of the journal ended
  pub record Ran (old new : VoterThread S L J s l j) (turns : ℕ) (outs : List StepOut) : Type 0 where
    pub did : List Turn
    pub ends : List Outcome
    pub did_all : length did ≡ turns
    pub ended_all : length ends ≡ turns
    pub unbroken : All IsUnbroken ends
    pub free : All IsFree did
    pub same : IsSameVoter old new
    pub faults : faults_in new ≡ faults_in old
    pub took : calls_of new.own ≡ calls_of old.own ++ map (Took old.own.number) (map took_of did)
    pub to_batcher : PutsBehind (handed_on for_batcher outs) (calls_of old.batcher) (calls_of new.batcher)
    pub to_resolver : PutsBehind (handed_on for_resolver outs) (calls_of old.resolver) (calls_of new.resolver)
    pub told : (made : VoterMade) → Gives (voter_turn made) (λ thread place. VoterIsAt true thread made place) old new (map unstopped (map took_of did)) outs
    pub over : (made : VoterMade) (place : VoterPlace) → VoterIsAt false old made place
        → (ends ≡ outcomes_of made place did) × (outs ≡ outs_of (voter_turn made) place did) × (j.sections (journal_of new.actor) ≡ leave made place did)
    pub stands : (made : VoterMade) (place : VoterPlace) → VoterIsAt false old made place → VoterIsAt false new made (after (voter_turn made) place did)

  -- none yet
  pub ran-none : (thread : VoterThread S L J s l j) → Ran thread thread 0 []
  unfolding handed_on outcomes_of outs_of leave after
  ran-none thread = record {
    did = [];
    ends = [];
    did_all = refl;
    ended_all = refl;
    unbroken = All-nil IsUnbroken;
    free = All-nil IsFree;
    same = record { own = (refl, refl); batcher = (refl, refl); resolver = (refl, refl) };
    faults = refl;
    took = sym (append-nil (calls_of thread.own));
    to_batcher = puts-nothing (calls_of thread.batcher);
    to_resolver = puts-nothing (calls_of thread.resolver);
    told = λ made. gives-nothing (voter_turn made) (λ t place. VoterIsAt true t made place) thread;
    over = λ made place h. (refl, refl, held-at thread made place h);
    stands = λ made place h. h;
  }

  -- ---- one turn more

  module _ (old mid new : VoterThread S L J s l j) (turns : ℕ) (outs : List StepOut) (outcome : Outcome) (out : StepOut)
      (ran : Ran old mid turns outs) (same : IsSameVoter mid new) (last : VoterTurns mid new outcome out) where
    abbrev all : List Turn
    all = ran.did ++ last.turn ∷ []

    -- the same passes
    pub same-all : IsSameVoter old new
    same-all = record {
      own = same-still old.own mid.own new.own ran.same.own same.own;
      batcher = same-still old.batcher mid.batcher new.batcher ran.same.batcher same.batcher;
      resolver = same-still old.resolver mid.resolver new.resolver ran.same.resolver same.resolver;
    }

    took-map : map took_of all ≡ map took_of ran.did ++ last.turn.0 ∷ []
    took-map = map-append took_of ran.did (last.turn ∷ [])

    took-all : calls_of new.own ≡ calls_of old.own ++ map (Took old.own.number) (map took_of all)
    took-all =
        last.took
        ∙ ap (λ number. calls_of mid.own ++ Took number last.turn.0 ∷ []) ran.same.own.1
        ∙ ap (λ calls. calls ++ Took old.own.number last.turn.0 ∷ []) ran.took
        ∙ append_assoc (calls_of old.own) (map (Took old.own.number) (map took_of ran.did)) (Took old.own.number last.turn.0 ∷ [])
        ∙ ap (λ calls. calls_of old.own ++ calls) (sym (ap (map (Took old.own.number)) took-map ∙ map-append (Took old.own.number) (map took_of ran.did) (last.turn.0 ∷ [])))

    batcher-all : PutsBehind (handed_on for_batcher (outs ++ out ∷ [])) (calls_of old.batcher) (calls_of new.batcher)
    batcher-all = rw (handed_on-behind for_batcher outs out) (puts-then _ _ _ _ _ ran.to_batcher last.to_batcher)

    resolver-all : PutsBehind (handed_on for_resolver (outs ++ out ∷ [])) (calls_of old.resolver) (calls_of new.resolver)
    resolver-all = rw (handed_on-behind for_resolver outs out) (puts-then _ _ _ _ _ ran.to_resolver last.to_resolver)

    free-all : All IsFree all
    free-all = All-push IsFree ran.did last.turn ran.free last.free

    told-all : (made : VoterMade) → Gives (voter_turn made) (λ thread place. VoterIsAt true thread made place) old new (map unstopped (map took_of all)) (outs ++ out ∷ [])
    told-all made =
        rw (took-map, map-append unstopped (map took_of ran.did) (last.turn.0 ∷ []))
        (gives-more (voter_turn made) (λ thread place. VoterIsAt true thread made place) old mid new (map unstopped (map took_of ran.did)) (unstopped last.turn.0) outs out (ran.told made)
        (λ place h. let t = last.told made place h in (t.1, t.2)))

    over-all : (made : VoterMade) (place : VoterPlace) → VoterIsAt false old made place
        → (ran.ends ++ outcome ∷ [] ≡ outcomes_of made place all) × (outs ++ out ∷ [] ≡ outs_of (voter_turn made) place all) × (j.sections (journal_of new.actor) ≡ leave made place all)
    over-all made place h =
        let so_far = ran.over made place h in
        let t = last.over made (after (voter_turn made) place ran.did) (ran.stands made place h) in (
          ap (λ ends. ends ++ outcome ∷ []) so_far.0 ∙ ap (λ o. outcomes_of made place ran.did ++ o ∷ []) t.0 ∙ sym (outcomes-more made place ran.did last.turn),
          ap (λ list. list ++ out ∷ []) so_far.1 ∙ ap (λ o. outs_of (voter_turn made) place ran.did ++ o ∷ []) t.1 ∙ sym (outs_of-behind (voter_turn made) place ran.did last.turn),
          t.2 ∙ sym (leave-more made place ran.did last.turn),
        )

    -- no failing call ended it
    pub ran-more : IsUnbroken outcome → Ran old new (turns + 1) (outs ++ out ∷ [])
    ran-more going = record {
      did = all;
      ends = ran.ends ++ outcome ∷ [];
      did_all = length-append ran.did (last.turn ∷ []) ∙ ap (λ (n : ℕ). n + 1) ran.did_all;
      ended_all = length-append ran.ends (outcome ∷ []) ∙ ap (λ (n : ℕ). n + 1) ran.ended_all;
      unbroken = All-push IsUnbroken ran.ends outcome ran.unbroken going;
      free = free-all;
      same = same-all;
      faults = unbroken-faults outcome (faults_in mid) (faults_in new) last.faults going ∙ ran.faults;
      took = took-all;
      to_batcher = batcher-all;
      to_resolver = resolver-all;
      told = told-all;
      over = over-all;
      stands = λ made place h. rw (after-behind (voter_turn made) place ran.did last.turn) (last.stands going made _ (ran.stands made place h));
    }

    -- one did
    pub ran-broken : (wanted : ℕ) → turns < wanted → outcome ≡ outcomes.Journal → VoterRuns old new wanted (outs ++ out ∷ [])
    ran-broken wanted left broken = record {
      did = all;
      ends = ran.ends ++ outcome ∷ [];
      free = free-all;
      ended = inr (
        rw ran.faults at ((rw broken at last.faults).1),
        omega (arith, length-append ran.ends (outcome ∷ []), ran.ended_all, left),
        (ran.ends, ap (λ (o : Outcome). ran.ends ++ o ∷ []) broken, ran.unbroken),
      );
      took = took-all;
      to_batcher = batcher-all;
      to_resolver = resolver-all;
      told = λ made place h. absurd ((last.told made _ (ran.told made place h).1).0 broken);
      over = over-all;
    }

  -- all were made
  pub ran-all : (old new : VoterThread S L J s l j) (done turns : ℕ) (outs : List StepOut) → done ≡ turns → Ran old new done outs → VoterRuns old new turns outs
  ran-all old new done turns outs all ran = record {
    did = ran.did;
    ends = ran.ends;
    free = ran.free;
    ended = inl (ran.faults, ran.ended_all ∙ all, ran.unbroken);
    took = ran.took;
    to_batcher = ran.to_batcher;
    to_resolver = ran.to_resolver;
    told = λ made place h. (ran.did_all ∙ all, ran.told made);
    over = ran.over;
  }
