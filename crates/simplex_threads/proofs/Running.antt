-- From what the turns of the actors did to what a run on threads gives.
use Rattle.std.proofs.Common.{◌≡◌, ℕ, ◌<◌, ◌^◌, List, [], ◌++◌, Bool, true, false, map, Option, sym, ap, subst, ◌∙◌}
use Rattle.std.proofs.lemmas.List.{length-map}
use Rattle.std.specs.Prelude.{All}
use Rattle.std.specs.BTreeSet.{BTreeSet}
use Rattle.simplex_wire.specs.declared.scheme.Scheme as scheme
use Rattle.simplex_types.specs.declared.elector.Elector as elector
use Rattle.simplex_journal.specs.declared.journal.Journal as journal
use Rattle.simplex_mailbox.specs.Mail.{Mail}
use Rattle.simplex_mailbox.specs.Waiting.{Waiting}
use Rattle.simplex_messages.specs.declared.step.StepOut.{StepOut}
use Rattle.simplex_shared.specs.declared.op.Op.{Op}
use Rattle.simplex_shared.specs.declared.op.Op.TheVariants.{Took}
use Rattle.simplex_shared.specs.declared.terms.Terms.{Terms}
use Rattle.simplex_shared.specs.Calls.{calls_by}
use Rattle.simplex_shared.specs.History.{caller_of}
use Rattle.simplex_shared.specs.Passes.{Viewer, IsSamePass, calls_of}
use Rattle.model_resolver.specs.Asks.{holds_member}
use Rattle.model_steps.specs.Engine.{none_skipped}
use Rattle.model_steps.specs.VoterLife.{VoterMade, Given, Place, place_of}
use Rattle.simplex_messages.specs.declared.step.Outcome.{Outcome}
use Rattle.simplex_voter.specs.declared.actor.Actor.{Actor}
use Rattle.simplex_voter.specs.Actor.{StandsFor, journal_of}
use Rattle.simplex_engine.specs.declared.crew.Crew.{Crew}
use Rattle.simplex_engine.specs.Parts.{Parts}
use Rattle.simplex_engine.specs.Stands.{Holds, faults_in}
use Rattle.simplex_turns.specs.declared.mailboxes.Mailboxes.{Mailboxes}
use Rattle.simplex_turns.specs.declared.team.Team.{Team}
use Rattle.simplex_turns.specs.declared.logs.Logs.{Logs}
use Rattle.simplex_turns.specs.Turns.{outs_of}
use Rattle.simplex_turns.specs.Handing.{Puts, PutsBehind, Filled, IsRecord}
use Rattle.simplex_turns.specs.Batching.{batcher_turn}
use Rattle.simplex_turns.specs.Resolving.{resolver_turn}
use Rattle.simplex_turns.specs.Threads.{IsInTime, BatcherIsAt, BatcherRuns, IsSameBatcher, ResolverIsAt, ResolverRuns, IsSameResolver, VoterIsAt, VoterRuns, IsSameVoter, Ended, took_of}
use Rattle.simplex_turns.specs.Team.{Records, Has}
use Rattle.simplex_threads.specs.declared.run.Feed.{Feed}
use Rattle.simplex_threads.specs.Ran.{Takes, BatcherRan, ResolverRan, VoterRan, VoterRanWhole, batcher_start, resolver_start, voter_start}
use Rattle.simplex_threads.specs.Ready.{IsReady}

-- the log has the calls of the pass, whatever it was called when it had this number
by-number : {M : Type 0} (log : List (Op M)) (old new : Viewer M) (number : ℕ) → old.number ≡ number → IsSamePass old new → Has log new
    → calls_by caller_of number log ≡ calls_of new
by-number log old new number is same has = ap (λ (n : ℕ). calls_by caller_of n log) (sym (same.1 ∙ is)) ∙ has

-- the calls of the one who takes
takes-of : {M : Type 0} (skips : M → Bool) (held mailbox : Mail M) (log : List (Op M)) (old new : Viewer M) (taken : List (Option M))
    → held ≡ mailbox → Filled skips held (calls_of old) → old.number ≡ 0 → IsSamePass old new → Has log new
    → calls_of new ≡ calls_of old ++ map (Took old.number) taken → Takes skips mailbox taken (calls_by caller_of 0 log)
takes-of skips held mailbox log old new taken is filled zero same has took =
    record {
      first = calls_of old;
      fills = subst (λ (mail : Mail _). Filled skips mail (calls_of old)) is filled;
      all = by-number log old new 0 zero same has ∙ took ∙ ap (λ (n : ℕ). calls_of old ++ map (Took n) taken) zero;
    }

-- the calls of one who puts, which had made none
puts-of : {M : Type 0} (messages : List M) (log : List (Op M)) (old new : Viewer M) (number : ℕ)
    → old.number ≡ number → IsSamePass old new → Has log new → calls_of old ≡ [] → PutsBehind messages (calls_of old) (calls_of new)
    → Puts messages (calls_by caller_of number log)
puts-of messages log old new number is same has none put =
    subst (λ (calls : List (Op _)). Puts messages calls) (sym (by-number log old new number is same has ∙ put.1 ∙ ap (λ (calls : List (Op _)). calls ++ put.0) none)) put.2

-- the record is one of a mailbox of this capacity
record-of : {M : Type 0} (handle : Waiting M → M → Waiting M) (skips : M → Bool) (terms : Terms) (passes : ℕ) (held mailbox : Mail M) (log : List (Op M))
    → terms ≡ record { capacity = held.capacity; passes = passes } → held ≡ mailbox → IsRecord handle skips terms.capacity terms.passes log → IsRecord handle skips mailbox.capacity passes log
record-of handle skips terms passes held mailbox log are is kept =
    subst (λ (terms : Terms). IsRecord handle skips terms.capacity terms.passes log) (are ∙ ap (λ (mail : Mail _). record { capacity = mail.capacity; passes = passes }) is) kept

-- over a journal that tells, the voter's journal holds what its history says
held-told : {S L J : Type 0} {s : scheme.Ghosts S} {l : elector.Ghosts L} {j : journal.Ghosts J} (actor : Actor S L J s l j) (made : VoterMade) (past : List Given)
    → StandsFor actor made past → j.sections (journal_of actor) ≡ (place_of made past).sections
unfolding StandsFor
held-told actor made past stands = stands.sections_are

voter-at : {S L J : Type 0} {s : scheme.Ghosts S} {l : elector.Ghosts L} {j : journal.Ghosts J} (crew : Crew S L J s l j) (now : ℕ) (feed : Feed) (old : Team S L J s l j) → IsReady crew now feed old
    → (told : Bool) (parts : Parts) → Holds told crew parts → VoterIsAt told old.voter parts.voter (voter_start parts now feed.voter.items)
voter-at crew now feed old ready told parts h =
    record {
      given = h.voter.given;
      stands = rw ready.voter h.voter.stands;
      place_is = h.voter.place;
      now = ready.clocks.1;
      feed = ready.voter_feed;
    }

-- its clocks are times
pub may-run : {S L J : Type 0} {s : scheme.Ghosts S} {l : elector.Ghosts L} {j : journal.Ghosts J} (crew : Crew S L J s l j) (now : ℕ) (feed : Feed) (team : Team S L J s l j) → IsReady crew now feed team
    → now < 2 ^ 63 → All IsInTime feed.voter.items
    → (team.batcher.now < 2 ^ 63) × (team.voter.now < 2 ^ 63) × (team.resolver.now < 2 ^ 63) × All IsInTime team.voter.feed.items
may-run crew now feed team ready time times =
    (rw ready.clocks.0 time, rw ready.clocks.1 time, rw ready.clocks.2 time, rw ready.voter_feed times)

module _ {S L J : Type 0} {s : scheme.Ghosts S} {l : elector.Ghosts L} {j : journal.Ghosts J} {crew : Crew S L J s l j} {now turns : ℕ} {feed : Feed} {old new : Team S L J s l j} {logs : Logs} (ready : IsReady crew now feed old) (boxes : new.boxes ≡ old.boxes) (records : Records new logs) where
  pub batcher-ran : (outs : List StepOut) → IsSameBatcher old.batcher new.batcher → BatcherRuns old.batcher new.batcher turns outs → (parts : Parts) → Holds false crew parts
      → BatcherRan parts now turns feed.batcher.items logs.batcher outs
  batcher-ran outs same ran parts h =
      record {
        taken = ran.taken;
        count = ran.count;
        calls = takes-of none_skipped _ _ logs.batcher _ _ ran.taken h.to_batcher ready.batcher_filled ready.takers.0 same.own records.batcher_own ran.took;
        gave = subst (λ (clock : ℕ). outs ≡ outs_of (batcher_turn parts.batcher clock) (batcher_start parts feed.batcher.items) ran.taken) ready.clocks.0
            (ran.gives parts.batcher (batcher_start parts feed.batcher.items) is-at).0;
        is_record = record-of _ _ _ 2 _ _ logs.batcher (ap (λ (m : Mailboxes). m.batcher.terms) boxes ∙ ready.batcher_terms) h.to_batcher records.batcher;
      }
    where
      is-at : BatcherIsAt old.batcher parts.batcher (batcher_start parts feed.batcher.items)
      is-at = record { stands = rw ready.batcher h.batcher; feed = ready.batcher_feed; blocked = λ member. ap (λ (set : BTreeSet ℕ). holds_member set.keys member) ready.batcher_blocked ∙ h.blocked member }

  pub resolver-ran : (outs : List StepOut) → IsSameResolver old.resolver new.resolver → ResolverRuns old.resolver new.resolver turns outs → (parts : Parts) → Holds false crew parts
      → ResolverRan parts now turns feed.resolver.items logs.resolver outs
  resolver-ran outs same ran parts h =
      record {
        taken = ran.taken;
        count = ran.count;
        calls = takes-of none_skipped _ _ logs.resolver _ _ ran.taken h.to_resolver ready.resolver_filled ready.takers.2 same.own records.resolver_own ran.took;
        gave = subst (λ (clock : ℕ). outs ≡ outs_of (resolver_turn parts.resolver clock) (resolver_start parts feed.resolver.items) ran.taken) ready.clocks.2
            (ran.gives parts.resolver (resolver_start parts feed.resolver.items) is-at).0;
        is_record = record-of _ _ _ 2 _ _ logs.resolver (ap (λ (m : Mailboxes). m.resolver.terms) boxes ∙ ready.resolver_terms) h.to_resolver records.resolver;
      }
    where
      is-at : ResolverIsAt old.resolver parts.resolver (resolver_start parts feed.resolver.items)
      is-at = record { stands = rw ready.resolver h.resolver; feed = ready.resolver_feed }

  pub voter-ran : (outs : List StepOut) → IsSameVoter old.voter new.voter → VoterRuns old.voter new.voter turns outs → (parts : Parts) → Holds false crew parts
      → VoterRan parts now turns feed.voter.items logs.voter outs (faults_in crew) (j.fault_count (journal_of new.voter.actor)) (j.sections (journal_of new.voter.actor))
  voter-ran outs same ran parts h =
      let over = ran.over parts.voter (voter_start parts now feed.voter.items) (voter-at _ _ _ _ ready false parts h) in
      record {
        did = ran.did;
        free = ran.free;
        ended = subst (λ (ends : List Outcome). Ended turns ends (faults_in crew) (j.fault_count (journal_of new.voter.actor))) over.0
            (subst (λ (actor : Actor S L J s l j). Ended turns ran.ends (j.fault_count (journal_of actor)) (j.fault_count (journal_of new.voter.actor))) ready.voter ran.ended);
        calls = takes-of none_skipped _ _ logs.voter _ _ (map took_of ran.did) h.to_voter ready.voter_filled ready.takers.1 same.own records.voter_own ran.took;
        gave = over.1;
        journal = over.2;
        is_record = record-of _ _ _ 3 _ _ logs.voter (ap (λ (m : Mailboxes). m.voter.terms) boxes ∙ ready.voter_terms) h.to_voter records.voter;
      }

  pub voter-ran-whole : (outs : List StepOut) → IsSameVoter old.voter new.voter → VoterRuns old.voter new.voter turns outs → (parts : Parts) → Holds true crew parts
      → VoterRanWhole parts now turns feed.voter.items logs.voter outs (j.sections (journal_of new.voter.actor))
  voter-ran-whole outs same ran parts h =
      let at = voter-at _ _ _ _ ready true parts h in
      let told = ran.told parts.voter (voter_start parts now feed.voter.items) at in
      let gives = told.1 (voter_start parts now feed.voter.items) at in
      record {
        taken = map took_of ran.did;
        count = length-map ran.did took_of ∙ told.0;
        calls = takes-of none_skipped _ _ logs.voter _ _ (map took_of ran.did) h.to_voter ready.voter_filled ready.takers.1 same.own records.voter_own ran.took;
        gave = gives.0;
        journal = held-told _ _ _ gives.1.stands ∙ ap (λ (place : Place). place.sections) gives.1.place_is;
      }
