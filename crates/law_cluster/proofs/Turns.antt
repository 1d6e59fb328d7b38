-- What the member lives in each turn of its engine.
use Rattle.std.proofs.Common.{◌≡◌, ℕ, zero, suc, ◌-◌, ◌<◌, ◌==◌, ◌&&◌, nat_lt, nat_le, Bool, true, false, List, [], ◌∷◌, length, take, Contains, Option, Some, None, refl, sym, ap, ◌∙◌, subst, inl, inr, append-nil, if◌then◌else◌}
use Rattle.std.specs.List.{list_all}
use Rattle.simplex_values.specs.declared.answer.Answer.{Answer}
use Rattle.simplex_values.specs.declared.plan.Channel.{Channel}
use Rattle.simplex_values.specs.declared.plan.Channel.TheVariants as channels
use Rattle.simplex_values.specs.declared.plan.Recipients.{Recipients}
use Rattle.simplex_values.specs.declared.plan.Recipients.TheVariants as recipients
use Rattle.simplex_values.specs.Terms.{greatest_view}
use Rattle.simplex_wire.specs.Message as format
use Rattle.simplex_types.specs.declared.floor.Floor.{Floor}
use Rattle.simplex_journal.specs.Journal.{Section, replayed}
use Rattle.simplex_mailbox.specs.Mail.{received}
use Rattle.simplex_messages.specs.declared.call.Call.{Call}
use Rattle.simplex_messages.specs.declared.call.Call.TheVariants as calls
use Rattle.simplex_messages.specs.declared.handed.Handed.{Handed}
use Rattle.simplex_messages.specs.declared.handed.Handed.TheVariants as handed
use Rattle.simplex_messages.specs.declared.batcher.BatcherInput.{BatcherInput}
use Rattle.simplex_messages.specs.declared.batcher.BatcherInput.TheVariants as batcher_inputs
use Rattle.simplex_messages.specs.declared.batcher.Message as batcher_message
use Rattle.simplex_messages.specs.declared.batcher.Message.TheVariants as batcher_messages
use Rattle.simplex_messages.specs.declared.voter.Message as voter_message
use Rattle.simplex_messages.specs.declared.voter.Message.TheVariants as voter_messages
use Rattle.simplex_messages.specs.declared.voter.VoterInput.{VoterInput}
use Rattle.simplex_messages.specs.declared.voter.VoterInput.TheVariants as voter_inputs
use Rattle.simplex_messages.specs.declared.step.Outcome.{Outcome}
use Rattle.simplex_messages.specs.declared.step.Outcome.TheVariants as outcomes
use Rattle.simplex_messages.specs.declared.step.Stop.{Stop}
use Rattle.simplex_messages.specs.declared.step.Stop.TheVariants as stops
use Rattle.simplex_messages.specs.declared.step.StepOut.{StepOut}
use Rattle.simplex_messages.specs.Step.{no_out}
use Rattle.simplex_transcript.specs.declared.event.StepSource.{StepSource}
use Rattle.simplex_transcript.specs.declared.event.StepSource.TheVariants as sources
use Rattle.model_steps.specs.Batcher as batcher
use Rattle.model_steps.specs.Desk.{Doing}
use Rattle.model_steps.specs.Engine as engine
use Rattle.model_steps.specs.Engine.{EngineMade, Taken, Began, Did, voter_in, voter_past, given_to_voter, started_at, is_start, sections_of, runs, is_whole, by_voter, by_batcher, cut_short, did_of}
use Rattle.model_steps.specs.Performed.{Performed, performed}
use Rattle.model_steps.specs.ResolverSteps.{is_call_of_resolver, is_handed_by_resolver, IsOfResolver, IsApart}
use Rattle.model_steps.specs.Voter as voter
use Rattle.model_steps.specs.VoterLife.{VoterMade, Started, Stepped, Answered, Place, place_of, rest, unreadable, start_at, unread, start_performed, start_given, step_given}
use Rattle.model_steps.proofs.ResolverSteps.{heard_by_resolver, heard_apart, stepped_resolver, stepped_resolver_apart, stepped_handler, stepped_handler_apart, stepped_fetcher, stepped_fetcher_apart}
use Rattle.model_run.specs.Life as ran
use Rattle.model_run.specs.Life.{going_on}
use Rattle.law_agreement.specs.World as agreement
use Rattle.law_agreement.specs.Member as life
use Rattle.law_agreement.specs.Member.{Member, happens, run, IsLegal}
use Rattle.law_agreement.proofs.ListFacts.{not_in_empty, Contains-cons_cases}
use Rattle.law_member.specs.Life.{floor_statement, AreSent, IsRunning, IsStopped, IsLeft, IsFloor}
use Rattle.law_member.proofs.Constructing.{AreSilent, all_silent}
use Rattle.law_member.proofs.Floors.{start_lived}
use Rattle.law_member.proofs.LifeStarting.{none_sent, plain_voteless, Voteless}
use Rattle.law_member.proofs.LifeStepping.{step_lived}
use Rattle.law_member.proofs.Replaying.{AllPlain}
use Rattle.law_run.specs.Sayings.{Each, InMessage}
use Rattle.law_run.proofs.Events.{place_in, place_same, place_then, step_place, idle_place, step_gives, answered_known, never_idle, never_refused, start_never_refused, start_sections, rest_stopped, any_record, any_floor, nothing_bad}
use Rattle.law_run.proofs.Letting.{heard_either, heard_no_start}
use Rattle.law_run.proofs.Nodes.{resolver_no_start, handler_no_start, fetcher_no_start}
use Rattle.law_run.proofs.NodeQuiet.{batcher_hush, batcher_plain, for_voter_silent}
use Rattle.law_run.proofs.Telling.{started_says, said_at_start}
use Rattle.law_cluster.specs.Lives.{IsStart, GoesOn, view_in}
use Rattle.law_cluster.proofs.Further.{IsAt, IsStoppedIn, stopped_in, Further}

-- the rules of an engine, whenever it starts, have these terms and are of this epoch
pub record Keeps (term epoch : ℕ) (made : EngineMade) : Type 0 where
  pub terms : (now : ℕ) → (made.voter now).rules.term_length ≡ term
  pub epochs : (now : ℕ) → (made.voter now).rules.epoch ≡ epoch

-- ---- what an outcome is

start_never_idle : (stop : Stop) (floor : Floor) (d : Doing) (js : List Section) → (start_performed stop floor d js).outcome ≡ outcomes.Idle → ⊥
unfolding start_performed
start_never_idle stops.None floor d js e = never_idle stops.None d js e
start_never_idle (stops.Cut call keep) floor d js e = never_idle (stops.Cut call keep) d js e
start_never_idle (stops.Fail call keep) floor d js e = at (call == 1) e
  where
    at : (b : Bool) → (if b then unread floor d keep js else performed (stops.Fail (call - 1) keep) d js).outcome ≡ outcomes.Idle → ⊥
    at true h = cc
    at false h = never_idle (stops.Fail (call - 1) keep) d js h

start_reads : (stop : Stop) (floor : Floor) (d : Doing) (js : List Section) → (start_performed stop floor d js).outcome ≡ outcomes.Done → unreadable stop ≡ false
unfolding start_performed
start_reads stops.None floor d js e = refl
start_reads (stops.Cut call keep) floor d js e = refl
start_reads (stops.Fail call keep) floor d js e = at (call == 1) e
  where
    at : (b : Bool) → (if b then unread floor d keep js else performed (stops.Fail (call - 1) keep) d js).outcome ≡ outcomes.Done → b ≡ false
    at true h = cc
    at false h = refl

start_place : (made : VoterMade) (now : ℕ) (stop : Stop) → unreadable stop ≡ false
    → (place_of made (Started now stop ∷ [])).standing.desk.known ≡ (start_at made now made.sections).desk.known
unfolding place_of
start_place made now stop e = ap (λ b. (if b then (place_of made []).standing else rest (start_at made now made.sections) []).desk.known) e

-- ---- what sends no vote

no_send : (cs : List Call) (to : Recipients) (bytes : List ℕ) → AreSent cs [] → ¬ (Contains cs (calls.Send channels.Vote to bytes))
unfolding AreSent
no_send [] to bytes h k = absurd (not_in_empty _ k)
no_send (calls.Send channels.Vote t b ∷ xs) to bytes h k = cc h.3
no_send (calls.Send channels.Certificate t b ∷ xs) to bytes h k = elim (Contains-cons_cases _ xs _ k) [ inl e ↦ cc e | inr r ↦ no_send xs to bytes h r ]
no_send (calls.Send channels.Resolver t b ∷ xs) to bytes h k = elim (Contains-cons_cases _ xs _ k) [ inl e ↦ cc e | inr r ↦ no_send xs to bytes h r ]
no_send (calls.Append n a ∷ xs) to bytes h k = elim (Contains-cons_cases _ xs _ k) [ inl e ↦ cc e | inr r ↦ no_send xs to bytes h r ]
no_send (calls.Sync n ∷ xs) to bytes h k = elim (Contains-cons_cases _ xs _ k) [ inl e ↦ cc e | inr r ↦ no_send xs to bytes h r ]
no_send (calls.Prune n ∷ xs) to bytes h k = elim (Contains-cons_cases _ xs _ k) [ inl e ↦ cc e | inr r ↦ no_send xs to bytes h r ]
no_send (calls.Report activity ∷ xs) to bytes h k = elim (Contains-cons_cases _ xs _ k) [ inl e ↦ cc e | inr r ↦ no_send xs to bytes h r ]
no_send (calls.Relay payload plan ∷ xs) to bytes h k = elim (Contains-cons_cases _ xs _ k) [ inl e ↦ cc e | inr r ↦ no_send xs to bytes h r ]
no_send (calls.Block who why ∷ xs) to bytes h k = elim (Contains-cons_cases _ xs _ k) [ inl e ↦ cc e | inr r ↦ no_send xs to bytes h r ]

unsent_silent : (cs : List Call) (hs : List Handed) → AreSent cs [] → Each (InMessage nothing_bad cs) hs → AreSilent hs
unsent_silent cs [] h k = tt
unsent_silent cs (handed.Batcher (batcher_messages.Constructed v) ∷ rest) h k = absurd (no_send cs recipients.All (format.vote.spelling v) h k.0)
unsent_silent cs (handed.Batcher (batcher_messages.Update current leader finalized proposal) ∷ rest) h k = (tt, unsent_silent cs rest h k.1)
unsent_silent cs (handed.Voter message ∷ rest) h k = (tt, unsent_silent cs rest h k.1)
unsent_silent cs (handed.Resolver message ∷ rest) h k = (tt, unsent_silent cs rest h k.1)
unsent_silent cs (handed.Handler message ∷ rest) h k = (tt, unsent_silent cs rest h k.1)

plain_take : (n : ℕ) (xs : List Call) → AllPlain xs → AllPlain (take n xs)
plain_take zero xs p = tt
plain_take (suc n) [] p = tt
plain_take (suc n) (x ∷ xs) p = (p.0, plain_take n xs p.1)

cut_plain : (stop : Stop) (out : StepOut) → AllPlain out.calls → AllPlain (cut_short stop out).1.calls
cut_plain stops.None out p = p
cut_plain (stops.Fail call keep) out p = p
cut_plain (stops.Cut call keep) out p = at (nat_lt 0 call && nat_le call (length out.calls))
  where
    pair : Bool → Outcome × StepOut
    pair b = if b then (outcomes.Cut, record no_out { calls = take (call - 1) out.calls }) else (outcomes.Done, out)

    at : (b : Bool) → AllPlain (pair b).1.calls
    at true = plain_take (call - 1) out.calls p
    at false = p

cut_silent : (stop : Stop) (out : StepOut) → AreSilent out.handed → AreSilent (cut_short stop out).1.handed
cut_silent stops.None out p = p
cut_silent (stops.Fail call keep) out p = p
cut_silent (stops.Cut call keep) out p = at (nat_lt 0 call && nat_le call (length out.calls))
  where
    pair : Bool → Outcome × StepOut
    pair b = if b then (outcomes.Cut, record no_out { calls = take (call - 1) out.calls }) else (outcomes.Done, out)

    at : (b : Bool) → AreSilent (pair b).1.handed
    at true = tt
    at false = p

resolver_voteless : (cs : List Call) → list_all is_call_of_resolver cs ≡ true → Voteless cs
resolver_voteless [] e = tt
resolver_voteless (calls.Block who why ∷ cs) e = (tt, resolver_voteless cs e)
resolver_voteless (calls.Send channels.Resolver to bytes ∷ cs) e = (tt, resolver_voteless cs e)
resolver_voteless (calls.Send channels.Vote to bytes ∷ cs) e = cc
resolver_voteless (calls.Send channels.Certificate to bytes ∷ cs) e = cc
resolver_voteless (calls.Append n a ∷ cs) e = cc
resolver_voteless (calls.Sync n ∷ cs) e = cc
resolver_voteless (calls.Prune n ∷ cs) e = cc
resolver_voteless (calls.Report a ∷ cs) e = cc
resolver_voteless (calls.Relay payload plan ∷ cs) e = cc

resolver_silent : (hs : List Handed) → list_all is_handed_by_resolver hs ≡ true → AreSilent hs
resolver_silent [] e = tt
resolver_silent (handed.Handler message ∷ hs) e = (tt, resolver_silent hs e)
resolver_silent (handed.Voter (voter_messages.Verified c) ∷ hs) e = (tt, resolver_silent hs e)
resolver_silent (handed.Voter (voter_messages.Proposal p) ∷ hs) e = cc
resolver_silent (handed.Voter (voter_messages.Timeout round reason) ∷ hs) e = cc
resolver_silent (handed.Batcher message ∷ hs) e = cc
resolver_silent (handed.Resolver message ∷ hs) e = cc

-- what the start gives
abbrev pub start_of : EngineMade → ℕ → Stop → Performed
start_of made now stop =
    let v = made.voter now in start_performed stop v.floor (start_at v now v.sections) v.sections

pub begun_is : (made : EngineMade) (now : ℕ) (stop : Stop) → engine.begun made now stop ≡ by_voter Began now stop (start_of made now stop)
unfolding engine.begun start_given place_of
begun_is made now stop = refl

-- what the voter does not see
abbrev pub IsUnseen : Taken → Type 0
IsUnseen taken = ((now : ℕ) (stop : Stop) (outcome : Outcome) (out : StepOut) → given_to_voter (did_of taken now stop outcome out) ≡ None) × (is_start taken ≡ false)

-- the voter takes this
abbrev pub IsGiven : Taken → VoterInput → Type 0
IsGiven taken input = ((now : ℕ) (stop : Stop) (outcome : Outcome) (out : StepOut) → given_to_voter (did_of taken now stop outcome out) ≡ Some (Stepped input now stop)) × (is_start taken ≡ false)

module _ (term epoch : ℕ) (floors : List agreement.Certificate) (made : EngineMade) (keeps : Keeps term epoch made) where
  abbrev pub F : List Call → List Handed → ran.Life → Member → Type 0
  F = Further term epoch floors

  -- ---- a start

  start_leaves : (now : ℕ) (stop : Stop) (m : Member) (o : Outcome) → (start_of made now stop).outcome ≡ o
      → IsLeft (made.voter now).rules (start_at (made.voter now) now (made.voter now).sections).desk.known o (start_of made now stop).sections m
      → IsAt epoch (if is_whole o then ran.Running made (by_voter Began now stop (start_of made now stop) ∷ []) else ran.Stopped (sections_of made (by_voter Began now stop (start_of made now stop) ∷ []))) m
  unfolding started_at voter_past sections_of
  start_leaves now stop m outcomes.Done e l =
      let v = made.voter now in
      subst (λ known. IsRunning v.rules known (place_of v (Started now stop ∷ [])).sections m) (sym (start_place v now stop (start_reads stop v.floor (start_at v now v.sections) v.sections e)))
      (subst (λ sections. IsRunning v.rules (start_at v now v.sections).desk.known sections m) (sym (start_sections v now stop)) l)
  start_leaves now stop m outcomes.Idle e l = (let v = made.voter now in absurd (start_never_idle stop v.floor (start_at v now v.sections) v.sections e))
  start_leaves now stop m outcomes.Refused e l = (let v = made.voter now in absurd (start_never_refused stop v.floor (start_at v now v.sections) v.sections e))
  start_leaves now stop m outcomes.Cut e l =
      let v = made.voter now in
      stopped_in epoch v.rules _ m (keeps.epochs now) (subst (λ sections. IsStopped v.rules sections m) (sym (start_sections v now stop)) l)
  start_leaves now stop m outcomes.Journal e l =
      let v = made.voter now in
      stopped_in epoch v.rules _ m (keeps.epochs now) (subst (λ sections. IsStopped v.rules sections m) (sym (start_sections v now stop)) l)

  start_silent : (now : ℕ) (stop : Stop) → AreSent (start_of made now stop).out.calls [] → AreSilent (start_of made now stop).out.handed
  start_silent now stop h =
      let v = made.voter now in
      let said = said_at_start nothing_bad stop v.floor (start_at v now v.sections) v.sections
      (started_says nothing_bad v.rules now v.floor (replayed v.sections) (any_floor v.floor) (λ a k. any_record a)) in
      unsent_silent (start_of made now stop).out.calls (start_of made now stop).out.handed h said.handed

  start_further : (now : ℕ) (stop : Stop) (m : Member) → IsFloor (made.voter now).floor → ((c : agreement.Certificate) → Contains (floor_statement (made.voter now).floor) c → Contains floors c)
      → IsStoppedIn epoch (made.voter now).sections m
      → (let did = by_voter Began now stop (start_of made now stop) in F did.out.calls did.out.handed (going_on made (did ∷ [])) m)
  unfolding runs
  start_further now stop m good among s =
      let v = made.voter now in
      let x = start_lived v.rules now v.floor stop v.sections m good (s v.rules (keeps.epochs now)) in
      record {
        calls = x.calls;
        sent = [];
        legal = subst (λ n. IsLegal n m x.calls) (keeps.terms now) x.legal;
        brought = λ c k. inr (among c (elim x.brought [
          | inl none ↦ absurd (not_in_empty c (subst (λ xs. Contains xs c) none k))
          | inr one ↦ subst (λ xs. Contains xs c) one k
        ]));
        sends = x.sends ∙ sym (append-nil m.sent);
        votes = x.votes;
        at = start_leaves now stop (run m x.calls) (start_of made now stop).outcome refl x.left;
        constructed = all_silent (run m x.calls).sent (start_of made now stop).out.handed (start_silent now stop x.votes);
        own = λ s k. absurd (not_in_empty s k);
      }

  -- ---- what the voter does not see

  module _ (past : List Did) (m : Member) (a : IsAt epoch (ran.Running made past) m) where
    quiet_at : (did : Did) → given_to_voter did ≡ None → is_start did.taken ≡ false → IsAt epoch (ran.Running made (did ∷ past)) m
    quiet_at did e f =
        let p = place_same made did past e f in
        subst (λ v. IsRunning v.rules (place_of v (voter_past (did ∷ past))).standing.desk.known (place_of v (voter_past (did ∷ past))).sections m) (sym p.0)
        (subst (λ given. IsRunning (voter_in made past).rules (place_of (voter_in made past) given).standing.desk.known (place_of (voter_in made past) given).sections m) (sym p.1) a)

    quiet_stopped : (did : Did) → given_to_voter did ≡ None → is_start did.taken ≡ false → IsAt epoch (ran.Stopped (sections_of made (did ∷ past))) (happens m (life.Crash (λ view. 0)))
    unfolding sections_of
    quiet_stopped did e f =
        let p = place_same made did past e f in
        let place = place_in made past in
        let after = happens m (life.Crash (λ view. 0)) in
        let stopped = stopped_in epoch (voter_in made past).rules place.sections after (keeps.epochs (started_at past)) (rest_stopped (voter_in made past).rules place.standing.desk.known place.sections m a) in
        subst (λ v. IsStoppedIn epoch (place_of v (voter_past (did ∷ past))).sections after) (sym p.0)
        (subst (λ given. IsStoppedIn epoch (place_of (voter_in made past) given).sections after) (sym p.1) stopped)

    quiet_on : (cs : List Call) (hs : List Handed) (later : ran.Life) → Voteless cs → AreSilent hs → IsAt epoch later m → F cs hs later m
    quiet_on cs hs later voteless silent here =
        record {
          calls = [];
          sent = [];
          legal = tt;
          brought = λ c k. absurd (not_in_empty c k);
          sends = sym (append-nil m.sent);
          votes = none_sent cs voteless;
          at = here;
          constructed = all_silent m.sent hs silent;
          own = λ s k. absurd (not_in_empty s k);
        }

    quiet_off : (cs : List Call) (hs : List Handed) (later : ran.Life) → Voteless cs → AreSilent hs → IsAt epoch later (happens m (life.Crash (λ view. 0))) → F cs hs later m
    quiet_off cs hs later voteless silent here =
        record {
          calls = life.Crash (λ view. 0) ∷ [];
          sent = [];
          legal = (tt, tt);
          brought = λ c k. absurd (not_in_empty c k);
          sends = sym (append-nil m.sent);
          votes = none_sent cs voteless;
          at = here;
          constructed = all_silent m.sent hs silent;
          own = λ s k. absurd (not_in_empty s k);
        }

    -- what an item that the voter does not see leaves
    unseen : (did : Did) → given_to_voter did ≡ None → is_start did.taken ≡ false → Voteless did.out.calls → AreSilent did.out.handed → F did.out.calls did.out.handed (going_on made (did ∷ past)) m
    unfolding runs
    unseen did e f voteless silent = at did.outcome
      where
        at : (o : Outcome) → F did.out.calls did.out.handed (if is_whole o then ran.Running made (did ∷ past) else ran.Stopped (sections_of made (did ∷ past))) m
        at outcomes.Done = quiet_on did.out.calls did.out.handed _ voteless silent (quiet_at did e f)
        at outcomes.Idle = quiet_on did.out.calls did.out.handed _ voteless silent (quiet_at did e f)
        at outcomes.Refused = quiet_on did.out.calls did.out.handed _ voteless silent (quiet_at did e f)
        at outcomes.Journal = quiet_off did.out.calls did.out.handed _ voteless silent (quiet_stopped did e f)
        at outcomes.Cut = quiet_off did.out.calls did.out.handed _ voteless silent (quiet_stopped did e f)

    abbrev pub Goes : Did → Type 0
    Goes did = F did.out.calls did.out.handed (going_on made (did ∷ past)) m

    batcher_further : (taken : Taken) (input : BatcherInput) (now : ℕ) (stop : Stop) → IsUnseen taken → Goes (by_batcher made past taken input now stop)
    unfolding by_batcher
    batcher_further taken input now stop u =
        let given : batcher.Timed = record { input = input; now = now } in
        let out = batcher.step_out made.batcher (engine.batcher_past past) given in
        let cut = cut_short stop out in
        unseen (did_of taken now stop cut.0 cut.1) (u.0 now stop cut.0 cut.1) u.1
        (plain_voteless cut.1.calls (cut_plain stop out (batcher_plain made.batcher (engine.batcher_past past) given)))
        (cut_silent stop out (for_voter_silent out.handed (batcher_hush made.batcher (engine.batcher_past past) given).1))

    nothing_further : (taken : Taken) (now : ℕ) (stop : Stop) (o : Outcome) → IsUnseen taken → Goes (did_of taken now stop o no_out)
    nothing_further taken now stop o u = unseen (did_of taken now stop o no_out) (u.0 now stop o no_out) u.1 tt tt

    resolver_further : (did : Did) → IsOfResolver did.out → IsApart did → is_start did.taken ≡ false → Goes did
    resolver_further did r apart start = unseen did apart.voter start (resolver_voteless did.out.calls r.calls) (resolver_silent did.out.handed r.handed)

    -- ---- a step of the voter

    step_leaves : (did : Did) (place : Place) (stop : Stop) (d : Doing) (n : Member) (o : Outcome) → place_in made (did ∷ past) ≡ place → voter_in made (did ∷ past) ≡ voter_in made past
        → (performed stop d (place_in made past).sections).outcome ≡ o → place.standing.desk.known ≡ d.desk.known → place.sections ≡ (performed stop d (place_in made past).sections).sections
        → IsLeft (voter_in made past).rules d.desk.known o (performed stop d (place_in made past).sections).sections n
        → IsAt epoch (if is_whole o then ran.Running made (did ∷ past) else ran.Stopped (sections_of made (did ∷ past))) n
    unfolding sections_of
    step_leaves did place stop d n outcomes.Done at same e known sections l =
        subst (λ (v : VoterMade). IsRunning v.rules (place_in made (did ∷ past)).standing.desk.known (place_in made (did ∷ past)).sections n) (sym same)
        (subst (λ (p : Place). IsRunning (voter_in made past).rules p.standing.desk.known p.sections n) (sym at)
        (subst (λ k. IsRunning (voter_in made past).rules k place.sections n) (sym known)
        (subst (λ x. IsRunning (voter_in made past).rules d.desk.known x n) (sym sections) l)))
    step_leaves did place stop d n outcomes.Idle at same e known sections l = absurd (never_idle stop d (place_in made past).sections e)
    step_leaves did place stop d n outcomes.Refused at same e known sections l = absurd (never_refused stop d (place_in made past).sections e)
    step_leaves did place stop d n outcomes.Journal at same e known sections l =
        subst (λ (p : Place). IsStoppedIn epoch p.sections n) (sym at)
        (subst (λ x. IsStoppedIn epoch x n) (sym sections) (stopped_in epoch (voter_in made past).rules _ n (keeps.epochs (started_at past)) l))
    step_leaves did place stop d n outcomes.Cut at same e known sections l =
        subst (λ (p : Place). IsStoppedIn epoch p.sections n) (sym at)
        (subst (λ x. IsStoppedIn epoch x n) (sym sections) (stopped_in epoch (voter_in made past).rules _ n (keeps.epochs (started_at past)) l))

    same_place : (did : Did) → voter_in made (did ∷ past) ≡ voter_in made past → place_in made (did ∷ past) ≡ place_in made past → IsAt epoch (ran.Running made (did ∷ past)) m
    same_place did v p =
        subst (λ (w : VoterMade). IsRunning w.rules (place_in made (did ∷ past)).standing.desk.known (place_in made (did ∷ past)).sections m) (sym v)
        (subst (λ (q : Place). IsRunning (voter_in made past).rules q.standing.desk.known q.sections m) (sym p) a)

    voter_idles : (taken : Taken) (input : VoterInput) (now : ℕ) (stop : Stop) → IsGiven taken input → voter.stepped (voter_in made past).rules now (place_in made past).standing input ≡ None
        → Goes (did_of taken now stop outcomes.Idle no_out)
    unfolding runs
    voter_idles taken input now stop step e =
        let did = did_of taken now stop outcomes.Idle no_out in
        let p = place_then made did past (Stepped input now stop) (step.0 now stop outcomes.Idle no_out) step.1 in
        quiet_on [] [] (ran.Running made (did ∷ past)) tt tt
        (same_place did p.0 (ap (λ v. place_of v (voter_past (did ∷ past))) p.0 ∙ ap (place_of (voter_in made past)) p.1 ∙ idle_place (voter_in made past) (voter_past past) input now stop e))

    voter_steps : (taken : Taken) (input : VoterInput) (now : ℕ) (stop : Stop) (d : Doing) → IsGiven taken input → view_in made past < greatest_view
        → voter.stepped (voter_in made past).rules now (place_in made past).standing input ≡ Some d → Goes (by_voter taken now stop (performed stop d (place_in made past).sections))
    unfolding runs
    voter_steps taken input now stop d step low e =
        let v = voter_in made past in
        let place = place_in made past in
        let given = performed stop d place.sections in
        let did = by_voter taken now stop given in
        let p = place_then made did past (Stepped input now stop) (step.0 now stop given.outcome given.out) step.1 in
        let x = step_lived v.rules now input stop place.standing place.sections d m low a e in
        let later : Place = record { standing = rest d place.standing.answers; sections = given.sections } in
        record {
          calls = x.calls;
          sent = x.sent;
          legal = subst (λ n. IsLegal n m x.calls) (keeps.terms (started_at past)) x.legal;
          brought = λ c k. inl (subst (λ xs. Contains xs c) x.brought k);
          sends = x.sends;
          votes = x.votes;
          at = step_leaves did later stop d (run m x.calls) given.outcome
              (ap (λ w. place_of w (voter_past (did ∷ past))) p.0 ∙ ap (place_of v) p.1 ∙ step_place v (voter_past past) input now stop d e) p.0 refl refl refl x.left;
          constructed = x.constructed;
          own = λ s k. elim (x.own s k) [
            | inl t ↦ inl t
            | inr l ↦ inr (l.0, l.1, l.2 ∙ keeps.epochs (started_at past), l.3)
          ];
        }

    voter_further : (taken : Taken) (input : VoterInput) (now : ℕ) (stop : Stop) → IsGiven taken input → view_in made past < greatest_view
        → Goes (by_voter taken now stop (step_given (voter_in made past) (voter_past past) input now stop))
    voter_further taken input now stop step low = at (voter.stepped (voter_in made past).rules now (place_in made past).standing input) refl
      where
        at : (o : Option Doing) → voter.stepped (voter_in made past).rules now (place_in made past).standing input ≡ o
            → Goes (by_voter taken now stop (step_given (voter_in made past) (voter_past past) input now stop))
        at None e =
            subst (λ (x : Performed). Goes (by_voter taken now stop x)) (sym (step_gives (voter_in made past) (voter_past past) input now stop None e))
            (voter_idles taken input now stop step e)
        at (Some d) e =
            subst (λ (x : Performed). Goes (by_voter taken now stop x)) (sym (step_gives (voter_in made past) (voter_past past) input now stop (Some d) e))
            (voter_steps taken input now stop d step low e)

    -- ---- an answer

    answered_at : (did : Did) (number : ℕ) (answer : Answer) → given_to_voter did ≡ Some (Answered number answer) → is_start did.taken ≡ false → IsAt epoch (ran.Running made (did ∷ past)) m
    unfolding place_of
    answered_at did number answer e f =
        let p = place_then made did past (Answered number answer) e f in
        let place = place_in made past in
        subst (λ v. IsRunning v.rules (place_of v (voter_past (did ∷ past))).standing.desk.known (place_of v (voter_past (did ∷ past))).sections m) (sym p.0)
        (subst (λ given. IsRunning (voter_in made past).rules (place_of (voter_in made past) given).standing.desk.known (place_of (voter_in made past) given).sections m) (sym p.1)
        (subst (λ k. IsRunning (voter_in made past).rules k place.sections m) (sym (answered_known number answer place.standing)) a))

    answer_further : (number : ℕ) (answer : Answer) (now : ℕ) → Goes (engine.replied number answer now)
    unfolding runs
    answer_further number answer now =
        quiet_on [] [] (ran.Running made (engine.replied number answer now ∷ past)) tt tt (answered_at (engine.replied number answer now) number answer refl refl)

    -- ---- whatever comes

    refused_or : (sender : ℕ) (channel : Channel) (bytes : List ℕ) (now : ℕ) → Goes (engine.let_in made past sender channel bytes now) → Goes (engine.heard made past sender channel bytes now)
    refused_or sender channel bytes now l =
        heard_either Goes made past sender channel bytes now
        (nothing_further (engine.Heard sender channel bytes) now stops.None outcomes.Refused (λ n s o out. refl, refl)) l

    heard_further : (sender : ℕ) (channel : Channel) (bytes : List ℕ) (now : ℕ) → Goes (engine.heard made past sender channel bytes now)
    unfolding engine.let_in
    heard_further sender channels.Vote bytes now =
        refused_or sender channels.Vote bytes now
        (batcher_further (engine.Heard sender channels.Vote bytes) (batcher_inputs.Vote sender bytes) now stops.None (λ n s o out. refl, refl))
    heard_further sender channels.Certificate bytes now =
        refused_or sender channels.Certificate bytes now
        (batcher_further (engine.Heard sender channels.Certificate bytes) (batcher_inputs.Certificate sender bytes) now stops.None (λ n s o out. refl, refl))
    heard_further sender channels.Resolver bytes now =
        resolver_further (engine.heard made past sender channels.Resolver bytes now) (heard_by_resolver made past sender bytes now) (heard_apart made past sender bytes now)
        (heard_no_start made past sender channels.Resolver bytes now)

    batcher_mail_further : (now : ℕ) (stop : Stop) (o : Option batcher_message.Message) → Goes (engine.on_batcher_mail made past now stop o)
    batcher_mail_further now stop None = nothing_further (engine.Took sources.Batcher None) now stop outcomes.Idle (λ n s o out. refl, refl)
    batcher_mail_further now stop (Some message) =
        batcher_further (engine.Took sources.Batcher (Some (handed.Batcher message))) (batcher_inputs.Mail message) now stop (λ n s o out. refl, refl)

    voter_mail_further : (now : ℕ) (stop : Stop) (o : Option voter_message.Message) → view_in made past < greatest_view → Goes (engine.on_voter_mail made past now stop o)
    voter_mail_further now stop None low = nothing_further (engine.Took sources.Voter None) now stop outcomes.Idle (λ n s o out. refl, refl)
    voter_mail_further now stop (Some message) low =
        voter_further (engine.Took sources.Voter (Some (handed.Voter message))) (voter_inputs.Mail message) now stop (λ n s o out. refl, refl) low

    step_further : (source : StepSource) (now : ℕ) (stop : Stop) → view_in made past < greatest_view → Goes (engine.stepped made past source now stop)
    unfolding engine.stepped
    step_further sources.Batcher now stop low = batcher_mail_further now stop (received (engine.batcher_mail made past))
    step_further sources.Voter now stop low = voter_mail_further now stop (received (engine.voter_mail made past)) low
    step_further sources.Timer now stop low = voter_further (engine.Took sources.Timer None) voter_inputs.Timer now stop (λ n s o out. refl, refl) low
    step_further sources.Propose now stop low = voter_further (engine.Took sources.Propose None) voter_inputs.Propose now stop (λ n s o out. refl, refl) low
    step_further sources.Verify now stop low = voter_further (engine.Took sources.Verify None) voter_inputs.Verify now stop (λ n s o out. refl, refl) low
    step_further sources.Certify now stop low = voter_further (engine.Took sources.Certify None) voter_inputs.Certify now stop (λ n s o out. refl, refl) low
    step_further sources.Resolver now stop low =
        resolver_further (engine.stepped made past sources.Resolver now stop) (stepped_resolver made past now stop) (stepped_resolver_apart made past now stop) (resolver_no_start made past now stop)
    step_further sources.Handler now stop low =
        resolver_further (engine.stepped made past sources.Handler now stop) (stepped_handler made past now stop) (stepped_handler_apart made past now stop) (handler_no_start made past now stop)
    step_further sources.Fetch now stop low =
        resolver_further (engine.stepped made past sources.Fetch now stop) (stepped_fetcher made past now stop) (stepped_fetcher_apart made past now stop) (fetcher_no_start made past now stop)

    pub taken_further : (did : Did) → GoesOn made past did → Goes did
    taken_further did g = elim g.next [
      | inl p ↦ subst Goes (sym p.is) (heard_further p.sender p.channel p.bytes p.now)
      | inr other ↦ elim other [
        | inl s ↦ subst Goes (sym s.is) (step_further s.source s.now s.stop s.low)
        | inr r ↦ subst Goes (sym r.is) (answer_further r.number r.answer r.now)
      ]
    ]

  pub begin_further : (did : Did) (m : Member) → IsStart made did → ((now : ℕ) → IsFloor (made.voter now).floor)
      → ((now : ℕ) (c : agreement.Certificate) → Contains (floor_statement (made.voter now).floor) c → Contains floors c)
      → ((now : ℕ) → IsStoppedIn epoch (made.voter now).sections m)
      → F did.out.calls did.out.handed (going_on made (did ∷ [])) m
  begin_further did m s good among stopped =
      subst (λ (d : Did). F d.out.calls d.out.handed (going_on made (d ∷ [])) m) (sym (s.is ∙ begun_is made s.now s.stop))
      (start_further s.now s.stop m (good s.now) (among s.now) (stopped s.now))
