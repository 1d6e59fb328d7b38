-- What the member lives in each kind of event of its node.
use Rattle.simplex_values.specs.declared.plan.Channel.TheVariants as channels
use Rattle.std.proofs.Common.{◌≡◌, ℕ, zero, suc, ◌-◌, ◌<◌, ◌==◌, ◌&&◌, nat_lt, nat_le, Bool, true, false, List, [], ◌∷◌, ◌++◌, length, take, Contains, Option, Some, None, refl, sym, ap, ◌∙◌, subst, inl, inr, arith, append-nil, if◌then◌else◌}
use Rattle.std.specs.Option.{option_map, option_map_or}
use Rattle.std.specs.List.{filter_map, list_all}
use Rattle.std.proofs.lemmas.Grind.{common_steps}
use Rattle.simplex_values.specs.declared.answer.Answer.{Answer}
use Rattle.simplex_values.specs.Terms.{greatest_view}
use Rattle.simplex_wire.specs.declared.certificate.Finalization.{Finalization}
use Rattle.simplex_types.specs.declared.floor.Floor.{Floor}
use Rattle.model_rules.specs.Known.{Made, Fact}
use Rattle.model_rules.specs.Views.{current_of}
use Rattle.simplex_journal.specs.Journal.{Section, replayed, crashed}
use Rattle.simplex_journal.proofs.Contents.{crashed-rested}
use Rattle.simplex_values.specs.declared.plan.Recipients.{Recipients}
use Rattle.simplex_wire.specs.declared.vote.Nullify.{Nullify}
use Rattle.simplex_messages.specs.declared.call.Call.{Call}
use Rattle.simplex_messages.specs.declared.call.Call.TheVariants as calls
use Rattle.simplex_messages.specs.declared.batcher.BatcherInput.{BatcherInput}
use Rattle.simplex_messages.specs.declared.voter.VoterInput.{VoterInput}
use Rattle.simplex_messages.specs.declared.step.Outcome.{Outcome}
use Rattle.simplex_messages.specs.declared.step.Outcome.TheVariants as outcomes
use Rattle.simplex_messages.specs.declared.step.Stop.{Stop}
use Rattle.simplex_messages.specs.declared.step.Stop.TheVariants as stops
use Rattle.simplex_messages.specs.declared.step.StepOut.{StepOut}
use Rattle.simplex_messages.specs.Step.{no_out}
use Rattle.simplex_transcript.specs.declared.event.Event.TheVariants as events
use Rattle.simplex_transcript.specs.declared.node.Node.{Node}
use Rattle.model_steps.specs.Desk.{Doing}
use Rattle.model_steps.specs.Performed.{Performed, stop_place, stop_outcome, whole, broken, performed}
use Rattle.model_steps.specs.Voter as voter
use Rattle.model_steps.specs.VoterLife.{VoterMade, Given, Started, Stepped, Answered, Place, place_of, rest, unreadable, start_at, unread, start_performed, start_given, step_given, idle}
use Rattle.model_steps.specs.Batcher as batcher
use Rattle.model_steps.specs.Engine as engine
use Rattle.model_steps.specs.Engine.{EngineMade, Taken, Began, Did, voter_in, voter_past, given_to_voter, started_at, is_start, sections_of, runs, is_whole, by_voter, by_batcher, cut_short, did_of}
use Rattle.model_run.specs.Setting.{Setting}
use Rattle.model_run.specs.Life.{Noted, Life, Stopped, Running, going_on}
use Rattle.model_run.specs.Members.{floor_of, rules_of, engine_of}
use Rattle.law_agreement.specs.Journal as kept
use Rattle.law_agreement.specs.Member as life
use Rattle.law_agreement.specs.Member.{Member, happens, run, IsLegal}
use Rattle.simplex_wire.specs.declared.certificate.Certificate.{Certificate}
use Rattle.simplex_wire.specs.declared.certificate.Certificate.TheVariants as certificates
use Rattle.law_agreement.specs.World as agreement
use Rattle.law_agreement.proofs.ListFacts.{not_in_empty, Contains-cons_cases}
use Rattle.law_member.specs.Life.{statement_of, floor_statement, AreSent, IsRunning, IsStopped, AreVotesSent, IsLeft, IsEarlier, IsFloor}
use Rattle.law_member.specs.Storing.{IsOwn, AreStoredFirst}
use Rattle.law_member.specs.Life as conduct
use Rattle.law_member.proofs.LifeStepping.{step_lived}
use Rattle.law_member.proofs.Floors.{start_lived, crash_lived}
use Rattle.law_member.proofs.LifeStarting.{none_sent, plain_voteless, Voteless}
use Rattle.law_member.proofs.Replaying.{AllPlain}
use Rattle.law_member.proofs.Constructing.{AreSilent, all_silent}
use Rattle.simplex_messages.specs.declared.handed.Handed.{Handed}
use Rattle.simplex_messages.specs.declared.handed.Handed.TheVariants as handed
use Rattle.simplex_messages.specs.declared.batcher.Message.TheVariants as batcher_message
use Rattle.simplex_wire.specs.declared.artifact.Artifact.{Artifact}
use Rattle.simplex_wire.specs.declared.artifact.Artifact.TheVariants as artifacts
use Rattle.simplex_wire.specs.Message as format
use Rattle.simplex_values.specs.declared.plan.Recipients.TheVariants as recipients
use Rattle.simplex_types.specs.declared.floor.Floor.TheVariants as floors
use Rattle.law_run.specs.Sayings.{Each, InMessage, InRecord, InFloor}
use Rattle.law_run.proofs.Telling.{started_says, said_at_start}
use Rattle.law_run.specs.Histories.{IsAt, floor_in}
use Rattle.law_run.proofs.NodeQuiet.{batcher_hush, batcher_plain, for_voter_silent}
use Rattle.law_run.proofs.Further.{own_any, first_own, Further, subjects_of, same_self, stopped_any, at_rest}
use Rattle.simplex_messages.specs.declared.voter.Message.TheVariants as voter_message
use Rattle.model_steps.specs.ResolverSteps.{is_call_of_resolver, is_handed_by_resolver, IsOfResolver, IsApart}
use Rattle.simplex_wire.specs.declared.vote.Vote.{Vote}

-- where the voter of an engine is
abbrev pub place_in : EngineMade → List Did → Place
place_in made past = place_of (voter_in made past) (voter_past past)

-- ---- what an outcome is

-- a voter's step is neither idle nor refused
is_acted : Outcome → Bool
is_acted outcomes.Idle = false
is_acted outcomes.Refused = false
is_acted _ = true

performed_acted : (stop : Stop) (d : Doing) (js : List Section) → is_acted (performed stop d js).outcome ≡ true
unfolding performed is_acted
performed_acted stop d js = at (stop_place stop d.calls)
  where
    ended : (s : Stop) → is_acted (stop_outcome s) ≡ true
    ended stops.None = refl
    ended (stops.Cut call keep) = refl
    ended (stops.Fail call keep) = refl

    at : (o : Option ℕ) → is_acted (option_map_or (broken stop d js) o (whole d js)).outcome ≡ true
    at None = refl
    at (Some place) = ended stop

start_acted : (stop : Stop) (floor : Floor) (d : Doing) (js : List Section) → is_acted (start_performed stop floor d js).outcome ≡ true
unfolding start_performed is_acted
start_acted stops.None floor d js = performed_acted stops.None d js
start_acted (stops.Cut call keep) floor d js = performed_acted (stops.Cut call keep) d js
start_acted (stops.Fail call keep) floor d js = at (call == 1)
  where
    at : (b : Bool) → is_acted (if b then unread floor d keep js else performed (stops.Fail (call - 1) keep) d js).outcome ≡ true
    at true = refl
    at false = performed_acted (stops.Fail (call - 1) keep) d js

never : (o given : Outcome) → is_acted o ≡ true → o ≡ given → is_acted given ≡ false → ⊥
never o given t e f = cc

pub never_idle : (stop : Stop) (d : Doing) (js : List Section) → (performed stop d js).outcome ≡ outcomes.Idle → ⊥
unfolding is_acted
never_idle stop d js e = never _ outcomes.Idle (performed_acted stop d js) e refl

pub never_refused : (stop : Stop) (d : Doing) (js : List Section) → (performed stop d js).outcome ≡ outcomes.Refused → ⊥
unfolding is_acted
never_refused stop d js e = never _ outcomes.Refused (performed_acted stop d js) e refl

start_never_idle : (stop : Stop) (floor : Floor) (d : Doing) (js : List Section) → (start_performed stop floor d js).outcome ≡ outcomes.Idle → ⊥
unfolding is_acted
start_never_idle stop floor d js e = never _ outcomes.Idle (start_acted stop floor d js) e refl

pub start_never_refused : (stop : Stop) (floor : Floor) (d : Doing) (js : List Section) → (start_performed stop floor d js).outcome ≡ outcomes.Refused → ⊥
unfolding is_acted
start_never_refused stop floor d js e = never _ outcomes.Refused (start_acted stop floor d js) e refl

start_reads : (stop : Stop) (floor : Floor) (d : Doing) (js : List Section) → (start_performed stop floor d js).outcome ≡ outcomes.Done → unreadable stop ≡ false
unfolding start_performed
start_reads stops.None floor d js e = refl
start_reads (stops.Cut call keep) floor d js e = refl
start_reads (stops.Fail call keep) floor d js e = at (call == 1) e
  where
    at : (b : Bool) → (if b then unread floor d keep js else performed (stops.Fail (call - 1) keep) d js).outcome ≡ outcomes.Done → b ≡ false
    at true h = cc
    at false h = refl

-- ---- where no vote goes out

no_vote : (Earlier : Nullify → Type 0) (cs before behind : List Call) (to : Recipients) (bytes : List ℕ) → AreSent cs [] → cs ≡ before ++ (calls.Send channels.Vote to bytes ∷ behind) → ⊥
unfolding AreSent
no_vote Earlier cs before behind to bytes h e = at before (subst (λ xs. AreSent xs []) e h)
  where
    at : (xs : List Call) → AreSent (xs ++ (calls.Send channels.Vote to bytes ∷ behind)) [] → ⊥
    at [] k = cc k.3
    at (calls.Send channels.Vote t b ∷ xs) k = cc k.3
    at (calls.Send channels.Certificate t b ∷ xs) k = at xs k
    at (calls.Send channels.Resolver t b ∷ xs) k = at xs k
    at (calls.Append n a ∷ xs) k = at xs k
    at (calls.Sync n ∷ xs) k = at xs k
    at (calls.Prune n ∷ xs) k = at xs k
    at (calls.Report activity ∷ xs) k = at xs k
    at (calls.Relay payload plan ∷ xs) k = at xs k
    at (calls.Block who why ∷ xs) k = at xs k

voteless_first : (Earlier : Nullify → Type 0) (Own : Vote → Type 0) (cs : List Call) → AreSent cs [] → AreStoredFirst Earlier Own cs
voteless_first Earlier Own cs h before behind to bytes e = absurd (no_vote Earlier cs before behind to bytes h e)

-- ---- a start

-- where an engine is that just started
start_place : (made : VoterMade) (now : ℕ) (stop : Stop) → unreadable stop ≡ false
    → (place_of made (Started now stop ∷ [])).standing.desk.known ≡ (start_at made now made.sections).desk.known
unfolding place_of
start_place made now stop e = ap (λ b. (if b then (place_of made []).standing else rest (start_at made now made.sections) []).desk.known) e

pub start_sections : (made : VoterMade) (now : ℕ) (stop : Stop)
    → (place_of made (Started now stop ∷ [])).sections ≡ (start_performed stop made.floor (start_at made now made.sections) made.sections).sections
unfolding place_of
start_sections made now stop = refl

-- the engine of a start, and what it did
abbrev pub engine_at : Setting → Node → Option Finalization → List Section → EngineMade
engine_at setting node floor js = engine_of setting node.member (floor_of setting.genesis floor) js

engine_rules : (setting : Setting) (node : Node) (floor : Option Finalization) (js : List Section) (start : ℕ) → ((engine_at setting node floor js).voter start).rules ≡ rules_of setting node.member start
unfolding engine_of
engine_rules setting node floor js start = refl

-- what the start gives, by its rules
abbrev pub given_start : Setting → Node → Option Finalization → List Section → ℕ → Stop → Performed
given_start setting node floor js now stop =
    start_performed stop (floor_of setting.genesis floor) (voter.started (rules_of setting node.member now) now (floor_of setting.genesis floor) (replayed js)) js

pub begun_gives : (setting : Setting) (node : Node) (floor : Option Finalization) (js : List Section) (now : ℕ) (stop : Stop)
    → engine.begun (engine_at setting node floor js) now stop ≡ by_voter Began now stop (given_start setting node floor js now stop)
unfolding engine.begun engine_of start_given place_of
begun_gives setting node floor js now stop = refl

start_known : Setting → Node → Option Finalization → List Section → ℕ → List Fact
start_known setting node floor js now = (voter.started (rules_of setting node.member now) now (floor_of setting.genesis floor) (replayed js)).desk.known

-- where the node is behind a start that was made so
start_leaves : (setting : Setting) (node : Node) (floor : Option Finalization) (js : List Section) (now : ℕ) (stop : Stop) (m : Member) (o : Outcome)
    → (given_start setting node floor js now stop).outcome ≡ o
    → IsLeft (rules_of setting node.member now) (start_known setting node floor js now) o (given_start setting node floor js now stop).sections m
    → IsAt setting node (if is_whole o then Running (engine_at setting node floor js) (by_voter Began now stop (given_start setting node floor js now stop) ∷ [])
    else Stopped (sections_of (engine_at setting node floor js) (by_voter Began now stop (given_start setting node floor js now stop) ∷ []))) m
unfolding IsAt engine_of started_at voter_past start_known sections_of
start_leaves setting node floor js now stop m outcomes.Done e l =
    let made = (engine_at setting node floor js).voter now in (
      engine_rules setting node floor js,
      subst (λ known. IsRunning (rules_of setting node.member now) known (place_of made (Started now stop ∷ [])).sections m)
          (sym (start_place made now stop (start_reads stop (floor_of setting.genesis floor) (start_at made now js) js e)))
          (subst (λ sections. IsRunning (rules_of setting node.member now) (start_at made now js).desk.known sections m) (sym (start_sections made now stop)) l),
    )
start_leaves setting node floor js now stop m outcomes.Idle e l =
    absurd (start_never_idle stop (floor_of setting.genesis floor) (voter.started (rules_of setting node.member now) now (floor_of setting.genesis floor) (replayed js)) js e)
start_leaves setting node floor js now stop m outcomes.Refused e l =
    absurd (start_never_refused stop (floor_of setting.genesis floor) (voter.started (rules_of setting node.member now) now (floor_of setting.genesis floor) (replayed js)) js e)
start_leaves setting node floor js now stop m outcomes.Cut e l =
    let made = (engine_at setting node floor js).voter now in
    stopped_any setting node.member now 0 _ m (subst (λ sections. IsStopped (rules_of setting node.member now) sections m) (sym (start_sections made now stop)) l)
start_leaves setting node floor js now stop m outcomes.Journal e l =
    let made = (engine_at setting node floor js).voter now in
    stopped_any setting node.member now 0 _ m (subst (λ sections. IsStopped (rules_of setting node.member now) sections m) (sym (start_sections made now stop)) l)

-- what the member lives in a start
in_floor : (setting : Setting) (node : Node) (floor : Option Finalization) (stop : Stop) (c : agreement.Certificate)
    → Contains (floor_statement (floor_of setting.genesis floor)) c → Contains (floor_in node (events.Start node floor stop)) c
in_floor setting node None stop c k = absurd (not_in_empty c k)
in_floor setting node (Some f) stop c k =
    subst (λ b. Contains (if b then statement_of (certificates.Finalization f) ∷ [] else []) c) (sym (same_self node)) k

-- a start hands on no constructed vote: it sends none
abbrev pub nothing_bad : Certificate → Type 0
nothing_bad c = Unit {0}

no_send : (cs : List Call) (to : Recipients) (bytes : List ℕ) → AreSent cs [] → ¬ (Contains cs (calls.Send channels.Vote to bytes))
unfolding AreSent
no_send [] to bytes h k = absurd (not_in_empty _ k)
no_send (calls.Send channels.Vote t b ∷ xs) to bytes h k = cc h.3
no_send (calls.Send channels.Certificate t b ∷ xs) to bytes h k = elim (Contains-cons_cases _ xs _ k) [ inl e ↦ cc e | inr r ↦ no_send xs to bytes h r ]
no_send (calls.Send channels.Resolver t b ∷ xs) to bytes h k = elim (Contains-cons_cases _ xs _ k) [ inl e ↦ cc e | inr r ↦ no_send xs to bytes h r ]
no_send (calls.Append n a ∷ xs) to bytes h k = elim (Contains-cons_cases _ xs _ k) [ inl e ↦ cc e | inr r ↦ no_send xs to bytes h r ]
no_send (calls.Sync n ∷ xs) to bytes h k = elim (Contains-cons_cases _ xs _ k) [ inl e ↦ cc e | inr r ↦ no_send xs to bytes h r ]
no_send (calls.Prune n ∷ xs) to bytes h k = elim (Contains-cons_cases _ xs _ k) [ inl e ↦ cc e | inr r ↦ no_send xs to bytes h r ]
no_send (calls.Report activity ∷ xs) to bytes h k = elim (Contains-cons_cases _ xs _ k) [ inl e ↦ cc e | inr r ↦ no_send xs to bytes h r ]
no_send (calls.Relay payload plan ∷ xs) to bytes h k = elim (Contains-cons_cases _ xs _ k) [ inl e ↦ cc e | inr r ↦ no_send xs to bytes h r ]
no_send (calls.Block who why ∷ xs) to bytes h k = elim (Contains-cons_cases _ xs _ k) [ inl e ↦ cc e | inr r ↦ no_send xs to bytes h r ]

unsent_silent : (cs : List Call) (hs : List Handed) → AreSent cs [] → Each (InMessage nothing_bad cs) hs → AreSilent hs
unsent_silent cs [] h k = tt
unsent_silent cs (handed.Batcher (batcher_message.Constructed v) ∷ rest) h k = absurd (no_send cs recipients.All (format.vote.spelling v) h k.0)
unsent_silent cs (handed.Batcher (batcher_message.Update current leader finalized proposal) ∷ rest) h k = (tt, unsent_silent cs rest h k.1)
unsent_silent cs (handed.Voter message ∷ rest) h k = (tt, unsent_silent cs rest h k.1)
unsent_silent cs (handed.Resolver message ∷ rest) h k = (tt, unsent_silent cs rest h k.1)
unsent_silent cs (handed.Handler message ∷ rest) h k = (tt, unsent_silent cs rest h k.1)

pub any_record : (a : Artifact) → InRecord nothing_bad a
any_record (artifacts.Notarization c) = tt
any_record (artifacts.Nullification c) = tt
any_record (artifacts.Finalization c) = tt
any_record _ = tt

pub any_floor : (f : Floor) → InFloor nothing_bad f
any_floor (floors.Genesis payload) = tt
any_floor (floors.Finalized f) = tt

start_silent : (setting : Setting) (node : Node) (floor : Option Finalization) (js : List Section) (now : ℕ) (stop : Stop)
    → AreSent (given_start setting node floor js now stop).out.calls [] → AreSilent (given_start setting node floor js now stop).out.handed
start_silent setting node floor js now stop h =
    let f = floor_of setting.genesis floor in
    let rules = rules_of setting node.member now in
    let said = said_at_start nothing_bad stop f (voter.started rules now f (replayed js)) js
    (started_says nothing_bad rules now f (replayed js) (any_floor f) (λ a k. any_record a)) in
    unsent_silent (given_start setting node floor js now stop).out.calls (given_start setting node floor js now stop).out.handed h said.handed

pub start_further : (setting : Setting) (node : Node) (floor : Option Finalization) (stop : Stop) (js : List Section) (now : ℕ) (m : Member) (noted : Noted)
    → IsFloor (floor_of setting.genesis floor) → IsAt setting node (Stopped js) m
    → (noted.entry.calls ≡ (engine.begun (engine_at setting node floor js) now stop).out.calls) × (noted.entry.handed ≡ (engine.begun (engine_at setting node floor js) now stop).out.handed) → noted.event ≡ events.Start node floor stop
    → Further setting noted node (going_on (engine_at setting node floor js) (engine.begun (engine_at setting node floor js) now stop ∷ [])) m
unfolding IsAt rules_of runs start_known
start_further setting node floor stop js now m noted good s calls_is event_is =
    let x = start_lived (rules_of setting node.member now) now (floor_of setting.genesis floor) stop js m good (stopped_any setting node.member 0 now js m s) in
    let did = by_voter Began now stop (given_start setting node floor js now stop) in
    let same = begun_gives setting node floor js now stop in
    record {
      calls = x.calls;
      sent = [];
      legal = x.legal;
      brought = λ c k. inr (subst (λ e. Contains (floor_in node e) c) (sym event_is) (in_floor setting node floor stop c (elim x.brought [
        | inl none ↦ absurd (not_in_empty c (subst (λ xs. Contains xs c) none k))
        | inr one ↦ subst (λ xs. Contains xs c) one k
      ])));
      sends = x.sends ∙ sym (append-nil m.sent);
      votes = subst (λ cs. AreSent cs []) (sym (calls_is.0 ∙ ap (λ (d : Did). d.out.calls) same)) x.votes;
      at = subst (λ d. IsAt setting node (going_on (engine_at setting node floor js) (d ∷ [])) (run m x.calls)) (sym same)
          (start_leaves setting node floor js now stop (run m x.calls) (given_start setting node floor js now stop).outcome refl x.left);
      first = voteless_first (IsEarlier m) (IsOwn (rules_of setting node.member 0)) noted.entry.calls (subst (λ cs. AreSent cs []) (sym (calls_is.0 ∙ ap (λ (d : Did). d.out.calls) same)) x.votes);
      own = λ s k. absurd (not_in_empty s k);
      constructed = all_silent (run m x.calls).sent noted.entry.handed
          (subst AreSilent (sym (calls_is.1 ∙ ap (λ (d : Did). d.out.handed) same)) (start_silent setting node floor js now stop x.votes));
    }

-- ---- events that the voter does not see

pub place_same : (made : EngineMade) (did : Did) (past : List Did) → given_to_voter did ≡ None → is_start did.taken ≡ false
    → (voter_in made (did ∷ past) ≡ voter_in made past) × (voter_past (did ∷ past) ≡ voter_past past)
unfolding started_at voter_past
place_same made did past e f =
    (ap (λ b. made.voter (if b then did.now else started_at past)) f, filter_none did past e)
  where
    filter_none : (did : Did) (past : List Did) → given_to_voter did ≡ None → filter_map given_to_voter (did ∷ past) ≡ filter_map given_to_voter past
    filter_none did past e = grind (arith, common_steps, e)

quiet_at : (setting : Setting) (node : Node) (made : EngineMade) (did : Did) (past : List Did) (m : Member) → given_to_voter did ≡ None → is_start did.taken ≡ false
    → IsAt setting node (Running made past) m → IsAt setting node (Running made (did ∷ past)) m
unfolding IsAt
quiet_at setting node made did past m e f a =
    let p = place_same made did past e f in (
      a.0,
      subst (λ v. IsRunning v.rules (place_of v (voter_past (did ∷ past))).standing.desk.known (place_of v (voter_past (did ∷ past))).sections m) (sym p.0)
          (subst (λ given. IsRunning (voter_in made past).rules (place_of (voter_in made past) given).standing.desk.known (place_of (voter_in made past) given).sections m) (sym p.1) a.1),
    )

-- a member that stops between two steps keeps its journal
pub rest_stopped : (made : Made) (facts : List Fact) (js : List Section) (m : Member) → IsRunning made facts js m → IsStopped made js (happens m (life.Crash (λ view. 0)))
rest_stopped made facts js m r =
    subst (λ x. IsStopped made x (happens m (life.Crash (λ view. 0)))) (crashed-rested 0 js (at_rest js (ap kept.waiting (sym r.journal) ∙ r.stored)))
    (crash_lived made 0 facts js m r)

quiet_stopped : (setting : Setting) (node : Node) (made : EngineMade) (did : Did) (past : List Did) (m : Member) → given_to_voter did ≡ None → is_start did.taken ≡ false
    → IsAt setting node (Running made past) m → IsAt setting node (Stopped (sections_of made (did ∷ past))) (happens m (life.Crash (λ view. 0)))
unfolding IsAt sections_of
quiet_stopped setting node made did past m e f a =
    let p = place_same made did past e f in
    let place = place_of (voter_in made past) (voter_past past) in
    let stopped : IsStopped (rules_of setting node.member (started_at past)) place.sections (happens m (life.Crash (λ view. 0))) =
    subst (λ r. IsStopped r place.sections (happens m (life.Crash (λ view. 0)))) (a.0 (started_at past)) (rest_stopped (voter_in made past).rules place.standing.desk.known place.sections m a.1) in
    subst (λ v. IsStopped (rules_of setting node.member 0) (place_of v (voter_past (did ∷ past))).sections (happens m (life.Crash (λ view. 0)))) (sym p.0)
    (subst (λ given. IsStopped (rules_of setting node.member 0) (place_of (voter_in made past) given).sections (happens m (life.Crash (λ view. 0)))) (sym p.1)
    (stopped_any setting node.member (started_at past) 0 place.sections (happens m (life.Crash (λ view. 0))) stopped))

-- the member does nothing, or stops
quiet_on : (setting : Setting) (node : Node) (noted : Noted) (later : Life) (m : Member) → Voteless noted.entry.calls → AreSilent noted.entry.handed → IsAt setting node later m → Further setting noted node later m
quiet_on setting node noted later m voteless silent a =
    record {
      calls = [];
      sent = [];
      legal = tt;
      brought = λ c k. absurd (not_in_empty c k);
      sends = sym (append-nil m.sent);
      votes = none_sent noted.entry.calls voteless;
      at = a;
      first = voteless_first (IsEarlier m) (IsOwn (rules_of setting node.member 0)) noted.entry.calls (none_sent noted.entry.calls voteless);
      constructed = all_silent m.sent noted.entry.handed silent;
      own = λ s k. absurd (not_in_empty s k);
    }

quiet_off : (setting : Setting) (node : Node) (noted : Noted) (later : Life) (m : Member) → Voteless noted.entry.calls → AreSilent noted.entry.handed → IsAt setting node later (happens m (life.Crash (λ view. 0)))
    → Further setting noted node later m
quiet_off setting node noted later m voteless silent a =
    record {
      calls = life.Crash (λ view. 0) ∷ [];
      sent = [];
      legal = (tt, tt);
      brought = λ c k. absurd (not_in_empty c k);
      sends = sym (append-nil m.sent);
      votes = none_sent noted.entry.calls voteless;
      at = a;
      first = voteless_first (IsEarlier m) (IsOwn (rules_of setting node.member 0)) noted.entry.calls (none_sent noted.entry.calls voteless);
      constructed = all_silent m.sent noted.entry.handed silent;
      own = λ s k. absurd (not_in_empty s k);
    }

plain_take : (n : ℕ) (xs : List Call) → AllPlain xs → AllPlain (take n xs)
plain_take zero xs p = tt
plain_take (suc n) [] p = tt
plain_take (suc n) (x ∷ xs) p = (p.0, plain_take n xs p.1)

-- where the engine is behind something that its voter does not see
abbrev pub IsUnseen : Taken → Type 0
IsUnseen taken = ((now : ℕ) (stop : Stop) (outcome : Outcome) (out : StepOut) → given_to_voter (did_of taken now stop outcome out) ≡ None) × (is_start taken ≡ false)

unseen_further : (setting : Setting) (node : Node) (made : EngineMade) (past : List Did) (m : Member) (noted : Noted) (taken : Taken) (now : ℕ) (stop : Stop) (o : Outcome) (out : StepOut)
    → IsUnseen taken → Voteless out.calls → AreSilent out.handed → (noted.entry.calls ≡ out.calls) × (noted.entry.handed ≡ out.handed) → IsAt setting node (Running made past) m
    → Further setting noted node (going_on made (did_of taken now stop o out ∷ past)) m
unfolding runs
unseen_further setting node made past m noted taken now stop outcomes.Done out u voteless silent same a =
    quiet_on setting node noted _ m (subst Voteless (sym same.0) voteless) (subst AreSilent (sym same.1) silent) (quiet_at setting node made (did_of taken now stop outcomes.Done out) past m (u.0 now stop outcomes.Done out) u.1 a)
unseen_further setting node made past m noted taken now stop outcomes.Idle out u voteless silent same a =
    quiet_on setting node noted _ m (subst Voteless (sym same.0) voteless) (subst AreSilent (sym same.1) silent) (quiet_at setting node made (did_of taken now stop outcomes.Idle out) past m (u.0 now stop outcomes.Idle out) u.1 a)
unseen_further setting node made past m noted taken now stop outcomes.Refused out u voteless silent same a =
    quiet_on setting node noted _ m (subst Voteless (sym same.0) voteless) (subst AreSilent (sym same.1) silent) (quiet_at setting node made (did_of taken now stop outcomes.Refused out) past m (u.0 now stop outcomes.Refused out) u.1 a)
unseen_further setting node made past m noted taken now stop outcomes.Journal out u voteless silent same a =
    quiet_off setting node noted _ m (subst Voteless (sym same.0) voteless) (subst AreSilent (sym same.1) silent) (quiet_stopped setting node made (did_of taken now stop outcomes.Journal out) past m (u.0 now stop outcomes.Journal out) u.1 a)
unseen_further setting node made past m noted taken now stop outcomes.Cut out u voteless silent same a =
    quiet_off setting node noted _ m (subst Voteless (sym same.0) voteless) (subst AreSilent (sym same.1) silent) (quiet_stopped setting node made (did_of taken now stop outcomes.Cut out) past m (u.0 now stop outcomes.Cut out) u.1 a)

-- what a batcher did
cut_plain : (stop : Stop) (out : StepOut) → AllPlain out.calls → AllPlain (cut_short stop out).1.calls
cut_plain stops.None out p = p
cut_plain (stops.Fail call keep) out p = p
cut_plain (stops.Cut call keep) out p = at (nat_lt 0 call && nat_le call (length out.calls))
  where
    pair : Bool → Outcome × StepOut
    pair b = if b then (outcomes.Cut, record no_out { calls = take (call - 1) out.calls }) else (outcomes.Done, out)

    at : (b : Bool) → AllPlain (pair b).1.calls
    at true = plain_take (call - 1) out.calls p
    at false = p

cut_silent : (stop : Stop) (out : StepOut) → AreSilent out.handed → AreSilent (cut_short stop out).1.handed
cut_silent stops.None out p = p
cut_silent (stops.Fail call keep) out p = p
cut_silent (stops.Cut call keep) out p = at (nat_lt 0 call && nat_le call (length out.calls))
  where
    pair : Bool → Outcome × StepOut
    pair b = if b then (outcomes.Cut, record no_out { calls = take (call - 1) out.calls }) else (outcomes.Done, out)

    at : (b : Bool) → AreSilent (pair b).1.handed
    at true = tt
    at false = p

pub batcher_further : (setting : Setting) (node : Node) (made : EngineMade) (past : List Did) (m : Member) (noted : Noted) (taken : Taken) (input : BatcherInput) (now : ℕ) (stop : Stop)
    → IsUnseen taken → (noted.entry.calls ≡ (by_batcher made past taken input now stop).out.calls) × (noted.entry.handed ≡ (by_batcher made past taken input now stop).out.handed) → IsAt setting node (Running made past) m
    → Further setting noted node (going_on made (by_batcher made past taken input now stop ∷ past)) m
unfolding by_batcher
batcher_further setting node made past m noted taken input now stop u same a =
    let given : batcher.Timed = record { input = input; now = now } in
    let out = batcher.step_out made.batcher (engine.batcher_past past) given in
    let cut = cut_short stop out in
    unseen_further setting node made past m noted taken now stop cut.0 cut.1 u (plain_voteless cut.1.calls (cut_plain stop out (batcher_plain made.batcher (engine.batcher_past past) given)))
    (cut_silent stop out (for_voter_silent out.handed (batcher_hush made.batcher (engine.batcher_past past) given).1)) same a

pub nothing_further : (setting : Setting) (node : Node) (made : EngineMade) (past : List Did) (m : Member) (noted : Noted) (taken : Taken) (now : ℕ) (stop : Stop) (o : Outcome)
    → IsUnseen taken → (noted.entry.calls ≡ []) × (noted.entry.handed ≡ []) → IsAt setting node (Running made past) m → Further setting noted node (going_on made (did_of taken now stop o no_out ∷ past)) m
nothing_further setting node made past m noted taken now stop o u same a = unseen_further setting node made past m noted taken now stop o no_out u tt tt same a

-- what a resolver did
resolver_voteless : (cs : List Call) → list_all is_call_of_resolver cs ≡ true → Voteless cs
resolver_voteless [] e = tt
resolver_voteless (calls.Block who why ∷ cs) e = (tt, resolver_voteless cs e)
resolver_voteless (calls.Send channels.Resolver to bytes ∷ cs) e = (tt, resolver_voteless cs e)
resolver_voteless (calls.Send channels.Vote to bytes ∷ cs) e = cc
resolver_voteless (calls.Send channels.Certificate to bytes ∷ cs) e = cc
resolver_voteless (calls.Append n a ∷ cs) e = cc
resolver_voteless (calls.Sync n ∷ cs) e = cc
resolver_voteless (calls.Prune n ∷ cs) e = cc
resolver_voteless (calls.Report a ∷ cs) e = cc
resolver_voteless (calls.Relay payload plan ∷ cs) e = cc

resolver_silent : (hs : List Handed) → list_all is_handed_by_resolver hs ≡ true → AreSilent hs
resolver_silent [] e = tt
resolver_silent (handed.Handler message ∷ hs) e = (tt, resolver_silent hs e)
resolver_silent (handed.Voter (voter_message.Verified c) ∷ hs) e = (tt, resolver_silent hs e)
resolver_silent (handed.Voter (voter_message.Proposal p) ∷ hs) e = cc
resolver_silent (handed.Voter (voter_message.Timeout round reason) ∷ hs) e = cc
resolver_silent (handed.Batcher message ∷ hs) e = cc
resolver_silent (handed.Resolver message ∷ hs) e = cc

pub resolver_further : (setting : Setting) (node : Node) (made : EngineMade) (past : List Did) (m : Member) (noted : Noted) (did : Did)
    → IsOfResolver did.out → IsApart did → is_start did.taken ≡ false → (noted.entry.calls ≡ did.out.calls) × (noted.entry.handed ≡ did.out.handed) → IsAt setting node (Running made past) m
    → Further setting noted node (going_on made (did ∷ past)) m
unfolding runs
resolver_further setting node made past m noted did r apart start same a = at did.outcome
  where
    voteless : Voteless noted.entry.calls
    voteless = subst Voteless (sym same.0) (resolver_voteless did.out.calls r.calls)

    silent : AreSilent noted.entry.handed
    silent = subst AreSilent (sym same.1) (resolver_silent did.out.handed r.handed)

    at : (o : Outcome) → Further setting noted node (if is_whole o then Running made (did ∷ past) else Stopped (sections_of made (did ∷ past))) m
    at outcomes.Done = quiet_on setting node noted _ m voteless silent (quiet_at setting node made did past m apart.voter start a)
    at outcomes.Idle = quiet_on setting node noted _ m voteless silent (quiet_at setting node made did past m apart.voter start a)
    at outcomes.Refused = quiet_on setting node noted _ m voteless silent (quiet_at setting node made did past m apart.voter start a)
    at outcomes.Journal = quiet_off setting node noted _ m voteless silent (quiet_stopped setting node made did past m apart.voter start a)
    at outcomes.Cut = quiet_off setting node noted _ m voteless silent (quiet_stopped setting node made did past m apart.voter start a)

-- ---- a step of the voter

-- where the node is behind a step that was made so
step_leaves : (setting : Setting) (node : Node) (made : EngineMade) (past : List Did) (did : Did) (place : Place) (input : VoterInput) (now : ℕ) (stop : Stop) (d : Doing) (m : Member) (o : Outcome)
    → ((start : ℕ) → (made.voter start).rules ≡ rules_of setting node.member start)
    → place_of (voter_in made (did ∷ past)) (voter_past (did ∷ past)) ≡ place → voter_in made (did ∷ past) ≡ voter_in made past
    → (performed stop d (place_of (voter_in made past) (voter_past past)).sections).outcome ≡ o
    → place.standing.desk.known ≡ d.desk.known → place.sections ≡ (performed stop d (place_of (voter_in made past) (voter_past past)).sections).sections
    → IsLeft (voter_in made past).rules d.desk.known o (performed stop d (place_of (voter_in made past) (voter_past past)).sections).sections m
    → IsAt setting node (if is_whole o then Running made (did ∷ past) else Stopped (sections_of made (did ∷ past))) m
unfolding IsAt sections_of
step_leaves setting node made past did place input now stop d m outcomes.Done rules at same e known sections l = (
  rules,
  subst (λ (v : VoterMade). IsRunning v.rules (place_of (voter_in made (did ∷ past)) (voter_past (did ∷ past))).standing.desk.known (place_of (voter_in made (did ∷ past)) (voter_past (did ∷ past))).sections m) (sym same)
      (subst (λ (p : Place). IsRunning (voter_in made past).rules p.standing.desk.known p.sections m) (sym at)
      (subst (λ k. IsRunning (voter_in made past).rules k place.sections m) (sym known)
      (subst (λ x. IsRunning (voter_in made past).rules d.desk.known x m) (sym sections) l))),
)
step_leaves setting node made past did place input now stop d m outcomes.Idle rules at same e known sections l = absurd (never_idle stop d (place_of (voter_in made past) (voter_past past)).sections e)
step_leaves setting node made past did place input now stop d m outcomes.Refused rules at same e known sections l = absurd (never_refused stop d (place_of (voter_in made past) (voter_past past)).sections e)
step_leaves setting node made past did place input now stop d m outcomes.Journal rules at same e known sections l =
    let js = (performed stop d (place_of (voter_in made past) (voter_past past)).sections).sections in
    subst (λ (p : Place). IsStopped (rules_of setting node.member 0) p.sections m) (sym at)
    (subst (λ x. IsStopped (rules_of setting node.member 0) x m) (sym sections)
    (stopped_any setting node.member (started_at past) 0 js m (subst (λ r. IsStopped r js m) (rules (started_at past)) l)))
step_leaves setting node made past did place input now stop d m outcomes.Cut rules at same e known sections l =
    let js = (performed stop d (place_of (voter_in made past) (voter_past past)).sections).sections in
    subst (λ (p : Place). IsStopped (rules_of setting node.member 0) p.sections m) (sym at)
    (subst (λ x. IsStopped (rules_of setting node.member 0) x m) (sym sections)
    (stopped_any setting node.member (started_at past) 0 js m (subst (λ r. IsStopped r js m) (rules (started_at past)) l)))

-- the voter was given this step
abbrev pub IsStep : Taken → VoterInput → Type 0
IsStep taken input = ((now : ℕ) (stop : Stop) (outcome : Outcome) (out : StepOut) → given_to_voter (did_of taken now stop outcome out) ≡ Some (Stepped input now stop)) × (is_start taken ≡ false)

pub place_then : (made : EngineMade) (did : Did) (past : List Did) (given : Given) → given_to_voter did ≡ Some given → is_start did.taken ≡ false
    → (voter_in made (did ∷ past) ≡ voter_in made past) × (voter_past (did ∷ past) ≡ given ∷ voter_past past)
unfolding started_at voter_past
place_then made did past given e f = (ap (λ b. made.voter (if b then did.now else started_at past)) f, filter_some did past given e)
  where
    filter_some : (did : Did) (past : List Did) (given : Given) → given_to_voter did ≡ Some given → filter_map given_to_voter (did ∷ past) ≡ given ∷ filter_map given_to_voter past
    filter_some did past given e = grind (arith, common_steps, e)

pub step_place : (made : VoterMade) (given : List Given) (input : VoterInput) (now : ℕ) (stop : Stop) (d : Doing) → voter.stepped made.rules now (place_of made given).standing input ≡ Some d
    → place_of made (Stepped input now stop ∷ given) ≡ record { standing = rest d (place_of made given).standing.answers; sections = (performed stop d (place_of made given).sections).sections }
unfolding place_of
step_place made given input now stop d e =
    ap (λ o. option_map_or (λ doing. record { standing = rest doing (place_of made given).standing.answers; sections = (performed stop doing (place_of made given).sections).sections }) o (place_of made given)) e

pub idle_place : (made : VoterMade) (given : List Given) (input : VoterInput) (now : ℕ) (stop : Stop) → voter.stepped made.rules now (place_of made given).standing input ≡ None
    → place_of made (Stepped input now stop ∷ given) ≡ place_of made given
unfolding place_of
idle_place made given input now stop e =
    ap (λ o. option_map_or (λ doing. record { standing = rest doing (place_of made given).standing.answers; sections = (performed stop doing (place_of made given).sections).sections }) o (place_of made given)) e

pub step_gives : (made : VoterMade) (given : List Given) (input : VoterInput) (now : ℕ) (stop : Stop) (o : Option Doing) → voter.stepped made.rules now (place_of made given).standing input ≡ o
    → step_given made given input now stop ≡ option_map_or (λ doing. performed stop doing (place_of made given).sections) o (idle (place_of made given).sections)
unfolding step_given
step_gives made given input now stop o e = ap (λ o. option_map_or (λ doing. performed stop doing (place_of made given).sections) o (idle (place_of made given).sections)) e

same_place : (setting : Setting) (node : Node) (made : EngineMade) (did : Did) (past : List Did) (m : Member) → voter_in made (did ∷ past) ≡ voter_in made past
    → place_of (voter_in made (did ∷ past)) (voter_past (did ∷ past)) ≡ place_of (voter_in made past) (voter_past past)
    → IsAt setting node (Running made past) m → IsAt setting node (Running made (did ∷ past)) m
unfolding IsAt
same_place setting node made did past m v p a = (
  a.0,
  subst (λ (w : VoterMade). IsRunning w.rules (place_of (voter_in made (did ∷ past)) (voter_past (did ∷ past))).standing.desk.known (place_of (voter_in made (did ∷ past)) (voter_past (did ∷ past))).sections m) (sym v)
      (subst (λ (q : Place). IsRunning (voter_in made past).rules q.standing.desk.known q.sections m) (sym p) a.1),
)

voter_idles : (setting : Setting) (node : Node) (made : EngineMade) (past : List Did) (m : Member) (noted : Noted) (taken : Taken) (input : VoterInput) (now : ℕ) (stop : Stop)
    → IsStep taken input → voter.stepped (voter_in made past).rules now (place_of (voter_in made past) (voter_past past)).standing input ≡ None → (noted.entry.calls ≡ []) × (noted.entry.handed ≡ [])
    → IsAt setting node (Running made past) m → Further setting noted node (going_on made (did_of taken now stop outcomes.Idle no_out ∷ past)) m
unfolding runs
voter_idles setting node made past m noted taken input now stop step e same a =
    let did = did_of taken now stop outcomes.Idle no_out in
    let p = place_then made did past (Stepped input now stop) (step.0 now stop outcomes.Idle no_out) step.1 in
    quiet_on setting node noted (Running made (did ∷ past)) m (subst Voteless (sym same.0) tt) (subst AreSilent (sym same.1) tt)
    (same_place setting node made did past m p.0
    (ap (λ v. place_of v (voter_past (did ∷ past))) p.0 ∙ ap (place_of (voter_in made past)) p.1 ∙ idle_place (voter_in made past) (voter_past past) input now stop e) a)

voter_steps : (setting : Setting) (node : Node) (made : EngineMade) (past : List Did) (m : Member) (noted : Noted) (taken : Taken) (input : VoterInput) (now : ℕ) (stop : Stop) (d : Doing)
    → IsStep taken input → current_of (voter_in made past).rules (place_of (voter_in made past) (voter_past past)).standing.desk.known < greatest_view
    → voter.stepped (voter_in made past).rules now (place_of (voter_in made past) (voter_past past)).standing input ≡ Some d
    → (noted.entry.calls ≡ (performed stop d (place_of (voter_in made past) (voter_past past)).sections).out.calls) × (noted.entry.handed ≡ (performed stop d (place_of (voter_in made past) (voter_past past)).sections).out.handed)
    → IsAt setting node (Running made past) m
    → Further setting noted node (going_on made (by_voter taken now stop (performed stop d (place_of (voter_in made past) (voter_past past)).sections) ∷ past)) m
unfolding IsAt runs rules_of
voter_steps setting node made past m noted taken input now stop d step low e same a =
    let v = voter_in made past in
    let place = place_of v (voter_past past) in
    let given = performed stop d place.sections in
    let did = by_voter taken now stop given in
    let p = place_then made did past (Stepped input now stop) (step.0 now stop given.outcome given.out) step.1 in
    let x = step_lived v.rules now input stop place.standing place.sections d m low a.1 e in
    let later : Place = record { standing = rest d place.standing.answers; sections = given.sections } in
    record {
      calls = x.calls;
      sent = x.sent;
      legal = subst (λ (r : Made). IsLegal r.term_length m x.calls) (a.0 (started_at past)) x.legal;
      brought = λ c k. inl (subst (λ cs. Contains (conduct.taken cs) c) (sym same.0) (subst (λ xs. Contains xs c) x.brought k));
      sends = x.sends;
      votes = subst (λ cs. AreSent cs (subjects_of x.sent)) (sym same.0) x.votes;
      at = step_leaves setting node made past did later input now stop d (run m x.calls) given.outcome a.0
          (ap (λ w. place_of w (voter_past (did ∷ past))) p.0 ∙ ap (place_of v) p.1 ∙ step_place v (voter_past past) input now stop d e) p.0 refl refl refl x.left;
      first = subst (AreStoredFirst (IsEarlier m) (IsOwn (rules_of setting node.member 0))) (sym same.0)
          (first_own (IsEarlier m) (IsOwn (voter_in made past).rules) (IsOwn (rules_of setting node.member 0)) given.out.calls
          (λ w o. own_any setting node.member (started_at past) 0 w (subst (λ r. IsOwn r w) (a.0 (started_at past)) o)) x.first);
      constructed = subst (AreVotesSent (run m x.calls).sent) (sym same.1) x.constructed;
      own = λ s k. elim (x.own s k) [
        | inl t ↦ inl (subst (λ cs. Contains (conduct.voted cs) s) (sym same.0) t)
        | inr l ↦ inr (l.0, l.1, l.2 ∙ ap (λ (r : Made). r.epoch) (a.0 (started_at past)), l.3)
      ];
    }

pub voter_further : (setting : Setting) (node : Node) (made : EngineMade) (past : List Did) (m : Member) (noted : Noted) (taken : Taken) (input : VoterInput) (now : ℕ) (stop : Stop)
    → IsStep taken input → current_of (voter_in made past).rules (place_of (voter_in made past) (voter_past past)).standing.desk.known < greatest_view
    → (noted.entry.calls ≡ (by_voter taken now stop (step_given (voter_in made past) (voter_past past) input now stop)).out.calls) × (noted.entry.handed ≡ (by_voter taken now stop (step_given (voter_in made past) (voter_past past) input now stop)).out.handed)
    → IsAt setting node (Running made past) m
    → Further setting noted node (going_on made (by_voter taken now stop (step_given (voter_in made past) (voter_past past) input now stop) ∷ past)) m
voter_further setting node made past m noted taken input now stop step low same a =
    at (voter.stepped (voter_in made past).rules now (place_of (voter_in made past) (voter_past past)).standing input) refl
  where
    at : (o : Option Doing) → voter.stepped (voter_in made past).rules now (place_of (voter_in made past) (voter_past past)).standing input ≡ o
        → Further setting noted node (going_on made (by_voter taken now stop (step_given (voter_in made past) (voter_past past) input now stop) ∷ past)) m
    at None e =
        let g = step_gives (voter_in made past) (voter_past past) input now stop None e in
        subst (λ x. Further setting noted node (going_on made (by_voter taken now stop x ∷ past)) m) (sym g)
        (voter_idles setting node made past m noted taken input now stop step e (same.0 ∙ ap (λ (x : Performed). x.out.calls) g, same.1 ∙ ap (λ (x : Performed). x.out.handed) g) a)
    at (Some d) e =
        let g = step_gives (voter_in made past) (voter_past past) input now stop (Some d) e in
        subst (λ x. Further setting noted node (going_on made (by_voter taken now stop x ∷ past)) m) (sym g)
        (voter_steps setting node made past m noted taken input now stop d step low e (same.0 ∙ ap (λ (x : Performed). x.out.calls) g, same.1 ∙ ap (λ (x : Performed). x.out.handed) g) a)

-- ---- an answer

pub answered_known : (number : ℕ) (answer : Answer) (s : voter.Standing) → (voter.answered number answer s).desk.known ≡ s.desk.known
unfolding voter.answered
answered_known number answer s = at (voter.takes_answer s number answer)
  where
    at : (b : Bool) → (if b
        then record {
          desk = record s.desk { proposal = option_map (voter.marked_answered number) s.desk.proposal };
          answers = s.answers ++ (number, answer) ∷ [];
        }
        else s).desk.known ≡ s.desk.known
    at true = refl
    at false = refl

answered_at : (setting : Setting) (node : Node) (made : EngineMade) (did : Did) (past : List Did) (number : ℕ) (answer : Answer) (m : Member) → given_to_voter did ≡ Some (Answered number answer)
    → is_start did.taken ≡ false → IsAt setting node (Running made past) m → IsAt setting node (Running made (did ∷ past)) m
unfolding IsAt place_of
answered_at setting node made did past number answer m e f a =
    let p = place_then made did past (Answered number answer) e f in
    let place = place_of (voter_in made past) (voter_past past) in (
      a.0,
      subst (λ v. IsRunning v.rules (place_of v (voter_past (did ∷ past))).standing.desk.known (place_of v (voter_past (did ∷ past))).sections m) (sym p.0)
          (subst (λ given. IsRunning (voter_in made past).rules (place_of (voter_in made past) given).standing.desk.known (place_of (voter_in made past) given).sections m) (sym p.1)
          (subst (λ k. IsRunning (voter_in made past).rules k place.sections m) (sym (answered_known number answer place.standing)) a.1)),
    )

pub answer_further : (setting : Setting) (node : Node) (made : EngineMade) (past : List Did) (m : Member) (noted : Noted) (number : ℕ) (answer : Answer) (now : ℕ)
    → (noted.entry.calls ≡ []) × (noted.entry.handed ≡ []) → IsAt setting node (Running made past) m → Further setting noted node (going_on made (engine.replied number answer now ∷ past)) m
unfolding runs
answer_further setting node made past m noted number answer now same a =
    quiet_on setting node noted (Running made (engine.replied number answer now ∷ past)) m (subst Voteless (sym same.0) tt) (subst AreSilent (sym same.1) tt)
    (answered_at setting node made (engine.replied number answer now) past number answer m refl refl a)

-- ---- a crash

pub crash_further : (setting : Setting) (node : Node) (made : EngineMade) (past : List Did) (m : Member) (noted : Noted) → (noted.entry.calls ≡ []) × (noted.entry.handed ≡ []) → IsAt setting node (Running made past) m
    → Further setting noted node (Stopped (crashed 0 (sections_of made past))) m
unfolding IsAt sections_of
crash_further setting node made past m noted same a =
    let place = place_of (voter_in made past) (voter_past past) in
    let after = happens m (life.Crash (λ view. 0)) in
    quiet_off setting node noted (Stopped (crashed 0 place.sections)) m (subst Voteless (sym same.0) tt) (subst AreSilent (sym same.1) tt)
    (stopped_any setting node.member (started_at past) 0 (crashed 0 place.sections) after
    (subst (λ r. IsStopped r (crashed 0 place.sections) after) (a.0 (started_at past)) (crash_lived (voter_in made past).rules 0 place.standing.desk.known place.sections m a.1)))
