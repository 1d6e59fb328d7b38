-- A start says backed certificates alone, and leaves a fine engine.
use Rattle.std.proofs.Common.{◌≡◌, ℕ, ◌-◌, ◌==◌, Bool, true, false, List, [], ◌∷◌, Contains, Option, Some, None, refl, sym, subst, if◌then◌else◌}
use Rattle.std.specs.Option.{option_map_or}
use Rattle.simplex_values.specs.declared.plan.Channel.TheVariants as channels
use Rattle.simplex_values.specs.declared.plan.Recipients.TheVariants as recipients
use Rattle.simplex_wire.specs.declared.certificate.Certificate.{Certificate}
use Rattle.simplex_wire.specs.declared.certificate.Finalization.{Finalization}
use Rattle.simplex_wire.specs.Message as format
use Rattle.simplex_types.specs.declared.floor.Floor.{Floor}
use Rattle.simplex_journal.specs.Journal.{Section, replayed}
use Rattle.simplex_messages.specs.declared.batcher.Message.TheVariants as batcher_messages
use Rattle.simplex_messages.specs.declared.call.Call.{Call}
use Rattle.simplex_messages.specs.declared.call.Call.TheVariants as calls
use Rattle.simplex_messages.specs.declared.handed.Handed.{Handed}
use Rattle.simplex_messages.specs.declared.handed.Handed.TheVariants as handed
use Rattle.simplex_messages.specs.declared.step.Stop.{Stop}
use Rattle.simplex_messages.specs.declared.step.Stop.TheVariants as stops
use Rattle.simplex_transcript.specs.declared.event.Event.{Event}
use Rattle.simplex_transcript.specs.declared.event.Event.TheVariants as events
use Rattle.simplex_transcript.specs.declared.entry.Took.TheVariants as tooks
use Rattle.simplex_transcript.specs.declared.node.Node.{Node}
use Rattle.model_steps.specs.Desk.{Doing}
use Rattle.model_steps.specs.Performed.{stop_place, whole, broken, performed}
use Rattle.model_steps.specs.Voter as voter
use Rattle.model_steps.specs.VoterLife.{VoterMade, Started, place_of, start_at, rest, unreadable, unread, start_performed}
use Rattle.model_steps.specs.Engine as engine
use Rattle.model_steps.specs.Engine.{Did, Began, started_at, voter_past, input_of_batcher, by_voter}
use Rattle.model_run.specs.Life.{Noted, clock_of, going_on, sections_in, after}
use Rattle.model_run.specs.Members.{floor_of, rules_of, engine_of}
use Rattle.law_member.specs.Syncs.{is_send, sends}
use Rattle.law_member.proofs.VoterStarting.{start_sound}
use Rattle.law_agreement.proofs.ListFacts.{not_in_empty, Contains-filter}
use Rattle.law_member.proofs.Constructing.{AreSilent}
use Rattle.law_run.specs.Sayings.{Each, InCall, InMessage, InRecord, InFloor, InKnown, AllSaid}
use Rattle.law_run.specs.Saying.{InStart}
use Rattle.law_run.proofs.Events.{place_in, engine_at, given_start, begun_gives}
use Rattle.law_run.proofs.NodeKeeping.{InJournal, InAppend, start_keeps}
use Rattle.law_run.proofs.Speaking.{SaysGood, voter_calls}
use Rattle.law_run.proofs.Telling.{nothing_known, started_says, said_at_start}
use Rattle.law_run.proofs.Backers.{Backers}
use Rattle.law_run.proofs.Good.{IsGood, IsSized}
use Rattle.law_run.proofs.Hearing.{IsFine}
use Rattle.law_run.proofs.Turns.{IsBeginning}
use Rattle.law_run.proofs.Resolving.{InGiven}
use Rattle.law_run.proofs.Signing.{engine_own}
use Rattle.law_run.proofs.BackingEngines.{IsFineRun, IsLifeFine, IsPlaceFine, IsTold, advance, engine_batcher, engine_resolver, first_half, lives_on}
use Rattle.law_run.proofs.Reporting.{floor_good}
use Rattle.law_run.proofs.Handing.{silent_fine, start_given}
use Rattle.law_run.proofs.Letting.{given_input}

-- the calls of a step leave good records
pub appended_good : (backers : Backers) (cs : List Call) → Each (InCall (IsGood backers)) cs → Each (InAppend (InRecord (IsGood backers))) cs
appended_good backers [] g = tt
appended_good backers (calls.Append k a ∷ rest) g = (g.0, appended_good backers rest g.1)
appended_good backers (calls.Sync k ∷ rest) g = (tt, appended_good backers rest g.1)
appended_good backers (calls.Prune k ∷ rest) g = (tt, appended_good backers rest g.1)
appended_good backers (calls.Send channel to bytes ∷ rest) g = (tt, appended_good backers rest g.1)
appended_good backers (calls.Report activity ∷ rest) g = (tt, appended_good backers rest g.1)
appended_good backers (calls.Relay payload plan ∷ rest) g = (tt, appended_good backers rest g.1)
appended_good backers (calls.Block who why ∷ rest) g = (tt, appended_good backers rest g.1)

-- a start constructs nothing
no_own : (Good : Certificate → Type 0) (cs : List Call) (hs : List Handed) → sends cs ≡ [] → Each (InMessage Good cs) hs → AreSilent hs
no_own Good cs [] none s = tt
no_own Good cs (handed.Batcher (batcher_messages.Constructed v) ∷ rest) none s =
    let sent = calls.Send channels.Vote recipients.All (format.vote.spelling v) in
    absurd (not_in_empty sent (subst (λ (xs : List Call). Contains xs sent) none (Contains-filter is_send cs sent refl s.0)))
no_own Good cs (handed.Batcher (batcher_messages.Update current leader finalized proposal) ∷ rest) none s = (tt, no_own Good cs rest none s.1)
no_own Good cs (handed.Voter message ∷ rest) none s = (tt, no_own Good cs rest none s.1)
no_own Good cs (handed.Resolver message ∷ rest) none s = (tt, no_own Good cs rest none s.1)
no_own Good cs (handed.Handler message ∷ rest) none s = (tt, no_own Good cs rest none s.1)

performed_silent : (stop : Stop) (d : Doing) (js : List Section) → AreSilent d.handed → AreSilent (performed stop d js).out.handed
unfolding performed
performed_silent stop d js n = at (stop_place stop d.calls)
  where
    at : (o : Option ℕ) → AreSilent (option_map_or (broken stop d js) o (whole d js)).out.handed
    at None = n
    at (Some place) = tt

start_performed_silent : (stop : Stop) (floor : Floor) (d : Doing) (js : List Section) → AreSilent d.handed → AreSilent (start_performed stop floor d js).out.handed
unfolding start_performed
start_performed_silent stops.None floor d js n = performed_silent stops.None d js n
start_performed_silent (stops.Cut call keep) floor d js n = performed_silent (stops.Cut call keep) d js n
start_performed_silent (stops.Fail call keep) floor d js n = at (call == 1)
  where
    at : (b : Bool) → AreSilent (if b then unread floor d keep js else performed (stops.Fail (call - 1) keep) d js).out.handed
    at true = tt
    at false = performed_silent (stops.Fail (call - 1) keep) d js n

in_floor : (backers : Backers) (floor : Option Finalization) (at : Node) (stop : Stop) → InStart (IsGood backers) (events.Start at floor stop) → InFloor (IsGood backers) (floor_of backers.setting.genesis floor)
in_floor backers None at stop g = tt
in_floor backers (Some f) at stop g = g

-- what the start does
start_says : (backers : Backers) (at : Node) (floor : Option Finalization) (stop : Stop) (js : List Section) (now : ℕ) → InStart (IsGood backers) (events.Start at floor stop) → InJournal (InRecord (IsGood backers)) js
    → SaysGood (IsGood backers) (voter.started (rules_of backers.setting at.member now) now (floor_of backers.setting.genesis floor) (replayed js))
start_says backers at floor stop js now g records =
    started_says (IsGood backers) (rules_of backers.setting at.member now) now (floor_of backers.setting.genesis floor) (replayed js) (in_floor backers floor at stop g) records

start_place_fine : (backers : Backers) (made : VoterMade) (now : ℕ) (stop : Stop) → SaysGood (IsGood backers) (start_at made now made.sections) → InJournal (InRecord (IsGood backers)) made.sections
    → IsPlaceFine backers (place_of made (Started now stop ∷ []))
unfolding place_of
start_place_fine backers made now stop says records =
    record {
      known = at (unreadable stop);
      records = start_keeps (InRecord (IsGood backers)) stop made.floor (start_at made now made.sections) made.sections (appended_good backers (start_at made now made.sections).calls (voter_calls (IsGood backers) (start_at made now made.sections).calls says.in_calls)) records;
    }
  where
    at : (b : Bool) → InKnown (IsGood backers) (if b then (place_of made []).standing else rest (start_at made now made.sections) []).desk.known
    at true = nothing_known (IsGood backers)
    at false = says.in_known

start_engine : (backers : Backers) (at : Node) (floor : Option Finalization) (stop : Stop) (js : List Section) (now : ℕ) → InStart (IsGood backers) (events.Start at floor stop) → InJournal (InRecord (IsGood backers)) js
    → IsPlaceFine backers (place_in (engine_at backers.setting at floor js) (by_voter Began now stop (given_start backers.setting at floor js now stop) ∷ []))
unfolding started_at voter_past engine_of
start_engine backers at floor stop js now g records =
    start_place_fine backers ((engine_at backers.setting at floor js).voter now) now stop (start_says backers at floor stop js now g records) records

start_handed : (backers : Backers) (at : Node) (floor : Option Finalization) (stop : Stop) (js : List Section) (now : ℕ) → InStart (IsGood backers) (events.Start at floor stop) → InJournal (InRecord (IsGood backers)) js
    → Each (IsFine backers) (given_start backers.setting at floor js now stop).out.handed
start_handed backers at floor stop js now g records =
    let rules = rules_of backers.setting at.member now in
    let f = floor_of backers.setting.genesis floor in
    let d = voter.started rules now f (replayed js) in
    let says = start_says backers at floor stop js now g records in
    let all = said_at_start (IsGood backers) stop f d js says in
    let sound = start_sound rules now f (replayed js) in
    silent_fine backers (given_start backers.setting at floor js now stop).out.calls (given_start backers.setting at floor js now stop).out.handed all.handed
    (start_performed_silent stop f d js (no_own (IsGood backers) d.calls d.handed sound.silent says.in_messages))

-- a start says backed certificates alone
pub begun_said : (backers : Backers) (at : Node) (floor : Option Finalization) (stop : Stop) (js : List Section) (now : ℕ) → InStart (IsGood backers) (events.Start at floor stop) → InJournal (InRecord (IsGood backers)) js
    → AllSaid (IsGood backers) (engine.begun (engine_at backers.setting at floor js) now stop).out
begun_said backers at floor stop js now g records =
    let setting = backers.setting in
    let d = voter.started (rules_of setting at.member now) now (floor_of setting.genesis floor) (replayed js) in
    subst (λ (did : Did). AllSaid (IsGood backers) did.out) (sym (begun_gives setting at floor js now stop))
    (said_at_start (IsGood backers) stop (floor_of setting.genesis floor) d js (start_says backers at floor stop js now g records))

pub begin_fine : (backers : Backers) (before : List Noted) (event : Event) (noted : Noted) → IsSized backers.setting.setup → (b : IsBeginning backers.setting before event noted)
    → IsTold backers noted → IsFineRun backers before → IsFineRun backers (noted ∷ before)
unfolding after
begin_fine backers before event noted sized b told fine =
    let setting = backers.setting in
    let at = b.at in
    let floor = b.floor in
    let stop = b.stop in
    let js = b.sections in
    let now = clock_of before in
    let made = engine_at setting at floor js in
    let did = engine.begun made now stop in
    let half = first_half setting.setup at b.node in
    let g = floor_good backers before floor at stop b.own fine.said in
    let by : Did = by_voter Began now stop (given_start setting at floor js now stop) in
    let same : did ≡ by = begun_gives setting at floor js now stop in
    let records : InJournal (InRecord (IsGood backers)) js = subst (IsLifeFine backers at.member) b.stopped (fine.lives at b.runs) in
    let all = begun_said backers at floor stop js now g records in
    subst (λ n. IsTold backers n → IsFineRun backers (n ∷ before)) b.is
    (λ t. advance backers before (events.Start at floor stop) at (Some tooks.Floor) did (λ node. refl) half.1 sized g all t
    (subst (λ l. IsLifeFine backers at.member (going_on (engine_of setting at.member (floor_of setting.genesis floor) (sections_in l)) (did ∷ []))) (sym b.stopped)
    (lives_on backers at.member made (did ∷ []) (record {
      batcher = engine_batcher backers at floor js;
      resolver = engine_resolver backers at floor js;
      signs = engine_own setting at floor js half.0 sized;
      given = subst (λ (d : Did). Each (InGiven made.resolver (IsGood backers)) (engine.resolver_past (d ∷ []))) (sym same) (start_given (InGiven made.resolver (IsGood backers)) (λ member. tt) now stop (given_start setting at floor js now stop).outcome (given_start setting at floor js now stop).out);
      history = (
        record {
          handed = subst (λ (d : Did). Each (IsFine backers) d.out.handed) (sym same) (start_handed backers at floor stop js now g records);
          taken = λ g t. (let k : input_of_batcher Began ≡ Some g.input = subst (λ (d : Did). input_of_batcher d.taken ≡ Some g.input) same (given_input did g t) in cc);
        },
        tt,
      );
      place = subst (λ (d : Did). IsPlaceFine backers (place_in made (d ∷ []))) (sym same) (start_engine backers at floor stop js now g records);
    }))) fine) told
