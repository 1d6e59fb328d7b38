-- What is read of the record of a run is where the engine of a node stands.
use Rattle.std.proofs.Common.{◌≡◌, ℕ, ◌-◌, ◌==◌, ◌<◌, ◌&&◌, nat_le, Bool, true, false, nat_lt, List, [], ◌∷◌, ◌++◌, map, filter, reverse, Option, Some, None, refl, sym, ap, ◌∙◌, subst, inl, inr, if◌then◌else◌}
use Rattle.std.specs.List.{filter_map}
use Rattle.std.specs.Option.{option_map_or}
use Rattle.simplex_types.specs.declared.floor.Floor.{Floor}
use Rattle.simplex_wire.specs.declared.certificate.Finalization.{Finalization}
use Rattle.simplex_journal.specs.Journal.{Section, replayed, crashed}
use Rattle.simplex_journal.proofs.Contents.{crashed-rested}
use Rattle.model_rules.specs.Known.{Made, Fact}
use Rattle.simplex_messages.specs.declared.batcher.Message as batcher_message
use Rattle.simplex_messages.specs.declared.call.Call.{Call}
use Rattle.simplex_messages.specs.declared.call.Call.TheVariants as calls
use Rattle.simplex_messages.specs.declared.resolver.MailboxMessage.{MailboxMessage}
use Rattle.simplex_messages.specs.declared.resolver.HandlerMessage.{HandlerMessage}
use Rattle.simplex_messages.specs.declared.step.Outcome.{Outcome}
use Rattle.simplex_messages.specs.declared.step.Outcome.TheVariants as outcomes
use Rattle.simplex_messages.specs.declared.step.Stop.{Stop}
use Rattle.simplex_messages.specs.declared.step.Stop.TheVariants as stops
use Rattle.simplex_messages.specs.declared.step.StepOut.{StepOut}
use Rattle.simplex_messages.specs.declared.voter.Message as voter_message
use Rattle.simplex_transcript.specs.declared.entry.Entry.{Entry}
use Rattle.simplex_transcript.specs.declared.entry.Took.{Took}
use Rattle.simplex_transcript.specs.declared.entry.Took.TheVariants as tooks
use Rattle.simplex_transcript.specs.declared.event.Event.{Event}
use Rattle.simplex_transcript.specs.declared.event.Event.TheVariants as events
use Rattle.simplex_transcript.specs.declared.event.StepSource.{StepSource}
use Rattle.simplex_transcript.specs.declared.event.StepSource.TheVariants as sources
use Rattle.simplex_transcript.specs.declared.node.Node.{Node}
use Rattle.model_steps.specs.Desk.{Doing}
use Rattle.model_steps.specs.Performed.{Performed, performed, is_of_journal, journal_place, after_calls, stop_place, kept_by}
use Rattle.model_steps.specs.Voter as voter
use Rattle.model_steps.specs.Voter.{Standing}
use Rattle.model_steps.specs.VoterLife.{VoterMade, Place, Given, Started, Stepped, Answered, start_performed, unread, unreadable, rest, start_at, place_of}
use Rattle.model_steps.specs.Engine as engine
use Rattle.model_resolver.specs.Resolver as resolver
use Rattle.model_resolver.specs.Views.{is_reached}
use Rattle.simplex_mailbox.specs.Mail.{received}
use Rattle.simplex_messages.specs.declared.resolver.ResolverInput.TheVariants as resolver_inputs
use Rattle.model_steps.specs.Engine.{EngineMade, Did, Taken, Began, did_of, by_voter, is_whole, runs, started_at, sections_of, voter_in, voter_past, given_to_voter}
use Rattle.model_run.specs.Setting.{Setting}
use Rattle.model_run.specs.Kinds.{runs_engine}
use Rattle.model_run.specs.Members.{floor_of, rules_of, engine_of}
use Rattle.model_run.specs.Life.{Noted, Life, Stopped, Running, clock_of, is_of, going_on, sections_in, after, life_in}
use Rattle.model_run.specs.Entries as entries
use Rattle.model_run.specs.Entries.{noted_with, noted_blank}
use Rattle.law_member.specs.Learned.{appended_fact}
use Rattle.law_run.specs.Histories.{IsRun, AreFloors, IsAt}
use Rattle.law_run.proofs.Further.{same_self, at_rest, life_then, life_still}
use Rattle.law_agreement.specs.Journal as kept
use Rattle.law_agreement.specs.Member as agreed
use Rattle.law_run.proofs.Events.{place_in, engine_at, given_start, begun_gives, place_same, place_then, step_place, idle_place, step_gives, start_sections, answered_known}
use Rattle.law_run.proofs.Nodes.{engine_lives}
use Rattle.law_requests.specs.Steps.{IsQuiet, IsVoters}
use Rattle.law_requests.specs.Turns.{HasStarted, HasHeard, HasStepped, WasAnswered, HasCrashed, IsTurnOf}
use Rattle.law_requests.proofs.Steps.{any_step, heard_quiet}
use Rattle.law_requests.proofs.Turning.{entry_turns}
use Rattle.law_requests.proofs.Pruning.{pruned_in}
use Rattle.model_audit.specs.Alike.{AreAlike, own_votes}
use Rattle.model_audit.specs.Taking.{Taking}
use Rattle.model_audit.specs.Record.{took_of, record_entry}
use Rattle.model_audit.specs.Rebuilt.{took_for, rebuilt_entry, recorded}
use Rattle.model_audit.specs.Journal.{behind_reading, after_failure, sections_behind}
use Rattle.model_audit.specs.Reading.{Read, taking_of, votes_in, rules_at, calls_read, step_read, start_read, read_behind, read}
use Rattle.law_audit.specs.Recording.{IsStep, IsTakenSo, IsRunningAs, IsReadAs}
use Rattle.law_audit.proofs.Alike.{alike_itself}
use Rattle.law_audit.proofs.Telling.{same_clock}
use Rattle.law_audit.proofs.Journals.{told, same_journal}
use Rattle.law_audit.proofs.Following.{same_votes, followed}
use Rattle.law_audit.proofs.Starting.{start_is_read}
use Rattle.law_audit.proofs.StartVotes.{start_votes}
use Rattle.law_audit.proofs.Taken.{taking_read}

-- ---- a step that calls no journal

no_change : (cs : List Call) (js : List Section) → filter is_of_journal cs ≡ [] → after_calls cs js ≡ js
unfolding after_calls
no_change [] js e = refl
no_change (calls.Append section artifact ∷ cs) js e = cc
no_change (calls.Sync section ∷ cs) js e = cc
no_change (calls.Prune least ∷ cs) js e = cc
no_change (calls.Send channel to bytes ∷ cs) js e = no_change cs js e
no_change (calls.Report a ∷ cs) js e = no_change cs js e
no_change (calls.Relay payload plan ∷ cs) js e = no_change cs js e
no_change (calls.Block who why ∷ cs) js e = no_change cs js e

no_append : (now : ℕ) (cs : List Call) → filter is_of_journal cs ≡ [] → filter_map (appended_fact now) cs ≡ []
no_append now [] e = refl
no_append now (calls.Append section artifact ∷ cs) e = cc
no_append now (calls.Sync section ∷ cs) e = cc
no_append now (calls.Prune least ∷ cs) e = cc
no_append now (calls.Send channel to bytes ∷ cs) e = no_append now cs e
no_append now (calls.Report a ∷ cs) e = no_append now cs e
no_append now (calls.Relay payload plan ∷ cs) e = no_append now cs e
no_append now (calls.Block who why ∷ cs) e = no_append now cs e

-- no own vote is read of it
no_votes : (now : ℕ) (cs : List Call) → filter is_of_journal cs ≡ [] → votes_in now (told cs) ≡ []
no_votes now cs e = same_votes now cs ∙ ap (λ xs. own_votes (reverse xs)) (no_append now cs e)

-- where nothing is pending, a stop drops nothing
module _ (js : List Section) (rested : (keep : ℕ) → crashed keep js ≡ js) where
  no_failure : (stop : Stop) → after_failure stop [] js ≡ js
  unfolding stop_place journal_place
  no_failure stops.None = refl
  no_failure (stops.Cut call keep) = at (nat_lt 0 call && nat_le call 0)
    where
      at : (b : Bool) → option_map_or (λ (place : ℕ). js) (if b then Some (call - 1) else None) js ≡ js
      at true = refl
      at false = refl
  no_failure (stops.Fail call keep) = at (nat_lt 0 call)
    where
      at : (b : Bool) → option_map_or (λ (place : ℕ). js) (if b then None else None) js ≡ js
      at true = refl
      at false = refl

  quiet_sections : (o : Outcome) (stop : Stop) (cs : List Call) → filter is_of_journal cs ≡ [] → sections_behind o stop [] (told cs) js ≡ js
  unfolding sections_behind
  quiet_sections outcomes.Done stop cs e = same_journal cs js ∙ no_change cs js e
  quiet_sections outcomes.Idle stop cs e = same_journal cs js ∙ no_change cs js e
  quiet_sections outcomes.Refused stop cs e = same_journal cs js ∙ no_change cs js e
  quiet_sections outcomes.Cut stop cs e = ap (crashed (kept_by stop)) (same_journal cs js ∙ no_change cs js e) ∙ rested (kept_by stop)
  quiet_sections outcomes.Journal stop cs e =
      ap (λ (xs : List Section). crashed (kept_by stop) (after_failure stop [] xs)) (same_journal cs js ∙ no_change cs js e) ∙ ap (crashed (kept_by stop)) (no_failure stop) ∙ rested (kept_by stop)

-- ---- what a step took that is not the voter's is no taking

untaken_none : (about : List Noted) (source : StepSource) → taking_of about source None ≡ None
unfolding taking_of
untaken_none about sources.Batcher = refl
untaken_none about sources.Voter = refl
untaken_none about sources.Timer = refl
untaken_none about sources.Propose = refl
untaken_none about sources.Verify = refl
untaken_none about sources.Certify = refl
untaken_none about sources.Resolver = refl
untaken_none about sources.Handler = refl
untaken_none about sources.Fetch = refl

-- also where the step was idle
untaken_if : (about before : List Noted) (node : Node) (made : EngineMade) (past : List Did) (source : StepSource) (taken : Taken) (now : ℕ) (stop : Stop) (o : Outcome) (out : StepOut)
    → taking_of about source (took_for (took_of (entries.taken_of before node (place_in made past).standing taken))) ≡ None
    → taking_of about source (took_for (took_of (entries.took_of before node made past (did_of taken now stop o out)))) ≡ None
untaken_if about before node made past source taken now stop outcomes.Done out h = h
untaken_if about before node made past source taken now stop outcomes.Idle out h = untaken_none about source
untaken_if about before node made past source taken now stop outcomes.Journal out h = h
untaken_if about before node made past source taken now stop outcomes.Cut out h = h
untaken_if about before node made past source taken now stop outcomes.Refused out h = h

module _ (about before : List Noted) (node : Node) (made : EngineMade) (past : List Did) (now : ℕ) (stop : Stop) where
  abbrev TakesNone : StepSource → Did → Type 0
  TakesNone source did = taking_of about source (took_for (took_of (entries.took_of before node made past did))) ≡ None

  idle_none : (source : StepSource) → TakesNone source (engine.nothing_held source now stop)
  idle_none source = untaken_none about source

  batcher_none : (o : Option batcher_message.Message) → TakesNone sources.Batcher (engine.on_batcher_mail made past now stop o)
  unfolding engine.by_batcher entries.taken_of taking_of
  batcher_none None = refl
  batcher_none (Some message) = (let did = engine.on_batcher_mail made past now stop (Some message) in untaken_if about before node made past sources.Batcher did.taken did.now did.stop did.outcome did.out refl)

  resolver_none : (o : Option MailboxMessage) → TakesNone sources.Resolver (engine.on_resolver_mail made past now stop o)
  unfolding engine.by_resolver entries.taken_of taking_of
  resolver_none None = refl
  resolver_none (Some message) = (let did = engine.on_resolver_mail made past now stop (Some message) in untaken_if about before node made past sources.Resolver did.taken did.now did.stop did.outcome did.out refl)

  handler_none : (o : Option HandlerMessage) → TakesNone sources.Handler (engine.on_handler_mail made past now stop o)
  unfolding engine.by_resolver entries.taken_of taking_of
  handler_none None = refl
  handler_none (Some message) = (let did = engine.on_handler_mail made past now stop (Some message) in untaken_if about before node made past sources.Handler did.taken did.now did.stop did.outcome did.out refl)

  fetch_none : TakesNone sources.Fetch (engine.on_fetcher made past now stop)
  unfolding engine.by_resolver entries.taken_of taking_of
  fetch_none = at (is_reached now (resolver.deadline_after made.resolver (engine.resolver_past past)))
    where
      due : Did
      due = engine.by_resolver made (engine.resolver_past past) (engine.Took sources.Fetch None) resolver_inputs.Timer now stop

      at : (b : Bool) → TakesNone sources.Fetch (if b then due else engine.nothing_held sources.Fetch now stop)
      at true = untaken_if about before node made past sources.Fetch (engine.Took sources.Fetch None) due.now due.stop due.outcome due.out refl
      at false = refl

  voter_none : (o : Option voter_message.Message) → IsQuiet (engine.on_voter_mail made past now stop o) → TakesNone sources.Voter (engine.on_voter_mail made past now stop o)
  voter_none None q = idle_none sources.Voter
  voter_none (Some message) q = cc q.given

  quiet_untaken : (source : StepSource) → IsQuiet (engine.stepped made past source now stop) → TakesNone source (engine.stepped made past source now stop)
  unfolding engine.stepped
  quiet_untaken sources.Batcher q = batcher_none (received (engine.batcher_mail made past))
  quiet_untaken sources.Voter q = voter_none (received (engine.voter_mail made past)) q
  quiet_untaken sources.Timer q = cc q.given
  quiet_untaken sources.Propose q = cc q.given
  quiet_untaken sources.Verify q = cc q.given
  quiet_untaken sources.Certify q = cc q.given
  quiet_untaken sources.Resolver q = resolver_none (received (engine.resolver_mail made past))
  quiet_untaken sources.Handler q = handler_none (resolver.handler_message made.resolver (engine.resolver_past past))
  quiet_untaken sources.Fetch q = fetch_none

-- ---- the turns of one node

module _ (setting : Setting) (node : Node) where
  abbrev Runs : EngineMade → List Did → Read → Type 0
  Runs made past r = IsRunningAs setting node made past r

  -- the engine goes on, unless its step was broken
  goes_on : (made : EngineMade) (past : List Did) (r : Read) → r.sections ≡ sections_of made past → (runs past ≡ true → Runs made past r) → IsReadAs setting node (going_on made past) r
  goes_on made past r same runs_so = at (runs past) refl
    where
      at : (b : Bool) → runs past ≡ b → IsReadAs setting node (if b then Running made past else Stopped (sections_of made past)) r
      at true e = runs_so e
      at false e = same

  -- its voter stands where it stood
  module _ (made : EngineMade) (past : List Did) (did : Did) (place : Place) (is_start : engine.is_start did.taken ≡ false) (same : place_in made (did ∷ past) ≡ place) where
    start_stays : started_at (did ∷ past) ≡ started_at past
    unfolding started_at
    start_stays = ap (λ b. if b then did.now else started_at past) is_start

    sections_then : sections_of made (did ∷ past) ≡ place.sections
    unfolding sections_of
    sections_then = ap (λ (p : Place). p.sections) same

    moved : (r : Read) → ((start : ℕ) → (made.voter start).rules ≡ rules_of setting node.member start) → r.start ≡ started_at past → r.sections ≡ place.sections
        → (runs (did ∷ past) ≡ true → AreAlike r.known place.standing.desk.known) → IsReadAs setting node (going_on made (did ∷ past)) r
    moved r rules start sections known =
        goes_on made (did ∷ past) r (sections ∙ sym sections_then)
        (λ w. record {
          start = start ∙ sym start_stays;
          sections = sections ∙ sym sections_then;
          known = subst (λ (p : Place). AreAlike r.known p.standing.desk.known) (sym same) (known w);
          rules = rules;
        })

  stays : (made : EngineMade) (past : List Did) (r : Read) (did : Did) → Runs made past r → engine.is_start did.taken ≡ false → place_in made (did ∷ past) ≡ place_in made past → IsReadAs setting node (going_on made (did ∷ past)) r
  unfolding sections_of
  stays made past r did h s same = moved made past did (place_in made past) s same r h.rules h.start h.sections (λ w. h.known)

  quiet_place : (made : EngineMade) (past : List Did) (did : Did) → IsQuiet did → place_in made (did ∷ past) ≡ place_in made past
  quiet_place made past did q =
      (let p = place_same made did past q.given q.start in ap (λ (v : VoterMade). place_of v (voter_past (did ∷ past))) p.0 ∙ ap (place_of (voter_in made past)) p.1)

  given_place : (made : EngineMade) (past : List Did) (did : Did) (given : Given) → given_to_voter did ≡ Some given → engine.is_start did.taken ≡ false → place_in made (did ∷ past) ≡ place_of (voter_in made past) (given ∷ voter_past past)
  given_place made past did given g s = (let p = place_then made did past given g s in ap (λ (v : VoterMade). place_of v (voter_past (did ∷ past))) p.0 ∙ ap (place_of (voter_in made past)) p.1)

  -- ---- a step

  -- what is read of calls that are none of the journal
  quiet_calls : (now : ℕ) (stop : Stop) (entry : Entry) (r : Read) → votes_in now entry.calls ≡ [] → sections_behind entry.outcome stop [] entry.calls r.sections ≡ r.sections
      → calls_read now stop entry r ≡ r
  quiet_calls now stop entry r v s = rw (v, s) refl

  -- what is read behind a step in which the voter took nothing
  quiet_read : (made : Made) (now : ℕ) (stop : Stop) (entry : Entry) (r : Read) (o : Option Taking) → o ≡ None → votes_in now entry.calls ≡ [] → sections_behind entry.outcome stop [] entry.calls r.sections ≡ r.sections
      → step_read made now stop entry r o ≡ r
  quiet_read made now stop entry r None e v s = quiet_calls now stop entry r v s
  quiet_read made now stop entry r (Some taking) e v s = cc

  module _ (before : List Noted) (made : EngineMade) (past : List Did) (r : Read) (h : Runs made past r) (rested : (keep : ℕ) → crashed keep (sections_of made past) ≡ sections_of made past)
      (running : life_in setting before node ≡ Running made past) (good : runs_engine setting.setup node.member ≡ true) (ran : IsRun setting before) where
    abbrev about : List Noted
    about = map recorded before

    -- the entry that a record has of what was done
    abbrev entry_for : Event → Did → Entry
    entry_for event did = rebuilt_entry (record_entry (noted_with setting.setup before event node (entries.took_of before node made past did) did).entry)

    abbrev Behind : ℕ → StepSource → Stop → Did → Read
    Behind now source stop did =
        step_read (rules_at setting node r) now stop (entry_for (events.Step node source stop) did) r (taking_of about source (entry_for (events.Step node source stop) did).took)

    still_rested : (keep : ℕ) → crashed keep r.sections ≡ r.sections
    still_rested keep = ap (crashed keep) h.sections ∙ rested keep ∙ sym h.sections

    -- nothing is read of it
    unread_step : (now : ℕ) (source : StepSource) (stop : Stop) (did : Did) → filter is_of_journal did.out.calls ≡ [] → TakesNone about before node made past now stop source did → Behind now source stop did ≡ r
    unfolding rebuilt_entry record_entry
    unread_step now source stop did none untaken =
        quiet_read (rules_at setting node r) now stop (entry_for (events.Step node source stop) did) r (taking_of about source (entry_for (events.Step node source stop) did).took) untaken
        (no_votes now did.out.calls none) (quiet_sections r.sections still_rested did.outcome stop did.out.calls none)

    abbrev Lives : ℕ → StepSource → Stop → Did → Type 0
    Lives now source stop did = IsReadAs setting node (going_on made (did ∷ past)) (Behind now source stop did)

    quiet_step : (now : ℕ) (source : StepSource) (stop : Stop) (did : Did) → IsQuiet did → TakesNone about before node made past now stop source did → Lives now source stop did
    quiet_step now source stop did q untaken =
        subst (IsReadAs setting node (going_on made (did ∷ past))) (sym (unread_step now source stop did q.journal untaken)) (stays made past r did h q.start (quiet_place made past did q))

    -- its rules are those of the engine
    same_rules : rules_at setting node r ≡ (voter_in made past).rules
    same_rules = ap (rules_of setting node.member) h.start ∙ sym (h.rules (started_at past))

    idle_untaken : (source : StepSource) (did : Did) → did.outcome ≡ outcomes.Idle → taking_of about source (took_for (took_of (entries.took_of before node made past did))) ≡ None
    idle_untaken source did e = at did.outcome e
      where
        at : (o : Outcome) → o ≡ outcomes.Idle → taking_of about source (took_for (took_of (entries.took_of before node made past (record did { outcome = o })))) ≡ None
        at outcomes.Idle f = untaken_none about source
        at outcomes.Done f = cc
        at outcomes.Journal f = cc
        at outcomes.Cut f = cc
        at outcomes.Refused f = cc

    same_sections : sections_of made past ≡ (place_in made past).sections
    unfolding sections_of
    same_sections = refl

    step_of : (source : StepSource) (stop : Stop) (did : Did) (given : Performed) → did.out ≡ given.out → did.outcome ≡ given.outcome → IsStep (entry_for (events.Step node source stop) did) given
    unfolding rebuilt_entry record_entry
    step_of source stop did given out ends = record { calls = ap (λ (x : StepOut). told x.calls) out; added = ap (λ (x : StepOut). x.added) out; outcome = ends }

    taken_there : (source : StepSource) (stop : Stop) (did : Did) (taking : Taking) → taking_of about source (took_for (took_of (entries.took_of before node made past did))) ≡ Some taking
        → taking_of about source (entry_for (events.Step node source stop) did).took ≡ Some taking
    unfolding rebuilt_entry record_entry
    taken_there source stop did taking e = e

    start_kept : (now : ℕ) (stop : Stop) (entry : Entry) (taking : Taking) → (step_read (voter_in made past).rules now stop entry r (Some taking)).start ≡ started_at past
    start_kept now stop entry taking = h.start

    whole_then : (did : Did) (past : List Did) {o : Outcome} → runs (did ∷ past) ≡ true → did.outcome ≡ o → is_whole o ≡ true
    unfolding runs
    whole_then did past w e = ap is_whole (sym e) ∙ w

    voters_step : (now : ℕ) (source : StepSource) (stop : Stop) (did : Did) → IsVoters made past source now stop did → Lives now source stop did
    voters_step now source stop did v = at (voter.stepped (voter_in made past).rules now (place_in made past).standing v.input) refl
      where
        there : place_in made (did ∷ past) ≡ place_of (voter_in made past) (Stepped v.input now stop ∷ voter_past past)
        there = given_place made past did (Stepped v.input now stop) v.given v.start

        at : (o : Option Doing) → voter.stepped (voter_in made past).rules now (place_in made past).standing v.input ≡ o → Lives now source stop did
        at None g =
            let gives = step_gives (voter_in made past) (voter_past past) v.input now stop None g in
            let out : did.out.calls ≡ [] = ap (λ (x : StepOut). x.calls) (v.out ∙ ap (λ (x : Performed). x.out) gives) in
            let ends : did.outcome ≡ outcomes.Idle = v.outcome ∙ ap (λ (x : Performed). x.outcome) gives in
            subst (IsReadAs setting node (going_on made (did ∷ past))) (sym (unread_step now source stop did (ap (filter is_of_journal) out) (idle_untaken source did ends)))
            (stays made past r did h v.start (there ∙ idle_place (voter_in made past) (voter_past past) v.input now stop g))
        at (Some d) g =
            let s = (place_in made past).standing in
            let js = (place_in made past).sections in
            let given = performed stop d js in
            let entry = entry_for (events.Step node source stop) did in
            let gives = step_gives (voter_in made past) (voter_past past) v.input now stop (Some d) g in
            let out : did.out ≡ given.out = v.out ∙ ap (λ (x : Performed). x.out) gives in
            let ends : did.outcome ≡ given.outcome = v.outcome ∙ ap (λ (x : Performed). x.outcome) gives in
            let t : IsTakenSo before node s source (entries.took_of before node made past did) v.input = taking_read setting before node made past source now stop did v d ran good running g in
            let step : IsStep entry given = step_of source stop did given out ends in
            let f = followed (voter_in made past).rules now s v.input t.taking d stop js r entry t.takes g step h.known (h.sections ∙ same_sections) (pruned_in setting before node made past ran good running) in
            let is : Behind now source stop did ≡ step_read (voter_in made past).rules now stop entry r (Some t.taking) =
            ap (λ (o : Option Taking). step_read (rules_at setting node r) now stop entry r o) (taken_there source stop did t.taking t.read) ∙ ap (λ (m : Made). step_read m now stop entry r (Some t.taking)) same_rules in
            let later : Place = record { standing = rest d s.answers; sections = given.sections } in
            subst (IsReadAs setting node (going_on made (did ∷ past))) (sym is)
            (moved made past did later v.start (there ∙ step_place (voter_in made past) (voter_past past) v.input now stop d g) (step_read (voter_in made past).rules now stop entry r (Some t.taking))
            h.rules (start_kept now stop entry t.taking) f.sections (λ w. f.known (whole_then did past w ends)))

  -- ---- a start

  start_readable : (stop : Stop) (floor : Floor) (d : Doing) (js : List Section) → is_whole (start_performed stop floor d js).outcome ≡ true → unreadable stop ≡ false
  unfolding start_performed
  start_readable stops.None floor d js w = refl
  start_readable (stops.Cut call keep) floor d js w = refl
  start_readable (stops.Fail call keep) floor d js w = at (call == 1) w
    where
      at : (b : Bool) → is_whole (if b then unread floor d keep js else performed (stops.Fail (call - 1) keep) d js).outcome ≡ true → b ≡ false
      at true h = cc
      at false h = refl

  start_place : (made : VoterMade) (now : ℕ) (stop : Stop) → unreadable stop ≡ false → (place_of made (Started now stop ∷ [])).standing.desk.known ≡ (start_at made now made.sections).desk.known
  unfolding place_of
  start_place made now stop e = ap (λ b. (if b then (place_of made []).standing else rest (start_at made now made.sections) []).desk.known) e

  module _ (before : List Noted) (floor : Option Finalization) (stop : Stop) (now : ℕ) where
    abbrev begins : List Section → Doing
    begins js = voter.started (rules_of setting node.member now) now (floor_of setting.genesis floor) (replayed js)

    abbrev start_entry : Did → Entry
    start_entry did = rebuilt_entry (record_entry (noted_with setting.setup before (events.Start node floor stop) node (Some tooks.Floor) did).entry)

    -- what is read behind a start over these sections
    abbrev begun_read : List Section → Did → Read
    begun_read js did =
        record {
          start = now;
          known = votes_in now (start_entry did).calls ++ (begins js).desk.known;
          sections = sections_behind (start_entry did).outcome (behind_reading stop) (begins js).calls (start_entry did).calls js;
        }

    begun_so : (js : List Section) → (let did = by_voter Began now stop (given_start setting node floor js now stop) in IsReadAs setting node (going_on (engine_at setting node floor js) (did ∷ [])) (begun_read js did))
    unfolding rebuilt_entry record_entry sections_of started_at voter_past engine_of runs
    begun_so js =
        let made = (engine_at setting node floor js).voter now in
        let did = by_voter Began now stop (given_start setting node floor js now stop) in
        let same : (begun_read js did).sections ≡ (place_of made (Started now stop ∷ [])).sections =
        start_is_read (rules_of setting node.member now) now (floor_of setting.genesis floor) (replayed js) stop js ∙ sym (start_sections made now stop) in
        goes_on (engine_at setting node floor js) (did ∷ []) (begun_read js did) same
        (λ w. record {
          start = refl;
          sections = same;
          known = subst (λ (facts : List Fact). AreAlike (facts ++ (begins js).desk.known) (place_of made (Started now stop ∷ [])).standing.desk.known)
              (sym (start_votes (rules_of setting node.member now) now (floor_of setting.genesis floor) (replayed js) stop js w))
              (subst (AreAlike (begins js).desk.known) (sym (start_place made now stop (start_readable stop (floor_of setting.genesis floor) (begins js) js w))) (alike_itself (begins js).desk.known));
          rules = λ start. refl;
        })

    starts : (r : Read) (js : List Section) → r.sections ≡ js
        → (let did = engine.begun (engine_at setting node floor js) now stop in IsReadAs setting node (going_on (engine_at setting node floor js) (did ∷ [])) (start_read now stop (start_entry did) (begins r.sections) r))
    starts r js e =
        let did = engine.begun (engine_at setting node floor js) now stop in
        subst (λ (xs : List Section). IsReadAs setting node (going_on (engine_at setting node floor js) (did ∷ [])) (begun_read xs did)) (sym e)
        (subst (λ (x : Did). IsReadAs setting node (going_on (engine_at setting node floor js) (x ∷ [])) (begun_read js x)) (sym (begun_gives setting node floor js now stop)) (begun_so js))

  -- ---- where nothing is pending

  rested_at : (before : List Noted) (made : EngineMade) (past : List Did) → 0 < setting.setup.term → runs_engine setting.setup node.member ≡ true → IsRun setting before → AreFloors before → life_in setting before node ≡ Running made past
      → (keep : ℕ) → crashed keep (sections_of made past) ≡ sections_of made past
  unfolding IsAt sections_of
  rested_at before made past pos good ran floors running keep =
      let lived = engine_lives setting before node pos (λ n a. a.engines node good) ran floors in
      let at = subst (λ (l : Life). IsAt setting node l (agreed.run agreed.newborn lived.calls)) running lived.at in
      crashed-rested keep (place_in made past).sections (at_rest (place_in made past).sections (ap kept.waiting (sym at.1.journal) ∙ at.1.stored))

  -- ---- one more event

  abbrev At : List Noted → Type 0
  At noted = IsReadAs setting node (life_in setting noted node) (read setting (map recorded noted) node)

  module _ (before : List Noted) (old : At before) where
    still : (noted : Noted) → is_of node noted.event ≡ false → At (noted ∷ before)
    unfolding read
    still noted e =
        subst (λ (l : Life). IsReadAs setting node l (read setting (map recorded (noted ∷ before)) node)) (sym (life_still setting noted before node e))
        (subst (λ b. IsReadAs setting node (life_in setting before node)
        (if b then read_behind setting node (map recorded before) (recorded noted).entry noted.event (read setting (map recorded before) node) else read setting (map recorded before) node)) (sym e) old)

    goes : (noted : Noted) → is_of node noted.event ≡ true
        → IsReadAs setting node (after setting noted.event noted.did (life_in setting before node)) (read_behind setting node (map recorded before) (recorded noted).entry noted.event (read setting (map recorded before) node)) → At (noted ∷ before)
    unfolding read
    goes noted e l =
        subst (λ (x : Life). IsReadAs setting node x (read setting (map recorded (noted ∷ before)) node)) (sym (life_then setting noted before node e))
        (subst (λ b. IsReadAs setting node (after setting noted.event noted.did (life_in setting before node))
        (if b then read_behind setting node (map recorded before) (recorded noted).entry noted.event (read setting (map recorded before) node) else read setting (map recorded before) node)) (sym e) l)

    started : (noted : Noted) → HasStarted setting before node noted → At (noted ∷ before)
    unfolding after
    started noted b =
        let now = clock_of before in
        let did = engine.begun (engine_at setting node b.floor b.sections) now b.stop in
        let event = events.Start node b.floor b.stop in
        let new = noted_with setting.setup before event node (Some tooks.Floor) did in
        let r = read setting (map recorded before) node in
        let same : r.sections ≡ b.sections = subst (λ (l : Life). IsReadAs setting node l r) b.stopped old in
        subst (λ (n : Noted). At (n ∷ before)) b.is
        (goes new (same_self node)
        (subst (λ (l : Life). IsReadAs setting node (going_on (engine_of setting node.member (floor_of setting.genesis b.floor) (sections_in l)) (did ∷ [])) (read_behind setting node (map recorded before) (recorded new).entry event r)) (sym b.stopped)
        (subst (λ n. IsReadAs setting node (going_on (engine_at setting node b.floor b.sections) (did ∷ []))
        (start_read n b.stop (recorded new).entry (voter.started (rules_of setting node.member n) n (floor_of setting.genesis b.floor) (replayed r.sections)) r)) (sym (same_clock before))
        (starts before b.floor b.stop now r b.sections same))))

    -- one more turn of the running engine
    turns : (made : EngineMade) (past : List Did) (event : Event) (took : Option Took) (did : Did) → life_in setting before node ≡ Running made past → is_of node event ≡ true
        → after setting event (Some did) (Running made past) ≡ going_on made (did ∷ past)
        → IsReadAs setting node (going_on made (did ∷ past)) (read_behind setting node (map recorded before) (recorded (noted_with setting.setup before event node took did)).entry event (read setting (map recorded before) node))
        → At (noted_with setting.setup before event node took did ∷ before)
    turns made past event took did running of on l =
        let new = noted_with setting.setup before event node took did in
        let behind = read_behind setting node (map recorded before) (recorded new).entry event (read setting (map recorded before) node) in
        goes new of
        (subst (λ (x : Life). IsReadAs setting node (after setting event (Some did) x) behind) (sym running) (subst (λ (x : Life). IsReadAs setting node x behind) (sym on) l))

    ready : (made : EngineMade) (past : List Did) → life_in setting before node ≡ Running made past → Runs made past (read setting (map recorded before) node)
    ready made past running = subst (λ (l : Life). IsReadAs setting node l (read setting (map recorded before) node)) running old

    module _ (pos : 0 < setting.setup.term) (good : runs_engine setting.setup node.member ≡ true) (ran : IsRun setting before) (floors : AreFloors before) where
      -- a stop drops nothing of what is read of a running node
      read_rested : (made : EngineMade) (past : List Did) → life_in setting before node ≡ Running made past → (keep : ℕ)
          → crashed keep (read setting (map recorded before) node).sections ≡ (read setting (map recorded before) node).sections
      read_rested made past running keep =
          let h = ready made past running in
          ap (crashed keep) h.sections ∙ rested_at before made past pos good ran floors running keep ∙ sym h.sections

      -- nothing is read of an entry whose calls are none of the journal
      unread_calls : (made : EngineMade) (past : List Did) → life_in setting before node ≡ Running made past → (now : ℕ) (event : Event) (took : Option Took) (did : Did) → filter is_of_journal did.out.calls ≡ []
          → calls_read now stops.None (recorded (noted_with setting.setup before event node took did)).entry (read setting (map recorded before) node) ≡ read setting (map recorded before) node
      unfolding rebuilt_entry record_entry
      unread_calls made past running now event took did none =
          let r = read setting (map recorded before) node in
          quiet_calls now stops.None (recorded (noted_with setting.setup before event node took did)).entry r (no_votes now did.out.calls none)
          (quiet_sections r.sections (read_rested made past running) did.outcome stops.None did.out.calls none)

      heard : (noted : Noted) → HasHeard setting before node noted → At (noted ∷ before)
      unfolding after
      heard noted b =
          let did = engine.heard b.made b.past b.packet.from.member b.packet.channel b.packet.bytes (clock_of before) in
          let q = heard_quiet b.made b.past b.packet.from.member b.packet.channel b.packet.bytes (clock_of before) in
          let event = events.Deliver node b.ref in
          let took = Some (tooks.Packet b.ref) in
          subst (λ (n : Noted). At (n ∷ before)) b.is
          (turns b.made b.past event took did b.running (same_self node) refl
          (subst (IsReadAs setting node (going_on b.made (did ∷ b.past))) (sym (unread_calls b.made b.past b.running (clock_of (map recorded before)) event took did q.journal))
          (stays b.made b.past (read setting (map recorded before) node) did (ready b.made b.past b.running) q.start (quiet_place b.made b.past did q))))

      replied : (noted : Noted) → WasAnswered setting before node noted → At (noted ∷ before)
      unfolding after place_of sections_of
      replied noted b =
          let did = engine.replied b.number b.answer (clock_of before) in
          let r = read setting (map recorded before) node in
          let h = ready b.made b.past b.running in
          let s = (place_in b.made b.past).standing in
          let event = events.Answer node b.ref b.answer in
          let later : Place = record { standing = voter.answered b.number b.answer s; sections = (place_in b.made b.past).sections } in
          subst (λ (n : Noted). At (n ∷ before)) b.is
          (turns b.made b.past event None did b.running (same_self node) refl
          (subst (IsReadAs setting node (going_on b.made (did ∷ b.past))) (sym (unread_calls b.made b.past b.running (clock_of (map recorded before)) event None did refl))
          (moved b.made b.past did later refl (given_place b.made b.past did (Answered b.number b.answer) refl refl) r h.rules h.start h.sections
          (λ w. subst (AreAlike r.known) (sym (answered_known b.number b.answer s)) h.known))))

      -- nothing is read of an entry in which nothing happens
      unread_crash : (made : EngineMade) (past : List Did) → life_in setting before node ≡ Running made past
          → calls_read (clock_of (map recorded before)) stops.None (recorded (noted_blank before (events.Crash node) (Some node))).entry (read setting (map recorded before) node) ≡ read setting (map recorded before) node
      unfolding rebuilt_entry record_entry
      unread_crash made past running =
          let r = read setting (map recorded before) node in
          let now = clock_of (map recorded before) in
          quiet_calls now stops.None (recorded (noted_blank before (events.Crash node) (Some node))).entry r (no_votes now [] refl)
          (quiet_sections r.sections (read_rested made past running) outcomes.Done stops.None [] refl)

      crashed_then : (noted : Noted) → HasCrashed setting before node noted → At (noted ∷ before)
      unfolding after
      crashed_then noted b =
          let r = read setting (map recorded before) node in
          let h = ready b.made b.past b.running in
          let new = noted_blank before (events.Crash node) (Some node) in
          subst (λ (n : Noted). At (n ∷ before)) b.is
          (goes new (same_self node)
          (subst (λ (l : Life). IsReadAs setting node (Stopped (crashed 0 (sections_in l))) (read_behind setting node (map recorded before) (recorded new).entry (events.Crash node) r)) (sym b.running)
          (ap (λ (x : Read). crashed 0 x.sections) (unread_crash b.made b.past b.running) ∙ ap (crashed 0) h.sections)))

      stepped : (noted : Noted) → HasStepped setting before node noted → At (noted ∷ before)
      unfolding after
      stepped noted b =
          let now = clock_of before in
          let did = engine.stepped b.made b.past b.source now b.stop in
          let r = read setting (map recorded before) node in
          let h = ready b.made b.past b.running in
          let rested = rested_at before b.made b.past pos good ran floors b.running in
          subst (λ (n : Noted). At (n ∷ before)) b.is
          (turns b.made b.past (events.Step node b.source b.stop) (entries.took_of before node b.made b.past did) did b.running (same_self node) refl
          (subst (λ n. Lives before b.made b.past r h rested b.running good ran n b.source b.stop did) (sym (same_clock before))
          (elim (any_step b.made b.past b.source now b.stop) [
            | inl q ↦ quiet_step before b.made b.past r h rested b.running good ran now b.source b.stop did q (quiet_untaken (map recorded before) before node b.made b.past now b.stop b.source q)
            | inr v ↦ voters_step before b.made b.past r h rested b.running good ran now b.source b.stop did v
          ])))

      turned : (noted : Noted) → IsTurnOf setting before node noted → At (noted ∷ before)
      turned noted t = elim t [
        | inl e ↦ still noted e
        | inr a ↦ elim a [
          | inl s ↦ started noted s
          | inr b ↦ elim b [
            | inl h ↦ heard noted h
            | inr c ↦ elim c [
              | inl p ↦ stepped noted p
              | inr d ↦ elim d [
                | inl w ↦ replied noted w
                | inr z ↦ crashed_then noted z
              ]
            ]
          ]
        ]
      ]

  pub tracks : 0 < setting.setup.term → runs_engine setting.setup node.member ≡ true → (noted : List Noted) → IsRun setting noted → AreFloors noted → At noted
  unfolding IsRun AreFloors life_in read
  tracks pos good [] ran floors = refl
  tracks pos good (noted ∷ before) ran floors = turned before (tracks pos good before ran.2 floors.1) pos good ran.2 floors.1 noted (entry_turns setting before node good ran.0 noted ran.1)
