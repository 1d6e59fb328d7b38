-- The record of an entry of a run fits its event.
use Rattle.std.proofs.Common.{◌≡◌, ℕ, ◌+◌, ◌-◌, ◌^◌, ◌==◌, ◌&&◌, nat_lt, nat_le, Bool, true, false, List, [], map, length, take, Option, Some, None, Result, Ok, Err, refl, sym, ap, ◌∙◌, subst, inl, inr, arith, if◌then◌else◌}
use Rattle.std.specs.List.{list_all}
use Rattle.std.specs.Option.{option_map_or, option_eq}
use Rattle.simplex_values.specs.declared.answer.Answer.{Answer}
use Rattle.simplex_values.specs.declared.plan.Channel.{Channel}
use Rattle.simplex_values.specs.declared.plan.Channel.TheVariants as channels
use Rattle.simplex_types.specs.declared.floor.Floor.{Floor}
use Rattle.simplex_wire.specs.declared.certificate.Finalization.{Finalization}
use Rattle.simplex_journal.specs.Journal.{Section, replayed}
use Rattle.simplex_mailbox.specs.Mail.{received}
use Rattle.simplex_messages.specs.declared.batcher.Message as batcher_message
use Rattle.simplex_messages.specs.declared.resolver.MailboxMessage.{MailboxMessage}
use Rattle.simplex_messages.specs.declared.resolver.HandlerMessage.{HandlerMessage}
use Rattle.simplex_messages.specs.declared.resolver.ResolverInput.TheVariants as resolver_inputs
use Rattle.simplex_messages.specs.declared.step.Outcome.{Outcome}
use Rattle.simplex_messages.specs.declared.step.Outcome.TheVariants as outcomes
use Rattle.simplex_messages.specs.declared.step.Stop.{Stop}
use Rattle.simplex_messages.specs.declared.step.Stop.TheVariants as stops
use Rattle.simplex_messages.specs.declared.step.StepOut.{StepOut}
use Rattle.simplex_messages.specs.Step.{no_out}
use Rattle.simplex_messages.specs.declared.voter.Message as voter_message
use Rattle.simplex_transcript.specs.declared.entry.Packet.{Packet}
use Rattle.simplex_transcript.specs.declared.entry.Took.{Took}
use Rattle.simplex_transcript.specs.declared.entry.Took.TheVariants as tooks
use Rattle.simplex_transcript.specs.declared.event.Event.{Event}
use Rattle.simplex_transcript.specs.declared.event.Event.TheVariants as events
use Rattle.simplex_transcript.specs.declared.event.StepSource.{StepSource}
use Rattle.simplex_transcript.specs.declared.event.StepSource.TheVariants as sources
use Rattle.simplex_transcript.specs.declared.node.Node.{Node}
use Rattle.simplex_transcript.specs.declared.node.Ref.{Ref}
use Rattle.simplex_transcript.specs.declared.refusal.RunError.{RunError}
use Rattle.simplex_transcript.specs.declared.setup.Setup.{Setup}
use Rattle.model_resolver.specs.Resolver as resolver
use Rattle.model_resolver.specs.Views.{is_reached}
use Rattle.model_steps.specs.Desk.{Doing}
use Rattle.model_steps.specs.Performed.{Performed, performed, stop_place, stop_outcome, whole, broken}
use Rattle.model_steps.specs.Voter as voter
use Rattle.model_steps.specs.VoterLife.{start_performed, unread}
use Rattle.model_steps.specs.Engine as engine
use Rattle.model_steps.specs.Engine.{EngineMade, Did, Taken, did_of, cut_short, voter_in, voter_past}
use Rattle.model_run.specs.Setting.{Setting}
use Rattle.model_run.specs.Kinds.{is_honest, runs_engine, members_of, is_node, is_same_node}
use Rattle.model_run.specs.Members.{floor_of, rules_of}
use Rattle.model_run.specs.Life.{Noted, Life, Stopped, Running, clock_of, life_in}
use Rattle.model_run.specs.Requests.{request_number, packet_for}
use Rattle.model_run.specs.Entries as entries
use Rattle.model_run.specs.Entries.{noted_with, noted_blank, noted_idle, is_own_floor, on_start, on_packet, on_deliver, on_step, on_request, on_answer, on_crash, on_hearing, on_inject, by_engine, made_of, entry_of}
use Rattle.model_run.proofs.Honest.{was_made}
use Rattle.law_run.specs.Complete.{node_named}
use Rattle.law_run.specs.Histories.{IsRun}
use Rattle.law_run.proofs.Further.{same_self}
use Rattle.law_run.proofs.AskedEvents.{entry_event}
use Rattle.law_run.proofs.Letting.{heard_either}
use Rattle.law_run.proofs.Events.{place_in, engine_at, begun_gives, step_gives, never_idle}
use Rattle.law_audit.proofs.Lives.{start_never_idle}
use Rattle.law_requests.specs.Steps.{IsQuiet, IsVoters}
use Rattle.law_requests.proofs.Steps.{any_step}
use Rattle.model_audit.specs.declared.record.AuditEntry.{AuditEntry}
use Rattle.model_audit.specs.declared.record.AuditTook.{AuditTook}
use Rattle.model_audit.specs.declared.record.AuditTook.TheVariants as taken
use Rattle.model_audit.specs.Record.{took_of, record_entry}
use Rattle.model_audit.specs.Rebuilt.{recorded}
use Rattle.model_audit.specs.Running.{is_same_ref}
use Rattle.model_audit.specs.Fitting.{is_cut, is_fail, stop_of, outcome_fits, step_took_fits, took_fits, took_or_idle, adds_nothing, lists_nothing, lists_fit, fits}
use Rattle.law_audit.specs.Recording.{IsTakenSo}
use Rattle.law_audit.proofs.Telling.{counted}
use Rattle.law_audit.proofs.Taken.{taking_read}

same_number : (n : ℕ) → (n == n) ≡ true
same_number n = grind arith

same_ref : (ref : Ref) → is_same_ref ref ref ≡ true
same_ref ref = rw (same_number ref.event, same_number ref.place) refl

and_all : (a b c d e : Bool) → a ≡ true → b ≡ true → c ≡ true → d ≡ true → e ≡ true → (a && b && c && d && e) ≡ true
and_all a b c d e p q r s t = rw (p, q, r, s, t) refl

same_named : (o : Option Node) → option_eq is_same_node o o ≡ true
same_named None = refl
same_named (Some node) = same_self node

-- ---- what a step gives that ended so

abbrev GivesSo : Outcome → StepOut → Type 0
GivesSo outcomes.Done out = Unit {0}
GivesSo outcomes.Idle out = out ≡ no_out
GivesSo outcomes.Refused out = out ≡ no_out
GivesSo outcomes.Cut out = (out.added ≡ []) × (out.asked ≡ []) × (out.dropped ≡ [])
GivesSo outcomes.Journal out = (out.added ≡ []) × (out.asked ≡ []) × (out.dropped ≡ [])

stop_gives : (stop : Stop) (out : StepOut) → (out.added ≡ []) × (out.asked ≡ []) × (out.dropped ≡ []) → GivesSo (stop_outcome stop) out
stop_gives stops.None out h = tt
stop_gives (stops.Cut call keep) out h = h
stop_gives (stops.Fail call keep) out h = h

broken_gives : (stop : Stop) (d : Doing) (js : List Section) (o : Option ℕ) → (let given = option_map_or (broken stop d js) o (whole d js) in GivesSo given.outcome given.out)
broken_gives stop d js None = tt
broken_gives stop d js (Some place) = stop_gives stop (broken stop d js place).out (refl, refl, refl)

performed_gives : (stop : Stop) (d : Doing) (js : List Section) → (let given = performed stop d js in GivesSo given.outcome given.out)
unfolding performed
performed_gives stop d js = broken_gives stop d js (stop_place stop d.calls)

start_gives_so : (stop : Stop) (floor : Floor) (d : Doing) (js : List Section) → (let given = start_performed stop floor d js in GivesSo given.outcome given.out)
unfolding start_performed
start_gives_so stops.None floor d js = performed_gives stops.None d js
start_gives_so (stops.Cut call keep) floor d js = performed_gives (stops.Cut call keep) d js
start_gives_so (stops.Fail call keep) floor d js = at (call == 1)
  where
    at : (b : Bool) → (let given = if b then unread floor d keep js else performed (stops.Fail (call - 1) keep) d js in GivesSo given.outcome given.out)
    at true = (refl, refl, refl)
    at false = performed_gives (stops.Fail (call - 1) keep) d js

cut_gives : (stop : Stop) (out : StepOut) → GivesSo (cut_short stop out).0 (cut_short stop out).1
cut_gives stops.None out = tt
cut_gives (stops.Fail call keep) out = tt
cut_gives (stops.Cut call keep) out = at (nat_lt 0 call && nat_le call (length out.calls))
  where
    at : (b : Bool) → (let cut : Outcome × StepOut = if b then (outcomes.Cut, record no_out { calls = take (call - 1) out.calls }) else (outcomes.Done, out) in GivesSo cut.0 cut.1)
    at true = (refl, refl, refl)
    at false = tt

-- so its record lists no more
adds_none : (e : AuditEntry) → e.added ≡ [] → e.asked ≡ [] → e.dropped ≡ [] → adds_nothing e ≡ true
adds_none e a b c = rw (a, b, c) refl

module _ (setup : Setup) (before : List Noted) (event : Event) (node : Node) (took : Option Took) where
  abbrev entry_for : Did → AuditEntry
  entry_for did = record_entry (noted_with setup before event node took did).entry

  nothing_listed : (did : Did) → did.out ≡ no_out → lists_nothing (entry_for did) ≡ true
  unfolding record_entry
  nothing_listed did e = ap (λ (out : StepOut). lists_nothing (entry_for (record did { out = out }))) e

  lists_so : (did : Did) → GivesSo did.outcome did.out → lists_fit did.outcome (entry_for did) ≡ true
  unfolding record_entry
  lists_so did g = at did.outcome g
    where
      at : (o : Outcome) → GivesSo o did.out → lists_fit o (entry_for did) ≡ true
      at outcomes.Done g = refl
      at outcomes.Idle g = nothing_listed did g
      at outcomes.Refused g = nothing_listed did g
      at outcomes.Cut g = adds_none (entry_for did) g.0 g.1 g.2
      at outcomes.Journal g = adds_none (entry_for did) g.0 g.1 g.2

-- ---- how a step ends

module _ (event : Event) (stop : Stop) (stops_so : stop_of event ≡ stop) where
  stop_fits : (s : Stop) → s ≡ stop → outcome_fits event (stop_outcome s) ≡ true
  stop_fits stops.None e = refl
  stop_fits (stops.Cut call keep) e = ap is_cut (stops_so ∙ sym e)
  stop_fits (stops.Fail call keep) e = ap is_fail (stops_so ∙ sym e)

  broken_fits : (d : Doing) (js : List Section) (o : Option ℕ) (s : Stop) → s ≡ stop → outcome_fits event (option_map_or (broken s d js) o (whole d js)).outcome ≡ true
  broken_fits d js None s e = refl
  broken_fits d js (Some place) s e = stop_fits s e

  performed_fits : (d : Doing) (js : List Section) → outcome_fits event (performed stop d js).outcome ≡ true
  unfolding performed
  performed_fits d js = broken_fits d js (stop_place stop d.calls) stop refl

-- a start whose order to fail counts the reading too
start_fits : (event : Event) (stop : Stop) → stop_of event ≡ stop → (floor : Floor) (d : Doing) (js : List Section) → outcome_fits event (start_performed stop floor d js).outcome ≡ true
unfolding start_performed performed
start_fits event stops.None e floor d js = performed_fits event stops.None e d js
start_fits event (stops.Cut call keep) e floor d js = performed_fits event (stops.Cut call keep) e d js
start_fits event (stops.Fail call keep) e floor d js = at (call == 1)
  where
    failed : (o : Option ℕ) → outcome_fits event (option_map_or (broken (stops.Fail (call - 1) keep) d js) o (whole d js)).outcome ≡ true
    failed None = refl
    failed (Some place) = ap is_fail e

    at : (b : Bool) → outcome_fits event (if b then unread floor d keep js else performed (stops.Fail (call - 1) keep) d js).outcome ≡ true
    at true = ap is_fail e
    at false = failed (stop_place (stops.Fail (call - 1) keep) d.calls)

cut_fits : (node : Node) (source : StepSource) (stop : Stop) (out : StepOut) → outcome_fits (events.Step node source stop) (cut_short stop out).0 ≡ true
cut_fits node source stops.None out = refl
cut_fits node source (stops.Fail call keep) out = refl
cut_fits node source (stops.Cut call keep) out = at (nat_lt 0 call && nat_le call (length out.calls))
  where
    pair : Bool → Outcome × StepOut
    pair b = (cut_short (stops.Cut call keep) out)

    at : Bool → outcome_fits (events.Step node source (stops.Cut call keep)) (cut_short (stops.Cut call keep) out).0 ≡ true
    at b = elim_cut (nat_lt 0 call && nat_le call (length out.calls)) refl
      where
        elim_cut : (b : Bool) → (nat_lt 0 call && nat_le call (length out.calls)) ≡ b → outcome_fits (events.Step node source (stops.Cut call keep)) (cut_short (stops.Cut call keep) out).0 ≡ true
        elim_cut true e = rw e refl
        elim_cut false e = rw e refl

module _ (setting : Setting) (before : List Noted) (ran : IsRun setting before) where
  abbrev about : List Noted
  about = map recorded before

  abbrev Fitted : Result Noted RunError → Type 0
  Fitted (Ok noted) = fits about noted.event (record_entry noted.entry) ≡ true
  Fitted (Err error) = Unit {0}

  all_fit : (event : Event) (e : AuditEntry) → e.event ≡ length before + 1 → e.who ≡ node_named event → outcome_fits event e.outcome ≡ true → took_or_idle about event e.outcome e.took ≡ true → lists_fit e.outcome e ≡ true
      → fits about event e ≡ true
  unfolding fits
  all_fit event e number who outcome took lists =
      and_all (e.event == length about + 1) (option_eq is_same_node e.who (node_named event)) (outcome_fits event e.outcome) (took_or_idle about event e.outcome e.took) (lists_fit e.outcome e)
      (ap (λ n. n == length about + 1) number ∙ ap (λ n. length before + 1 == n + 1) (counted before) ∙ same_number (length before + 1))
      (ap (λ o. option_eq is_same_node o (node_named event)) who ∙ same_named (node_named event)) outcome took lists

  if_fitted : (b : Bool) (x y : Result Noted RunError) → (b ≡ true → Fitted x) → (b ≡ false → Fitted y) → Fitted (if b then x else y)
  if_fitted b x y p q = at b p q
    where
      at : (c : Bool) → (c ≡ true → Fitted x) → (c ≡ false → Fitted y) → Fitted (if c then x else y)
      at true p q = p refl
      at false p q = q refl

  by_fitted : (at : Node) (x y : Result Noted RunError) → (runs_engine setting.setup at.member ≡ true → Fitted x) → (runs_engine setting.setup at.member ≡ false → Fitted y) → Fitted (by_engine setting.setup at x y)
  by_fitted at x y p q = if_fitted (is_node setting.setup at) _ _ (λ t. if_fitted (runs_engine setting.setup at.member) x y p q) (λ f. tt)

  -- where the step was not idle
  unidle : (event : Event) (o : Outcome) (took : AuditTook) → (o ≡ outcomes.Idle → ⊥) → took_fits about event took ≡ true → took_or_idle about event o took ≡ true
  unidle event outcomes.Done took n t = t
  unidle event outcomes.Idle took n t = absurd (n refl)
  unidle event outcomes.Journal took n t = t
  unidle event outcomes.Cut took n t = t
  unidle event outcomes.Refused took n t = t

  module _ (at : Node) (good : runs_engine setting.setup at.member ≡ true) where
    start_fitted : (floor : Option Finalization) (stop : Stop) (l : Life) → Fitted (on_start setting before at floor stop l)
    unfolding record_entry
    start_fitted floor stop (Running made past) = tt
    start_fitted floor stop (Stopped js) =
        if_fitted (is_own_floor setting.setup before floor) _ _
        (λ own.
        let now = clock_of before in
        let event = events.Start at floor stop in
        let did = engine.begun (engine_at setting at floor js) now stop in
        let d = voter.started (rules_of setting at.member now) now (floor_of setting.genesis floor) (replayed js) in
        let ends : did.outcome ≡ (start_performed stop (floor_of setting.genesis floor) d js).outcome = ap (λ (x : Did). x.outcome) (begun_gives setting at floor js now stop) in
        all_fit event (record_entry (noted_with setting.setup before event at (Some tooks.Floor) did).entry) refl refl
        (ap (outcome_fits event) ends ∙ start_fits event stop refl (floor_of setting.genesis floor) d js)
        (unidle event did.outcome taken.Floor (λ e. start_never_idle stop (floor_of setting.genesis floor) d js (sym ends ∙ e)) refl)
        (lists_so setting.setup before event at (Some tooks.Floor) did
        (subst (λ (x : Did). GivesSo x.outcome x.out) (sym (begun_gives setting at floor js now stop)) (start_gives_so stop (floor_of setting.genesis floor) d js)))) (λ f. tt)

    -- a packet
    abbrev HearsSo : Ref → Did → Type 0
    HearsSo ref did =
        (outcome_fits (events.Deliver at ref) did.outcome ≡ true) × (took_or_idle about (events.Deliver at ref) did.outcome (taken.Packet ref) ≡ true)
        × GivesSo did.outcome did.out

    let_in_fits : (ref : Ref) (made : EngineMade) (past : List Did) (sender : ℕ) (channel : Channel) (bytes : List ℕ) (now : ℕ) → HearsSo ref (engine.let_in made past sender channel bytes now)
    unfolding engine.let_in engine.by_batcher engine.by_resolver
    let_in_fits ref made past sender channels.Vote bytes now = (refl, same_ref ref, tt)
    let_in_fits ref made past sender channels.Certificate bytes now = (refl, same_ref ref, tt)
    let_in_fits ref made past sender channels.Resolver bytes now = (refl, same_ref ref, tt)

    packet_fitted : (ref : Ref) (o : Option Packet) (made : EngineMade) (past : List Did) → Fitted (on_packet setting.setup before at ref o made past)
    unfolding record_entry
    packet_fitted ref None made past = tt
    packet_fitted ref (Some packet) made past =
        if_fitted (entries.is_at_end setting.setup made past) _ _ (λ t. tt)
        (λ low.
        let did = engine.heard made past packet.from.member packet.channel packet.bytes (clock_of before) in
        let event = events.Deliver at ref in
        let h = heard_either (HearsSo ref) made past packet.from.member packet.channel packet.bytes (clock_of before) (refl, same_ref ref, refl) (let_in_fits ref made past packet.from.member packet.channel packet.bytes (clock_of before)) in
        all_fit event (record_entry (noted_with setting.setup before event at (Some (tooks.Packet ref)) did).entry) refl refl h.0 h.1
        (lists_so setting.setup before event at (Some (tooks.Packet ref)) did h.2))

    deliver_fitted : (ref : Ref) (l : Life) → Fitted (on_deliver setting.setup before at ref l)
    deliver_fitted ref (Stopped js) = tt
    deliver_fitted ref (Running made past) = packet_fitted ref (packet_for before at ref) made past

    -- ---- a step

    module _ (made : EngineMade) (past : List Did) (running : life_in setting before at ≡ Running made past) (now : ℕ) (stop : Stop) where
      abbrev StepsSo : StepSource → Did → Type 0
      StepsSo source did =
          (outcome_fits (events.Step at source stop) did.outcome ≡ true)
          × (took_or_idle about (events.Step at source stop) did.outcome (took_of (entries.took_of before at made past did)) ≡ true)
          × GivesSo did.outcome did.out

      took_so : (source : StepSource) (taken : Taken) (n : ℕ) (s : Stop) (o : Outcome) (out : StepOut) → step_took_fits about at source (took_of (entries.taken_of before at (place_in made past).standing taken)) ≡ true
          → took_or_idle about (events.Step at source stop) o (took_of (entries.took_of before at made past (did_of taken n s o out))) ≡ true
      took_so source taken n s outcomes.Done out h = h
      took_so source taken n s outcomes.Idle out h = refl
      took_so source taken n s outcomes.Journal out h = h
      took_so source taken n s outcomes.Cut out h = h
      took_so source taken n s outcomes.Refused out h = h

      idle_so : (source : StepSource) → StepsSo source (engine.nothing_held source now stop)
      idle_so source = (refl, refl, refl)

      batcher_so : (o : Option batcher_message.Message) → StepsSo sources.Batcher (engine.on_batcher_mail made past now stop o)
      unfolding engine.by_batcher entries.taken_of
      batcher_so None = idle_so sources.Batcher
      batcher_so (Some message) =
          (let did = engine.on_batcher_mail made past now stop (Some message) in (cut_fits at sources.Batcher stop _, took_so sources.Batcher did.taken did.now did.stop did.outcome did.out refl, cut_gives stop _))

      resolver_so : (o : Option MailboxMessage) → StepsSo sources.Resolver (engine.on_resolver_mail made past now stop o)
      unfolding engine.by_resolver entries.taken_of
      resolver_so None = idle_so sources.Resolver
      resolver_so (Some message) =
          (let did = engine.on_resolver_mail made past now stop (Some message) in (cut_fits at sources.Resolver stop _, took_so sources.Resolver did.taken did.now did.stop did.outcome did.out refl, cut_gives stop _))

      handler_so : (o : Option HandlerMessage) → StepsSo sources.Handler (engine.on_handler_mail made past now stop o)
      unfolding engine.by_resolver entries.taken_of
      handler_so None = idle_so sources.Handler
      handler_so (Some message) =
          (let did = engine.on_handler_mail made past now stop (Some message) in (cut_fits at sources.Handler stop _, took_so sources.Handler did.taken did.now did.stop did.outcome did.out refl, cut_gives stop _))

      fetch_so : StepsSo sources.Fetch (engine.on_fetcher made past now stop)
      unfolding engine.by_resolver entries.taken_of
      fetch_so = at_deadline (is_reached now (resolver.deadline_after made.resolver (engine.resolver_past past)))
        where
          due : Did
          due = engine.by_resolver made (engine.resolver_past past) (engine.Took sources.Fetch None) resolver_inputs.Timer now stop

          at_deadline : (b : Bool) → StepsSo sources.Fetch (if b then engine.by_resolver made (engine.resolver_past past) (engine.Took sources.Fetch None) resolver_inputs.Timer now stop else engine.nothing_held sources.Fetch now stop)
          at_deadline true = (
            cut_fits at sources.Fetch stop _,
            (let did = engine.by_resolver made (engine.resolver_past past) (engine.Took sources.Fetch None) resolver_inputs.Timer now stop in took_so sources.Fetch (engine.Took sources.Fetch None) did.now did.stop did.outcome did.out refl),
            cut_gives stop _,
          )
          at_deadline false = idle_so sources.Fetch

      voter_so : (o : Option voter_message.Message) → IsQuiet (engine.on_voter_mail made past now stop o) → StepsSo sources.Voter (engine.on_voter_mail made past now stop o)
      voter_so None q = idle_so sources.Voter
      voter_so (Some message) q = cc q.given

      quiet_so : (source : StepSource) → IsQuiet (engine.stepped made past source now stop) → StepsSo source (engine.stepped made past source now stop)
      unfolding engine.stepped
      quiet_so sources.Batcher q = batcher_so (received (engine.batcher_mail made past))
      quiet_so sources.Voter q = voter_so (received (engine.voter_mail made past)) q
      quiet_so sources.Timer q = cc q.given
      quiet_so sources.Propose q = cc q.given
      quiet_so sources.Verify q = cc q.given
      quiet_so sources.Certify q = cc q.given
      quiet_so sources.Resolver q = resolver_so (received (engine.resolver_mail made past))
      quiet_so sources.Handler q = handler_so (resolver.handler_message made.resolver (engine.resolver_past past))
      quiet_so sources.Fetch q = fetch_so

      idle_took : (source : StepSource) (did : Did) → did.outcome ≡ outcomes.Idle → did.out ≡ no_out → StepsSo source did
      idle_took source did e out = here did.outcome e
        where
          here : (o : Outcome) → o ≡ outcomes.Idle → StepsSo source (record did { outcome = o })
          here outcomes.Idle f = (refl, refl, out)
          here outcomes.Done f = cc
          here outcomes.Journal f = cc
          here outcomes.Cut f = cc
          here outcomes.Refused f = cc

      voters_so : (source : StepSource) (did : Did) → IsVoters made past source now stop did → StepsSo source did
      voters_so source did v = here (voter.stepped (voter_in made past).rules now (place_in made past).standing v.input) refl
        where
          here : (o : Option Doing) → voter.stepped (voter_in made past).rules now (place_in made past).standing v.input ≡ o → StepsSo source did
          here None g =
              let gives = step_gives (voter_in made past) (voter_past past) v.input now stop None g in
              idle_took source did (v.outcome ∙ ap (λ (x : Performed). x.outcome) gives) (v.out ∙ ap (λ (x : Performed). x.out) gives)
          here (Some d) g =
              let js = (place_in made past).sections in
              let event = events.Step at source stop in
              let gives = step_gives (voter_in made past) (voter_past past) v.input now stop (Some d) g in
              let ends : did.outcome ≡ (performed stop d js).outcome = v.outcome ∙ ap (λ (x : Performed). x.outcome) gives in
              let out : did.out ≡ (performed stop d js).out = v.out ∙ ap (λ (x : Performed). x.out) gives in
              let t : IsTakenSo before at (place_in made past).standing source (entries.took_of before at made past did) v.input = taking_read setting before at made past source now stop did v d ran good running g in (
                ap (outcome_fits event) ends ∙ performed_fits event stop refl d js,
                unidle event did.outcome (took_of (entries.took_of before at made past did)) (λ e. never_idle stop d js (sym ends ∙ e)) t.fits,
                subst (λ (o : Outcome). GivesSo o did.out) (sym ends) (subst (λ (x : StepOut). GivesSo (performed stop d js).outcome x) (sym out) (performed_gives stop d js)),
              )

    step_fitted : (source : StepSource) (stop : Stop) (l : Life) → life_in setting before at ≡ l → Fitted (on_step setting.setup before at source stop l)
    unfolding record_entry
    step_fitted source stop (Stopped js) e = tt
    step_fitted source stop (Running made past) e =
        if_fitted (entries.is_at_end setting.setup made past) _ _ (λ t. tt)
        (λ low.
        let now = clock_of before in
        let event = events.Step at source stop in
        let did = engine.stepped made past source now stop in
        let s : StepsSo made past e now stop source did = elim (any_step made past source now stop) [
          | inl q ↦ quiet_so made past e now stop source q
          | inr v ↦ voters_so made past e now stop source did v
        ] in
        all_fit event (record_entry (noted_with setting.setup before event at (entries.took_of before at made past did) did).entry) refl refl s.0 s.1
        (lists_so setting.setup before event at (entries.took_of before at made past did) did s.2))

    request_fitted : (ref : Ref) (answer : Answer) (o : Option ℕ) (made : EngineMade) (past : List Did) → Fitted (on_request setting.setup before at ref answer o made past)
    unfolding record_entry
    request_fitted ref answer None made past = tt
    request_fitted ref answer (Some number) made past =
        if_fitted (engine.takes_reply made past number answer) _ _
        (λ t. all_fit (events.Answer at ref answer) (record_entry (noted_with setting.setup before (events.Answer at ref answer) at None (engine.replied number answer (clock_of before))).entry) refl refl refl refl refl) (λ f. tt)

    answer_fitted : (ref : Ref) (answer : Answer) (l : Life) → Fitted (on_answer setting.setup before at ref answer l)
    answer_fitted ref answer (Stopped js) = tt
    answer_fitted ref answer (Running made past) = request_fitted ref answer (request_number before at ref) made past

    crash_fitted : (l : Life) → Fitted (on_crash before at l)
    unfolding record_entry
    crash_fitted (Stopped js) = tt
    crash_fitted (Running made past) = all_fit (events.Crash at) (record_entry (noted_blank before (events.Crash at) (Some at)).entry) refl refl refl refl refl

  -- ---- nodes without an engine, and events of no engine

  hearing_fitted : (at : Node) (ref : Ref) (o : Option Packet) → Fitted (on_hearing setting.setup before at ref o)
  unfolding record_entry
  hearing_fitted at ref None = tt
  hearing_fitted at ref (Some packet) = all_fit (events.Deliver at ref) _ refl refl refl (same_ref ref) refl

  idle_fitted : (at : Node) (source : StepSource) (stop : Stop) → Fitted (Ok (noted_idle before (events.Step at source stop) at))
  unfolding record_entry
  idle_fitted at source stop = all_fit (events.Step at source stop) _ refl refl refl refl refl

  idle_crash : (at : Node) → Fitted (Ok (noted_idle before (events.Crash at) at))
  unfolding record_entry
  idle_crash at = all_fit (events.Crash at) _ refl refl refl refl refl

  tick_fitted : (ms : ℕ) → Fitted (Ok (noted_blank before (events.Tick ms) None))
  unfolding record_entry
  tick_fitted ms = all_fit (events.Tick ms) _ refl refl refl refl refl

  inject_fitted : (who : ℕ) (channel : Channel) (to : List Node) (bytes : List ℕ) → Fitted (on_inject setting.setup before who channel to bytes)
  unfolding record_entry
  inject_fitted who channel to bytes = if_fitted (is_honest setting.setup who) _ _ (λ h. tt) (λ f. all_fit (events.Inject who channel to bytes) _ refl refl refl refl refl)

  made_fitted : (event : Event) → Fitted (made_of setting before event)
  unfolding made_of
  made_fitted (events.Start at floor stop) = by_fitted at _ _ (λ good. start_fitted at good floor stop (life_in setting before at)) (λ none. tt)
  made_fitted (events.Tick ms) = if_fitted (nat_le (clock_of before + ms) (2 ^ 63 - 1)) _ _ (λ t. tick_fitted ms) (λ f. tt)
  made_fitted (events.Deliver at ref) = by_fitted at _ _ (λ good. deliver_fitted at good ref (life_in setting before at)) (λ none. hearing_fitted at ref (packet_for before at ref))
  made_fitted (events.Step at source stop) = by_fitted at _ _ (λ good. step_fitted at good source stop (life_in setting before at) refl) (λ none. idle_fitted at source stop)
  made_fitted (events.Answer at ref answer) = by_fitted at _ _ (λ good. answer_fitted at good ref answer (life_in setting before at)) (λ none. tt)
  made_fitted (events.Crash at) = by_fitted at _ _ (λ good. crash_fitted at good (life_in setting before at)) (λ none. idle_crash at)
  made_fitted (events.Inject who channel to bytes) = if_fitted (nat_lt who (members_of setting.setup) && list_all (is_node setting.setup) to) _ _ (λ t. inject_fitted who channel to bytes) (λ f. tt)

pub fitted : (setting : Setting) (before : List Noted) (event : Event) (noted : Noted) → IsRun setting before → entry_of setting before event ≡ Ok noted → fits (map recorded before) event (record_entry noted.entry) ≡ true
fitted setting before event noted ran e =
    subst (λ (x : Event). fits (map recorded before) x (record_entry noted.entry) ≡ true) (entry_event setting before event noted e)
    (subst (Fitted setting before ran) (was_made setting before event noted e) (made_fitted setting before ran event))
