-- The packet of a blocked member is refused, and nothing else.
use Rattle.std.proofs.Common.{◌≡◌, ◌↔◌, ℕ, ◌-◌, ◌^◌, ◌+◌, ◌&&◌, nat_lt, nat_le, Bool, true, false, List, length, take, Option, Some, None, Result, Ok, Err, refl, sym, ap, ◌∙◌, subst, if◌then◌else◌}
use Rattle.std.specs.List.{list_all}
use Rattle.simplex_values.specs.declared.answer.Answer.{Answer}
use Rattle.simplex_values.specs.declared.plan.Channel.{Channel}
use Rattle.simplex_values.specs.declared.plan.Channel.TheVariants as channels
use Rattle.simplex_wire.specs.declared.certificate.Finalization.{Finalization}
use Rattle.simplex_journal.specs.Journal.{Section, replayed}
use Rattle.simplex_mailbox.specs.Mail.{received}
use Rattle.simplex_messages.specs.declared.batcher.Message as batcher_message
use Rattle.simplex_messages.specs.declared.voter.Message as voter_message
use Rattle.simplex_messages.specs.declared.voter.VoterInput.{VoterInput}
use Rattle.simplex_messages.specs.declared.voter.VoterInput.TheVariants as voter_inputs
use Rattle.simplex_messages.specs.declared.resolver.MailboxMessage.{MailboxMessage}
use Rattle.simplex_messages.specs.declared.resolver.HandlerMessage.{HandlerMessage}
use Rattle.simplex_messages.specs.declared.resolver.ResolverInput.TheVariants as resolver_inputs
use Rattle.simplex_messages.specs.declared.step.Outcome.{Outcome}
use Rattle.simplex_messages.specs.declared.step.Outcome.TheVariants as outcomes
use Rattle.simplex_messages.specs.declared.step.Stop.{Stop}
use Rattle.simplex_messages.specs.declared.step.Stop.TheVariants as stops
use Rattle.simplex_messages.specs.declared.step.StepOut.{StepOut}
use Rattle.simplex_messages.specs.Step.{no_out}
use Rattle.simplex_transcript.specs.declared.event.Event.{Event}
use Rattle.simplex_transcript.specs.declared.event.Event.TheVariants as events
use Rattle.simplex_transcript.specs.declared.event.StepSource.{StepSource}
use Rattle.simplex_transcript.specs.declared.event.StepSource.TheVariants as sources
use Rattle.simplex_transcript.specs.declared.entry.Packet.{Packet}
use Rattle.simplex_transcript.specs.declared.entry.Took.TheVariants as tooks
use Rattle.simplex_transcript.specs.declared.node.Node.{Node}
use Rattle.simplex_transcript.specs.declared.node.Ref.{Ref}
use Rattle.simplex_transcript.specs.declared.refusal.RunError.{RunError}
use Rattle.model_resolver.specs.Views.{is_reached}
use Rattle.model_resolver.specs.Resolver as resolver
use Rattle.model_steps.specs.Desk.{Doing}
use Rattle.model_steps.specs.Performed.{Performed}
use Rattle.model_steps.specs.Voter as voter
use Rattle.model_steps.specs.VoterLife.{VoterMade, Given, place_of, step_given}
use Rattle.model_steps.specs.Engine as engine
use Rattle.model_steps.specs.Engine.{EngineMade, Did, cut_short, is_blocked, voter_in, voter_past}
use Rattle.model_run.specs.Setting.{Setting}
use Rattle.model_run.specs.Kinds.{members_of, is_honest, is_node, runs_engine}
use Rattle.model_run.specs.Life.{Noted, Life, Stopped, Running, clock_of, life_in}
use Rattle.model_run.specs.Members.{floor_of, rules_of}
use Rattle.model_run.specs.Requests.{request_number, packet_for}
use Rattle.model_run.specs.Entries.{noted_with, entry_with, is_at_end, is_own_floor, on_start, on_packet, on_deliver, on_step, on_request, on_answer, on_crash, by_engine, made_of, entry_of}
use Rattle.model_run.specs.Blocked.{has_blocked}
use Rattle.model_run.proofs.Honest.{was_made}
use Rattle.law_run.specs.Histories.{IsRun}
use Rattle.law_run.specs.Refusing.{IsRefused}
use Rattle.law_run.proofs.Events.{engine_at, begun_gives, step_gives, never_refused, start_never_refused}
use Rattle.law_run.proofs.OneSet.{one_set}
use Rattle.law_run.proofs.Turns.{ok_is, if_ok, if_err}

-- ---- what comes of a packet

let_in_done : (made : EngineMade) (past : List Did) (sender : ℕ) (channel : Channel) (bytes : List ℕ) (now : ℕ) → (engine.let_in made past sender channel bytes now).outcome ≡ outcomes.Done
unfolding engine.let_in engine.by_batcher engine.by_resolver
let_in_done made past sender channels.Vote bytes now = refl
let_in_done made past sender channels.Certificate bytes now = refl
let_in_done made past sender channels.Resolver bytes now = refl

heard_outcome : (made : EngineMade) (past : List Did) (sender : ℕ) (channel : Channel) (bytes : List ℕ) (now : ℕ)
    → (engine.heard made past sender channel bytes now).outcome ≡ (if is_blocked past sender then outcomes.Refused else outcomes.Done)
unfolding engine.heard
heard_outcome made past sender channel bytes now = at (is_blocked past sender)
  where
    at : (b : Bool) → (if b then engine.refused sender channel bytes now else engine.let_in made past sender channel bytes now).outcome ≡ (if b then outcomes.Refused else outcomes.Done)
    at true = refl
    at false = let_in_done made past sender channel bytes now

heard_refused : (made : EngineMade) (past : List Did) (sender : ℕ) (channel : Channel) (bytes : List ℕ) (now : ℕ) → is_blocked past sender ≡ true
    → engine.heard made past sender channel bytes now ≡ engine.refused sender channel bytes now
unfolding engine.heard
heard_refused made past sender channel bytes now e = ap (λ b. if b then engine.refused sender channel bytes now else engine.let_in made past sender channel bytes now) e

chosen : {A : Type 0} (b : Bool) (x y : Result A RunError) (a : A) → b ≡ true → (if b then x else y) ≡ Ok a → x ≡ Ok a
chosen true x y a e h = h
chosen false x y a e h = cc

-- the entry of a packet that is delivered to a node with an engine
record IsDelivered (setting : Setting) (before : List Noted) (node : Node) (at : Ref) (packet : Packet) (noted : Noted) : Type 0 where
  pub made : EngineMade
  pub past : List Did
  pub running : life_in setting before node ≡ Running made past
  pub is : noted_with setting.setup before (events.Deliver node at) node (Some (tooks.Packet at)) (engine.heard made past packet.from.member packet.channel packet.bytes (clock_of before)) ≡ noted

delivered : (setting : Setting) (before : List Noted) (node : Node) (at : Ref) (packet : Packet) (noted : Noted) → runs_engine setting.setup node.member ≡ true → packet_for before node at ≡ Some packet
    → entry_of setting before (events.Deliver node at) ≡ Ok noted → IsDelivered setting before node at packet noted
unfolding made_of
delivered setting before node at packet noted runs_one found e =
    let p = if_ok (is_node setting.setup node) _ _ noted (was_made setting before (events.Deliver node at) noted e) in
    by (life_in setting before node) refl (chosen (runs_engine setting.setup node.member) _ _ noted runs_one p.1)
  where
    by : (l : Life) → life_in setting before node ≡ l → on_deliver setting.setup before node at l ≡ Ok noted → IsDelivered setting before node at packet noted
    by (Stopped sections) f h = cc
    by (Running made past) f h =
        let k : on_packet setting.setup before node at (Some packet) made past ≡ Ok noted = subst (λ o. on_packet setting.setup before node at o made past ≡ Ok noted) found h in
        record { made = made; past = past; running = f; is = ok_is _ noted (if_err (is_at_end setting.setup made past) _ _ noted k).1 }

pub refused_exactly : (setting : Setting) (before : List Noted) (node : Node) (at : Ref) (packet : Packet) (noted : Noted) → IsRun setting before → runs_engine setting.setup node.member ≡ true
    → packet_for before node at ≡ Some packet → entry_of setting before (events.Deliver node at) ≡ Ok noted
    → (noted.entry.outcome ≡ outcomes.Refused) ↔ (has_blocked before node packet.from.member ≡ true)
refused_exactly setting before node at packet noted ran runs_one found e =
    let d = delivered setting before node at packet noted runs_one found e in
    let s = one_set setting before node d.made d.past packet.from.member ran d.running in
    let outcome : noted.entry.outcome ≡ (if has_blocked before node packet.from.member then outcomes.Refused else outcomes.Done) =
    sym (ap (λ (n : Noted). n.entry.outcome) d.is) ∙ heard_outcome d.made d.past packet.from.member packet.channel packet.bytes (clock_of before)
    ∙ ap (λ b. if b then outcomes.Refused else outcomes.Done) s.refused in
    (λ r. only (has_blocked before node packet.from.member) (sym outcome ∙ r), λ b. outcome ∙ ap (λ x. if x then outcomes.Refused else outcomes.Done) b)
  where
    only : (b : Bool) → (if b then outcomes.Refused else outcomes.Done) ≡ outcomes.Refused → b ≡ true
    only true h = refl
    only false h = cc

pub refused_empty : (setting : Setting) (before : List Noted) (node : Node) (at : Ref) (packet : Packet) (noted : Noted) → IsRun setting before → runs_engine setting.setup node.member ≡ true
    → packet_for before node at ≡ Some packet → entry_of setting before (events.Deliver node at) ≡ Ok noted → has_blocked before node packet.from.member ≡ true → IsRefused at noted.entry
refused_empty setting before node at packet noted ran runs_one found e b =
    let d = delivered setting before node at packet noted runs_one found e in
    let s = one_set setting before node d.made d.past packet.from.member ran d.running in
    subst (λ (n : Noted). IsRefused at n.entry) d.is
    (subst (λ (did : Did). IsRefused at (entry_with setting.setup (length before + 1) node (Some (tooks.Packet at)) did))
    (sym (heard_refused d.made d.past packet.from.member packet.channel packet.bytes (clock_of before) (s.refused ∙ b)))
    (record { outcome = refl; took = refl; added = refl; asked = refl; dropped = refl; handed = refl; calls = refl; packets = refl }))

-- ---- what else an engine does is not refused

cut_whole : (stop : Stop) (out : StepOut) → ¬ ((cut_short stop out).0 ≡ outcomes.Refused)
cut_whole stops.None out e = cc
cut_whole (stops.Fail call keep) out e = cc
cut_whole (stops.Cut call keep) out e = at (nat_lt 0 call && nat_le call (length out.calls)) e
  where
    pair : Bool → Outcome × StepOut
    pair b = if b then (outcomes.Cut, record no_out { calls = take (call - 1) out.calls }) else (outcomes.Done, out)

    at : (b : Bool) → ¬ ((pair b).0 ≡ outcomes.Refused)
    at true h = cc
    at false h = cc

voter_unrefused : (made : VoterMade) (given : List Given) (input : VoterInput) (now : ℕ) (stop : Stop) → ¬ ((step_given made given input now stop).outcome ≡ outcomes.Refused)
voter_unrefused made given input now stop e = at (voter.stepped made.rules now (place_of made given).standing input) refl
  where
    at : (o : Option Doing) → voter.stepped made.rules now (place_of made given).standing input ≡ o → ⊥
    at None h = (let idle : outcomes.Idle ≡ outcomes.Refused = sym (ap (λ (p : Performed). p.outcome) (step_gives made given input now stop None h)) ∙ e in cc)
    at (Some d) h = never_refused stop d (place_of made given).sections (sym (ap (λ (p : Performed). p.outcome) (step_gives made given input now stop (Some d) h)) ∙ e)

stepped_unrefused : (made : EngineMade) (past : List Did) (source : StepSource) (now : ℕ) (stop : Stop) → ¬ ((engine.stepped made past source now stop).outcome ≡ outcomes.Refused)
unfolding engine.stepped engine.by_batcher engine.by_resolver
stepped_unrefused made past sources.Batcher now stop = at (received (engine.batcher_mail made past))
  where
    at : (o : Option batcher_message.Message) → ¬ ((engine.on_batcher_mail made past now stop o).outcome ≡ outcomes.Refused)
    at None e = cc
    at (Some message) e = cut_whole stop _ e
stepped_unrefused made past sources.Voter now stop = at (received (engine.voter_mail made past))
  where
    at : (o : Option voter_message.Message) → ¬ ((engine.on_voter_mail made past now stop o).outcome ≡ outcomes.Refused)
    at None e = cc
    at (Some message) e = voter_unrefused (voter_in made past) (voter_past past) (voter_inputs.Mail message) now stop e
stepped_unrefused made past sources.Timer now stop = voter_unrefused (voter_in made past) (voter_past past) voter_inputs.Timer now stop
stepped_unrefused made past sources.Propose now stop = voter_unrefused (voter_in made past) (voter_past past) voter_inputs.Propose now stop
stepped_unrefused made past sources.Verify now stop = voter_unrefused (voter_in made past) (voter_past past) voter_inputs.Verify now stop
stepped_unrefused made past sources.Certify now stop = voter_unrefused (voter_in made past) (voter_past past) voter_inputs.Certify now stop
stepped_unrefused made past sources.Resolver now stop = at (received (engine.resolver_mail made past))
  where
    at : (o : Option MailboxMessage) → ¬ ((engine.on_resolver_mail made past now stop o).outcome ≡ outcomes.Refused)
    at None e = cc
    at (Some message) e = cut_whole stop _ e
stepped_unrefused made past sources.Handler now stop = at (resolver.handler_message made.resolver (engine.resolver_past past))
  where
    at : (o : Option HandlerMessage) → ¬ ((engine.on_handler_mail made past now stop o).outcome ≡ outcomes.Refused)
    at None e = cc
    at (Some message) e = cut_whole stop _ e
stepped_unrefused made past sources.Fetch now stop = at (is_reached now (resolver.deadline_after made.resolver (engine.resolver_past past)))
  where
    at : (b : Bool)
        → ¬ ((if b then engine.by_resolver made (engine.resolver_past past) (engine.Took sources.Fetch None) resolver_inputs.Timer now stop else engine.nothing_held sources.Fetch now stop).outcome ≡ outcomes.Refused)
    at true e = cut_whole stop _ e
    at false e = cc

begun_unrefused : (setting : Setting) (node : Node) (floor : Option Finalization) (js : List Section) (now : ℕ) (stop : Stop) → ¬ ((engine.begun (engine_at setting node floor js) now stop).outcome ≡ outcomes.Refused)
begun_unrefused setting node floor js now stop e =
    start_never_refused stop (floor_of setting.genesis floor) (voter.started (rules_of setting node.member now) now (floor_of setting.genesis floor) (replayed js)) js
    (sym (ap (λ (d : Did). d.outcome) (begun_gives setting node floor js now stop)) ∙ e)

-- ---- an entry that is refused

-- the entry is not refused
abbrev Whole : Result Noted RunError → Noted → Type 0
Whole r noted = r ≡ Ok noted → ¬ (noted.entry.outcome ≡ outcomes.Refused)

ok_whole : (n noted : Noted) → ¬ (n.entry.outcome ≡ outcomes.Refused) → Whole (Ok n) noted
ok_whole n noted f e r = f (ap (λ (x : Noted). x.entry.outcome) (ok_is n noted e) ∙ r)

err_whole : (error : RunError) (noted : Noted) → Whole (Err error) noted
err_whole error noted e r = cc

if_whole : (b : Bool) (x : Result Noted RunError) (error : RunError) (noted : Noted) → Whole x noted → Whole (if b then x else Err error) noted
if_whole true x error noted f = f
if_whole false x error noted f = λ e r. cc

if_not_whole : (b : Bool) (x : Result Noted RunError) (error : RunError) (noted : Noted) → Whole x noted → Whole (if b then Err error else x) noted
if_not_whole true x error noted f = λ e r. cc
if_not_whole false x error noted f = f

either_whole : (b : Bool) (x y : Result Noted RunError) (noted : Noted) → Whole x noted → Whole y noted → Whole (if b then x else y) noted
either_whole true x y noted f g = f
either_whole false x y noted f g = g

parted_whole : (setting : Setting) (at : Node) (x y : Result Noted RunError) (noted : Noted) → Whole x noted → Whole y noted → Whole (by_engine setting.setup at x y) noted
parted_whole setting at x y noted f g = if_whole (is_node setting.setup at) _ _ noted (either_whole (runs_engine setting.setup at.member) x y noted f g)

module _ (setting : Setting) (before : List Noted) (noted : Noted) where
  start_whole : (at : Node) (floor : Option Finalization) (stop : Stop) (l : Life) → Whole (on_start setting before at floor stop l) noted
  start_whole at floor stop (Running made past) = λ e r. cc
  start_whole at floor stop (Stopped js) =
      if_whole (is_own_floor setting.setup before floor) _ _ noted (ok_whole _ noted (begun_unrefused setting at floor js (clock_of before) stop))

  step_whole : (at : Node) (source : StepSource) (stop : Stop) (l : Life) → Whole (on_step setting.setup before at source stop l) noted
  step_whole at source stop (Stopped js) = λ e r. cc
  step_whole at source stop (Running made past) =
      if_not_whole (is_at_end setting.setup made past) _ _ noted (ok_whole _ noted (stepped_unrefused made past source (clock_of before) stop))

  request_whole : (at : Node) (ref : Ref) (answer : Answer) (made : EngineMade) (past : List Did) (o : Option ℕ) → Whole (on_request setting.setup before at ref answer o made past) noted
  request_whole at ref answer made past None = λ e r. cc
  request_whole at ref answer made past (Some number) = if_whole (engine.takes_reply made past number answer) _ _ noted (ok_whole _ noted (λ e. cc))

  answer_whole : (at : Node) (ref : Ref) (answer : Answer) (l : Life) → Whole (on_answer setting.setup before at ref answer l) noted
  answer_whole at ref answer (Stopped js) = λ e r. cc
  answer_whole at ref answer (Running made past) = request_whole at ref answer made past (request_number before at ref)

  crash_whole : (at : Node) (l : Life) → Whole (on_crash before at l) noted
  crash_whole at (Stopped js) = λ e r. cc
  crash_whole at (Running made past) = ok_whole _ noted (λ e. cc)

  made_alone : (event : Event) → made_of setting before event ≡ Ok noted → noted.entry.outcome ≡ outcomes.Refused → (node : Node) × (at : Ref) × (event ≡ events.Deliver node at)
  unfolding made_of
  made_alone (events.Deliver node at) e r = (node, at, refl)
  made_alone (events.Start at floor stop) e r = absurd (parted_whole setting at _ _ noted (start_whole at floor stop (life_in setting before at)) (err_whole _ noted) e r)
  made_alone (events.Step at source stop) e r = absurd (parted_whole setting at _ _ noted (step_whole at source stop (life_in setting before at)) (ok_whole _ noted (λ h. cc)) e r)
  made_alone (events.Answer at ref answer) e r = absurd (parted_whole setting at _ _ noted (answer_whole at ref answer (life_in setting before at)) (err_whole _ noted) e r)
  made_alone (events.Crash at) e r = absurd (parted_whole setting at _ _ noted (crash_whole at (life_in setting before at)) (ok_whole _ noted (λ h. cc)) e r)
  made_alone (events.Tick ms) e r = absurd (if_whole (nat_le (clock_of before + ms) (2 ^ 63 - 1)) _ _ noted (ok_whole _ noted (λ h. cc)) e r)
  made_alone (events.Inject who channel to bytes) e r =
      absurd (if_whole (nat_lt who (members_of setting.setup) && list_all (is_node setting.setup) to) _ _ noted (if_not_whole (is_honest setting.setup who) _ _ noted (ok_whole _ noted (λ h. cc))) e r)

pub refused_alone : (setting : Setting) (before : List Noted) (event : Event) (noted : Noted) → entry_of setting before event ≡ Ok noted → noted.entry.outcome ≡ outcomes.Refused
    → (node : Node) × (at : Ref) × (event ≡ events.Deliver node at)
refused_alone setting before event noted e r = made_alone setting before noted event (was_made setting before event noted e) r
