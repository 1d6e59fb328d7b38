-- Whether an entry fits its event.
use Rattle.std.specs.Prelude.{◌+◌, ◌==◌, ◌&&◌, Bool, true, false, List, length, is_some}
use Rattle.std.specs.Option.{option_map_or, option_eq}
use Rattle.simplex_values.specs.declared.answer.Answer.{Answer}
use Rattle.model_rules.specs.declared.request.Asked.{Asked}
use Rattle.model_rules.specs.declared.request.Asked.TheVariants as asks
use Rattle.simplex_messages.specs.declared.step.Outcome.{Outcome}
use Rattle.simplex_messages.specs.declared.step.Outcome.TheVariants as outcomes
use Rattle.simplex_messages.specs.declared.step.Stop.{Stop}
use Rattle.simplex_messages.specs.declared.step.Stop.TheVariants as stops
use Rattle.simplex_transcript.specs.declared.event.Event.{Event}
use Rattle.simplex_transcript.specs.declared.event.Event.TheVariants as events
use Rattle.simplex_transcript.specs.declared.event.StepSource.{StepSource}
use Rattle.simplex_transcript.specs.declared.event.StepSource.TheVariants as sources
use Rattle.simplex_transcript.specs.declared.node.Node.{Node}
use Rattle.simplex_transcript.specs.declared.node.Ref.{Ref}
use Rattle.model_run.specs.Kinds.{is_same_node}
use Rattle.model_run.specs.Life.{Noted}
use Rattle.model_run.specs.Requests.{request_number}
use Rattle.law_run.specs.Complete.{node_named}
use Rattle.model_audit.specs.declared.record.AuditTook.{AuditTook}
use Rattle.model_audit.specs.declared.record.AuditTook.TheVariants as taken
use Rattle.model_audit.specs.declared.record.AuditEntry.{AuditEntry}
pub use Rattle.model_audit.specs.Answers.{answer_fits}
use Rattle.model_audit.specs.Running.{asked_at, is_same_ref}

-- ---- how it ended

abbrev pub is_cut : Stop → Bool
is_cut (stops.Cut call keep) = true
is_cut _ = false

abbrev pub is_fail : Stop → Bool
is_fail (stops.Fail call keep) = true
is_fail _ = false

abbrev pub stop_of : Event → Stop
stop_of (events.Start node floor stop) = stop
stop_of (events.Step node source stop) = stop
stop_of _ = stops.None

abbrev pub may_idle : Event → Bool
may_idle (events.Step node source stop) = true
may_idle (events.Crash node) = true
may_idle _ = false

abbrev pub may_be_refused : Event → Bool
may_be_refused (events.Deliver node at) = true
may_be_refused _ = false

-- a broken entry has a stop of its kind, only a step or a crash is idle, and only a packet is refused
abbrev pub outcome_fits : Event → Outcome → Bool
outcome_fits event outcomes.Done = true
outcome_fits event outcomes.Idle = may_idle event
outcome_fits event outcomes.Cut = is_cut (stop_of event)
outcome_fits event outcomes.Journal = is_fail (stop_of event)
outcome_fits event outcomes.Refused = may_be_refused event

-- ---- what it took

abbrev pub is_nothing : AuditTook → Bool
is_nothing taken.Nothing = true
is_nothing _ = false

-- a request whose answer a step from this source takes
abbrev pub is_for : StepSource → Asked → Bool
is_for sources.Propose (asks.Prepare context) = true
is_for sources.Propose (asks.Propose context) = true
is_for sources.Verify (asks.Verify context payload) = true
is_for sources.Certify (asks.Certify round payload) = true
is_for _ _ = false

-- the node asked it since its last start
abbrev pub was_asked : List Noted → Node → Ref → Bool
was_asked before node at = is_some (request_number before node at)

abbrev pub request_fits : List Noted → Node → StepSource → Ref → Answer → Bool
request_fits before node source at answer =
    was_asked before node at && option_map_or (λ asked. is_for source asked && answer_fits asked answer) (asked_at before at) false

abbrev pub step_took_fits : List Noted → Node → StepSource → AuditTook → Bool
step_took_fits before node sources.Timer taken.Timer = true
step_took_fits before node sources.Fetch taken.Timer = true
step_took_fits before node sources.Batcher taken.OtherMail = true
step_took_fits before node sources.Resolver taken.OtherMail = true
step_took_fits before node sources.Handler taken.OtherMail = true
step_took_fits before node sources.Voter (taken.Proposal proposal) = true
step_took_fits before node sources.Voter (taken.Timeout round reason) = true
step_took_fits before node sources.Voter (taken.Certificate certificate) = true
step_took_fits before node source (taken.Request at answer) = request_fits before node source at answer
step_took_fits before node source took = false

-- an entry that is not idle
abbrev pub took_fits : List Noted → Event → AuditTook → Bool
took_fits before (events.Start node floor stop) taken.Floor = true
took_fits before (events.Deliver node at) (taken.Packet other) = is_same_ref at other
took_fits before (events.Step node source stop) took = step_took_fits before node source took
took_fits before (events.Tick ms) took = is_nothing took
took_fits before (events.Answer node at answer) took = is_nothing took
took_fits before (events.Crash node) took = is_nothing took
took_fits before (events.Inject member channel to bytes) took = is_nothing took
took_fits before event took = false

abbrev pub took_or_idle : List Noted → Event → Outcome → AuditTook → Bool
took_or_idle before event outcomes.Idle took = is_nothing took
took_or_idle before event outcome took = took_fits before event took

-- ---- what it lists

-- nothing was added, asked or dropped
abbrev pub adds_nothing : AuditEntry → Bool
adds_nothing e = length e.added == 0 && length e.asked == 0 && length e.dropped == 0

-- nor was a call made or a packet sent
abbrev pub lists_nothing : AuditEntry → Bool
lists_nothing e = adds_nothing e && length e.calls == 0 && length e.packets == 0

-- an idle or a refused entry lists nothing, and a broken one its calls and packets alone
abbrev pub lists_fit : Outcome → AuditEntry → Bool
lists_fit outcomes.Done e = true
lists_fit outcomes.Idle e = lists_nothing e
lists_fit outcomes.Cut e = adds_nothing e
lists_fit outcomes.Journal e = adds_nothing e
lists_fit outcomes.Refused e = lists_nothing e

-- its number is its place, its node the one that the event names, and it ended, took and lists what such an event may
unfoldable pub fits : List Noted → Event → AuditEntry → Bool
fits before event e =
    e.event == length before + 1 && option_eq is_same_node e.who (node_named event)
    && outcome_fits event e.outcome && took_or_idle before event e.outcome e.took && lists_fit e.outcome e
