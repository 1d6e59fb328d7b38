-- Whether an event could be taken, by the entries before it.
use Rattle.std.specs.Prelude.{ℕ, ◌+◌, ◌-◌, ◌*◌, ◌^◌, ◌==◌, ◌&&◌, ◌||◌, nat_lt, nat_le, Bool, false, not, List, [], ◌∷◌, length, is_some}
use Rattle.std.specs.List.{list_any, list_all}
use Rattle.std.specs.Option.{option_map_or}
use Rattle.simplex_values.specs.Terms.{greatest_view}
use Rattle.simplex_values.specs.declared.answer.Answer.{Answer}
use Rattle.model_rules.specs.Views.{current_of}
use Rattle.simplex_transcript.specs.declared.event.Event.{Event}
use Rattle.simplex_transcript.specs.declared.event.Event.TheVariants as events
use Rattle.simplex_transcript.specs.declared.node.Node.{Node}
use Rattle.simplex_transcript.specs.declared.node.Ref.{Ref}
use Rattle.model_run.specs.Kinds.{members_of, is_node, is_same_node, is_faulty_member, runs_engine}
use Rattle.model_run.specs.Setting.{Setting}
use Rattle.model_run.specs.Life.{Noted, clock_of, is_of}
use Rattle.model_run.specs.Entries.{is_own_floor}
use Rattle.model_run.specs.Requests.{request_number, packet_for}
use Rattle.model_audit.specs.Running.{runs_at, asked_at, is_same_ref}
use Rattle.model_audit.specs.Fitting.{answer_fits}
use Rattle.model_audit.specs.Reading.{rules_at, read}

-- ---- nodes that run. One without an engine always runs, and is at no end

abbrev pub is_running : Setting → List Noted → Node → Bool
is_running setting before node = not (runs_engine setting.setup node.member) || runs_at before node

-- the current view is too near the greatest view
abbrev pub is_at_end : Setting → List Noted → Node → Bool
is_at_end setting before node =
    let r = read setting before node in
    nat_lt (greatest_view - 2 * setting.setup.term - setting.setup.lookahead) (current_of (rules_at setting node r) r.known)

abbrev pub goes_on : Setting → List Noted → Node → Bool
goes_on setting before node = not (runs_engine setting.setup node.member) || not (is_at_end setting before node)

-- ---- requests that are pending

-- the node's request of this number, which was asked in this event, was dropped in it or since
unfoldable pub was_dropped : List Noted → Node → ℕ → ℕ → Bool
was_dropped [] node event number = false
was_dropped (noted ∷ before) node event number =
    (is_of node noted.event && list_any (λ n. n == number) noted.entry.dropped)
    || (not (length before + 1 == event) && was_dropped before node event number)

abbrev pub answers_it : Node → Ref → Event → Bool
answers_it node at (events.Answer other ref answer) = is_same_node node other && is_same_ref at ref
answers_it node at _ = false

abbrev pub was_answered : List Noted → Node → Ref → Bool
was_answered before node at = list_any (λ (noted : Noted). answers_it node at noted.event) before

-- it was asked since the last start, is neither dropped nor answered, and takes such an answer
unfoldable pub is_pending : List Noted → Node → Ref → Answer → Bool
is_pending before node at answer =
    option_map_or (λ number. not (was_dropped before node at.event number)) (request_number before node at) false
    && not (was_answered before node at) && option_map_or (λ asked. answer_fits asked answer) (asked_at before at) false

-- ---- events

unfoldable pub is_allowed : Setting → List Noted → Event → Bool
is_allowed setting before (events.Start node floor stop) =
    is_node setting.setup node && not (is_running setting before node) && is_own_floor setting.setup before floor
is_allowed setting before (events.Tick ms) = nat_le (clock_of before + ms) (2 ^ 63 - 1)
is_allowed setting before (events.Deliver node at) =
    is_node setting.setup node && is_running setting before node && is_some (packet_for before node at) && goes_on setting before node
is_allowed setting before (events.Step node source stop) =
    is_node setting.setup node && is_running setting before node && goes_on setting before node
is_allowed setting before (events.Answer node at answer) =
    is_node setting.setup node && runs_engine setting.setup node.member && runs_at before node && is_pending before node at answer
is_allowed setting before (events.Crash node) = is_node setting.setup node && is_running setting before node
is_allowed setting before (events.Inject member channel to bytes) =
    nat_lt member (members_of setting.setup) && list_all (is_node setting.setup) to && is_faulty_member setting.setup member
