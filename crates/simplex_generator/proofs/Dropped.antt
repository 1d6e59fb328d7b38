-- Events that name no node drop no requests.
use Rattle.std.proofs.Common.{◌≡◌, false, not, List, [], ◌∷◌, ◌++◌, refl, sym, ap, ◌∙◌, append-nil}
use Rattle.std.specs.Prelude.{filter, None, ℕ}
use Rattle.std.specs.Option.{option_map_or}
use Rattle.simplex_transcript.specs.declared.node.Node.{Node}
use Rattle.simplex_transcript.specs.declared.event.Event.{Event}
use Rattle.simplex_transcript.specs.declared.event.Event.TheVariants as events
use Rattle.simplex_transcript.specs.declared.entry.Entry.{Entry}
use Rattle.model_run.specs.Life.{is_of}
use Rattle.simplex_generator.specs.declared.unanswered.Unanswered.{Unanswered}
use Rattle.simplex_generator.specs.Unanswered.{node_in, is_ended_by, is_dropped_in, asked_from, asked_in, unanswered_behind}

not_of : (event : Event) (it : Unanswered) → node_in event ≡ None → is_of it.node event ≡ false
not_of (events.Start node floor stop) it none = absurd (cc)
not_of (events.Deliver node packet) it none = absurd (cc)
not_of (events.Step node source stop) it none = absurd (cc)
not_of (events.Answer node request answer) it none = absurd (cc)
not_of (events.Crash node) it none = absurd (cc)
not_of (events.Tick ms) it none = refl
not_of (events.Inject member channel to bytes) it none = refl

pub none_dropped : (event : Event) (entry : Entry) (waiting : List Unanswered) → node_in event ≡ None → filter (λ it. not (is_dropped_in event entry it)) waiting ≡ waiting
none_dropped event entry [] none = refl
none_dropped event entry (it ∷ waiting) none = rw (not_of event it none) (ap (λ rest. it ∷ rest) (none_dropped event entry waiting none))

-- such an event only ends requests
pub none_asked : (event : Event) (entry : Entry) (first : Node → ℕ) (before : List Unanswered) → node_in event ≡ None
    → filter (λ it. not (is_ended_by event it)) before ≡ unanswered_behind event entry first before
unfolding unanswered_behind
none_asked event entry first before none =
    let left = filter (λ it. not (is_ended_by event it)) before in
    let nothing : asked_in event entry first ≡ [] = ap (λ o. option_map_or (λ node. asked_from node entry.event 0 (first node) entry.asked) o []) none in
    sym (ap (λ more. filter (λ it. not (is_dropped_in event entry it)) (left ++ more)) nothing ∙ none_dropped event entry (left ++ []) none ∙ append-nil left)
