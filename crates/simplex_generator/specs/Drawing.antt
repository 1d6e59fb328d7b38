-- The events that a number makes, where it is given which nodes run and what holds something.
use Rattle.std.specs.Prelude.{ℕ, ◌+◌, ◌-◌, ◌/◌, ◌%◌, ◌==◌, nat_lt, true, List, ◌∷◌, [], length, filter, take, Option, Some, None, if◌then◌else◌}
use Rattle.std.specs.Int.{w64, to_be_bytes}
use Rattle.std.specs.List.{slice_get, list_any}
use Rattle.std.specs.Option.{option_map, unwrap_or}
use Rattle.sha2.specs.Sha256.{sha256}
use Rattle.simplex_values.specs.declared.answer.Answer.TheVariants as answers
use Rattle.simplex_values.specs.declared.answer.Handoff.TheVariants as handoffs
use Rattle.model_rules.specs.declared.request.Asked.{Asked}
use Rattle.model_rules.specs.declared.request.Asked.TheVariants as asks
use Rattle.simplex_messages.specs.declared.step.Stop.TheVariants as stops
use Rattle.simplex_transcript.specs.declared.event.Event.{Event}
use Rattle.simplex_transcript.specs.declared.event.Event.TheVariants as events
use Rattle.simplex_transcript.specs.declared.event.StepSource.{StepSource}
use Rattle.simplex_transcript.specs.declared.event.StepSource.TheVariants as sources
use Rattle.simplex_transcript.specs.declared.node.Node.{Node}
use Rattle.model_faults.specs.Words.{Words, words_of, list_seed}
use Rattle.model_run.specs.Kinds.{is_same_node, node_of}
use Rattle.model_run.specs.Life.{Noted}
use Rattle.simplex_generator.specs.declared.source.Held.{Held}
use Rattle.simplex_generator.specs.declared.undelivered.Parcel.{Parcel}
use Rattle.simplex_generator.specs.declared.unanswered.Unanswered.{Unanswered}
use Rattle.simplex_generator.specs.Setup.{engine_nodes}
use Rattle.simplex_generator.specs.Undelivered.{undelivered}
use Rattle.simplex_generator.specs.Unanswered.{unanswered}

-- the sources of a node's steps, in order
abbrev pub all_sources : List StepSource
all_sources = sources.Batcher ∷ sources.Voter ∷ sources.Timer ∷ sources.Propose ∷ sources.Verify ∷ sources.Certify
    ∷ sources.Resolver ∷ sources.Handler ∷ sources.Fetch ∷ []

-- ---- what is drawn: the item at the place, modulo how many there are; and time passes where there is none

abbrev pub item_at : {A : Type 0} → List A → ℕ → Option A
item_at items place = slice_get items (place % length items)

abbrev pub pause : Event
pause = events.Tick 50

-- the first 64 packets that were not delivered to nodes that run
unfoldable pub deliveries : (running : List Node) → List Noted → List Parcel
deliveries running before =
    take 64 (filter (λ parcel. list_any (is_same_node parcel.node) running) (undelivered before))

abbrev pub delivery : Parcel → Event
delivery parcel = events.Deliver parcel.node parcel.packet

abbrev pub delivery_at : (running : List Node) → List Noted → (place : ℕ) → Event
delivery_at running before place = unwrap_or (option_map delivery (item_at (deliveries running before) place)) pause

abbrev pub step : Held → Event
step it = events.Step it.node it.source stops.None

abbrev pub step_at : List Held → (place : ℕ) → Event
step_at held place = unwrap_or (option_map step (item_at held place)) pause

-- an event, and how many words it took
pub record Drawn : Type 0 where
  pub event : Event
  pub words : ℕ

abbrev pub without_words : Event → Drawn
without_words event = record { event = event; words = 0 }

-- with the word that it was drawn by
abbrev pub behind_word : Drawn → Drawn
behind_word drawn = record { event = drawn.event; words = 1 + drawn.words }

-- the digest of a word
abbrev pub drawn_digest : ℕ → List ℕ
drawn_digest word = sha256 (to_be_bytes w64 word)

-- yes; or the digest of the next word, staged where a payload of the next term is asked for
abbrev pub reply : Unanswered → (next : ℕ) → Asked → Drawn
reply it next (asks.Prepare context) =
    record {
      event = events.Answer it.node it.request (answers.Handoff (handoffs.Stage (drawn_digest next)));
      words = 1;
    }
reply it next (asks.Propose context) =
    record { event = events.Answer it.node it.request (answers.Payload (drawn_digest next)); words = 1 }
reply it next _ = without_words (events.Answer it.node it.request (answers.Verdict true))

abbrev pub reply_to : (next : ℕ) → Option Unanswered → Drawn
reply_to next (Some it) = reply it next it.asked
reply_to next None = without_words pause

abbrev pub answer_at : List Noted → (place next : ℕ) → Drawn
answer_at before place next = reply_to next (item_at (unanswered before) place)

-- Of eight parts three deliver, three step, one answers, and in the last time passes
abbrev pub drawn_by : (running : List Node) → List Held → List Noted → (part place next : ℕ) → Drawn
drawn_by running held before part place next =
    if nat_lt part 3 then without_words (delivery_at running before place)
    else if nat_lt part 6 then without_words (step_at held place)
    else if part == 6 then answer_at before place next
    else without_words pause

-- by the word at a place, and the next
unfoldable pub drawn : (running : List Node) → List Held → List Noted → Words → ℕ → Drawn
drawn running held before words at =
    behind_word (drawn_by running held before (words at % 8) (words at / 8) (words (at + 1)))

-- ---- one event

abbrev pub started : Node → Event
started node = events.Start node None stops.None

-- one of the honest members in turn
abbrev pub in_turn : ℕ → Node
in_turn count = node_of (count % 5)

-- the clock behind an event
abbrev pub clock_behind : Event → ℕ → ℕ
clock_behind (events.Tick ms) clock = clock + ms
clock_behind _ clock = clock

-- the event behind these entries, with words from this place on. First all engines start; every 600 events an honest member
-- crashes, and starts again
unfoldable pub next_event : (running : List Node) → List Held → (number : ℕ) → List Noted → ℕ → Drawn
next_event running held number before at =
    (let event = length before + 1 in
    if nat_lt event 8 then without_words (started (unwrap_or (slice_get engine_nodes (event - 1)) (node_of 0)))
    else if event % 600 == 0 then without_words (events.Crash (in_turn (event / 600)))
    else if event % 600 == 1 then without_words (started (in_turn (event / 600)))
    else drawn running held before (words_of (list_seed number)) at)
