-- Which entries a drawing stands for.
use Rattle.std.specs.Prelude.{◌≡◌, ◌+◌, ℕ, List, ◌∷◌, length}
use Rattle.rand_core.specs.Steps.{stream_of, steps_u32}
use Rattle.rand_chacha.specs.ChaCha.{next_word}
use Rattle.simplex_transcript.specs.declared.event.Event.{Event}
use Rattle.simplex_transcript.specs.declared.entry.Entry.{Entry}
use Rattle.simplex_transcript.specs.declared.node.Node.{Node}
use Rattle.model_faults.specs.Words.{Words, Draws, words_of, list_seed}
use Rattle.model_run.specs.Life.{Noted, clock_of}
use Rattle.model_run.specs.Requests.{asked_since}
use Rattle.simplex_generator.specs.declared.choice.Choice.{Choice}
use Rattle.simplex_generator.specs.declared.choice.Choice.TheVariants as choices
use Rattle.simplex_generator.specs.declared.drawing.Drawing.{Drawing}
use Rattle.simplex_generator.specs.declared.source.Held.{Held}
use Rattle.simplex_generator.specs.Undelivered.{undelivered}
use Rattle.simplex_generator.specs.Unanswered.{unanswered, count_in}
use Rattle.simplex_generator.specs.Drawing.{Drawn, delivery_at, step_at, next_event}

-- the number's drawing took in these entries, the newest first, and draws words from this place on
pub record DrawsBehind (drawing : Drawing) (number : ℕ) (before : List Noted) (at : ℕ) : Type 0 where
  pub undelivered : drawing.undelivered ≡ undelivered before
  pub waiting : drawing.requests.open.items ≡ unanswered before
  pub counts : (node : Node) → count_in drawing.requests.counts.items node ≡ asked_since before node
  pub clock : drawing.clock ≡ clock_of before
  pub next : drawing.next ≡ length before + 1
  pub words : Draws (stream_of (steps_u32 (next_word 4)) drawing.random) (words_of (list_seed number)) at

-- whatever the drawing took in, the event is what the rule draws behind it, with the number's words from this place on
abbrev pub Gives : Drawing → (List Noted → Words → ℕ → Drawn) → Event → Type 0
Gives drawing rule event =
    (number : ℕ) (before : List Noted) (at : ℕ) → DrawsBehind drawing number before at
    → event ≡ (rule before (words_of (list_seed number)) at).event

-- and the drawing goes on behind the words that the rule took
abbrev pub GoesOn : Drawing → Drawing → (List Noted → Words → ℕ → Drawn) → Type 0
GoesOn old new rule =
    (number : ℕ) (before : List Noted) (at : ℕ) → DrawsBehind old number before at
    → DrawsBehind new number before (at + (rule before (words_of (list_seed number)) at).words)

-- the event that a choice comes to
abbrev pub chosen : (running : List Node) → List Held → List Noted → Choice → Event
chosen running held before (choices.Event event) = event
chosen running held before (choices.Delivery place) = delivery_at running before place
chosen running held before (choices.Step place) = step_at held place

-- whatever the drawing took in, and whatever runs and holds something, the choice comes to the next event
abbrev pub Chooses : Drawing → Choice → Type 0
Chooses drawing choice =
    (running : List Node) (held : List Held) (number : ℕ) (before : List Noted) (at : ℕ)
    → DrawsBehind drawing number before at
    → chosen running held before choice ≡ (next_event running held number before at).event

-- and it goes on behind the words that the next event took
abbrev pub Chose : Drawing → Drawing → Type 0
Chose old new =
    (running : List Node) (held : List Held) (number : ℕ) (before : List Noted) (at : ℕ)
    → DrawsBehind old number before at
    → DrawsBehind new number before (at + (next_event running held number before at).words)

-- whatever it took in, it took in this event's entry too
abbrev pub TookIn : Drawing → Drawing → Event → Entry → Type 0
TookIn old new event entry =
    (number : ℕ) (before : List Noted) (at : ℕ) (noted : Noted) → DrawsBehind old number before at
    → noted.event ≡ event → noted.entry ≡ entry
    → DrawsBehind new number (noted ∷ before) at
