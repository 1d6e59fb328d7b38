-- What a drawing takes in.
use Rattle.std.proofs.Common.{◌≡◌, ◌+◌, ◌∷◌, ℕ, suc, Bool, true, false, List, length, refl, sym, ap, ◌∙◌, if◌then◌else◌, arith}
use mathlib.Core.Path.{fun_ext}
use Rattle.std.specs.Prelude.{Option}
use Rattle.simplex_transcript.specs.declared.event.Event.{Event}
use Rattle.simplex_transcript.specs.declared.event.Event.TheVariants as events
use Rattle.simplex_transcript.specs.declared.entry.Entry.{Entry}
use Rattle.simplex_transcript.specs.declared.node.Node.{Node}
use Rattle.model_steps.specs.Engine.{Did}
use Rattle.model_run.specs.Life.{Noted, clock_of, is_of}
use Rattle.model_run.specs.Requests.{asked_since, first_number, is_start}
use Rattle.simplex_generator.specs.declared.drawing.Drawing.{Drawing}
use Rattle.simplex_generator.specs.Undelivered.{undelivered, undelivered_behind}
use Rattle.simplex_generator.specs.Unanswered.{unanswered, unanswered_behind, count_in, count_behind, first_in}
use Rattle.simplex_generator.specs.Drawing.{clock_behind}
use Rattle.simplex_generator.specs.Draws.{DrawsBehind, TookIn}

ticked : (event : Event) (entry : Entry) (did : Option Did) (before : List Noted) → clock_behind event (clock_of before) ≡ clock_of (record { event = event; entry = entry; did = did } ∷ before)
unfolding clock_of
ticked (events.Tick ms) entry did before = refl
ticked (events.Start node floor stop) entry did before = refl
ticked (events.Deliver node packet) entry did before = refl
ticked (events.Step node source stop) entry did before = refl
ticked (events.Answer node request answer) entry did before = refl
ticked (events.Crash node) entry did before = refl
ticked (events.Inject member channel to bytes) entry did before = refl

-- where the counts are those of the entries, so is the first number, and so are the counts behind one more
first_same : (drawing : Drawing) (number at : ℕ) (before : List Noted) (noted : Noted) → DrawsBehind drawing number before at
    → (node : Node) → first_in noted.event drawing.requests.counts.items node ≡ first_number noted before node
first_same drawing number at before noted stands node = by (is_start noted.event)
  where
    by : (b : Bool) → (if b then 0 else count_in drawing.requests.counts.items node) ≡ (if b then 0 else asked_since before node)
    by true = refl
    by false = stands.counts node

counted : (drawing : Drawing) (number at : ℕ) (before : List Noted) (noted : Noted) → DrawsBehind drawing number before at
    → (node : Node) → count_behind noted.event noted.entry drawing.requests.counts.items node ≡ asked_since (noted ∷ before) node
unfolding count_behind asked_since
counted drawing number at before noted stands node = by (is_of node noted.event) (is_start noted.event)
  where
    by : (of start : Bool)
        → (if of then (if start then 0 else count_in drawing.requests.counts.items node) + length noted.entry.asked else count_in drawing.requests.counts.items node)
        ≡ (if of then (if start then length noted.entry.asked else length noted.entry.asked + asked_since before node) else asked_since before node)
    by true true = omega arith
    by true false = let same : count_in drawing.requests.counts.items node ≡ asked_since before node = stands.counts node in omega (arith, same)
    by false start = stands.counts node

pub taken_in : (old new : Drawing) (event : Event) (entry : Entry)
    → new.undelivered ≡ undelivered_behind event entry old.undelivered
    → new.requests.«open».items ≡ unanswered_behind event entry (first_in event old.requests.counts.items) old.requests.«open».items
    → ((node : Node) → count_in new.requests.counts.items node ≡ count_behind event entry old.requests.counts.items node)
    → new.clock ≡ clock_behind event old.clock → new.next ≡ old.next + 1 → new.random ≡ old.random → TookIn old new event entry
unfolding undelivered unanswered
taken_in old new event entry sent asked counts clock more random number before at noted stands is says = whole (sym is) (sym says)
  where
    added : (n : ℕ) → n + 1 + 1 ≡ suc n + 1
    added n = omega arith

    whole : event ≡ noted.event → entry ≡ noted.entry → DrawsBehind new number (noted ∷ before) at
    whole e n = record {
      undelivered = sent ∙ ap (λ v. undelivered_behind v entry old.undelivered) e ∙ ap (λ v. undelivered_behind noted.event v old.undelivered) n
          ∙ ap (undelivered_behind noted.event noted.entry) stands.undelivered;
      waiting = asked ∙ ap (λ v. unanswered_behind v entry (first_in v old.requests.counts.items) old.requests.«open».items) e
          ∙ ap (λ v. unanswered_behind noted.event v (first_in noted.event old.requests.counts.items) old.requests.«open».items) n
          ∙ ap (λ first. unanswered_behind noted.event noted.entry first old.requests.«open».items) (fun_ext (first_same old number at before noted stands))
          ∙ ap (unanswered_behind noted.event noted.entry (first_number noted before)) stands.waiting;
      counts = λ node. counts node ∙ ap (λ v. count_behind v entry old.requests.counts.items node) e
          ∙ ap (λ v. count_behind noted.event v old.requests.counts.items node) n ∙ counted old number at before noted stands node;
      clock = clock ∙ ap (λ v. clock_behind v old.clock) e ∙ ap (clock_behind noted.event) stands.clock ∙ ticked noted.event noted.entry noted.did before;
      next = more ∙ ap (λ v. v + 1) stands.next ∙ added (length before);
      words = rw random stands.words;
    }
