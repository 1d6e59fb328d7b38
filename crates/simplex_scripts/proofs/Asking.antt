-- Requests that are taken in.
use Rattle.std.proofs.Common.{◌≡◌, ◌+◌, ◌∷◌, [], ℕ, Bool, true, false, List, length, refl, ap, ◌∙◌, if◌then◌else◌, arith}
use mathlib.Core.Path.{fun_ext}
use Rattle.simplex_transcript.specs.declared.node.Node.{Node}
use Rattle.model_run.specs.Life.{Noted, is_of}
use Rattle.model_run.specs.Requests.{asked_since, first_number, is_start}
use Rattle.simplex_generator.specs.declared.unanswered.Requests.{Requests}
use Rattle.simplex_generator.specs.Unanswered.{count_behind, count_in, first_in, unanswered, unanswered_behind}
use Rattle.simplex_scripts.specs.Stands.{Asks}

-- none before any entry
pub asks_none : (requests : Requests) → requests.«open».items ≡ [] → requests.counts.items ≡ [] → Asks requests []
unfolding unanswered count_in asked_since
asks_none requests waiting counts = record { waiting = waiting; counts = λ node. ap (λ l. count_in l node) counts }

-- where the counts are those of the entries, so is the first number, and so are the counts behind one more
first_same : (requests : Requests) (before : List Noted) (noted : Noted) → Asks requests before
    → (node : Node) → first_in noted.event requests.counts.items node ≡ first_number noted before node
first_same requests before noted asks node = by (is_start noted.event)
  where
    by : (b : Bool) → (if b then 0 else count_in requests.counts.items node) ≡ (if b then 0 else asked_since before node)
    by true = refl
    by false = asks.counts node

counted : (requests : Requests) (before : List Noted) (noted : Noted) → Asks requests before
    → (node : Node) → count_behind noted.event noted.entry requests.counts.items node ≡ asked_since (noted ∷ before) node
unfolding count_behind asked_since
counted requests before noted asks node = by (is_of node noted.event) (is_start noted.event)
  where
    by : (of start : Bool)
        → (if of then (if start then 0 else count_in requests.counts.items node) + length noted.entry.asked else count_in requests.counts.items node)
        ≡ (if of then (if start then length noted.entry.asked else length noted.entry.asked + asked_since before node) else asked_since before node)
    by true true = omega arith
    by true false = let same : count_in requests.counts.items node ≡ asked_since before node = asks.counts node in omega (arith, same)
    by false start = asks.counts node

-- those of one entry more
pub asks_more : (old new : Requests) (before : List Noted) (noted : Noted)
    → new.«open».items ≡ unanswered_behind noted.event noted.entry (first_in noted.event old.counts.items) old.«open».items
    → ((node : Node) → count_in new.counts.items node ≡ count_behind noted.event noted.entry old.counts.items node)
    → Asks old before → Asks new (noted ∷ before)
unfolding unanswered
asks_more old new before noted waiting counts asks = record {
  waiting = waiting
      ∙ ap (λ (first : Node → ℕ). unanswered_behind noted.event noted.entry first old.«open».items) (fun_ext (first_same old before noted asks))
      ∙ ap (unanswered_behind noted.event noted.entry (first_number noted before)) asks.waiting;
  counts = λ node. counts node ∙ counted old before noted asks node;
}
