-- Events that are left of a list.
use Rattle.std.specs.Prelude.{◌≡◌, ◌⊎◌, List, [], ◌∷◌, ◌++◌, Option, Some, None}
use Rattle.simplex_transcript.specs.declared.event.Event.{Event}
use Rattle.simplex_transcript.specs.declared.event.Event.TheVariants as events

-- the event without the number of the one whose packet or request it names
abbrev pub unnumbered : Event → Event
unnumbered (events.Deliver node packet) = events.Deliver node (record packet { event = 0 })
unnumbered (events.Answer node request answer) = events.Answer node (record request { event = 0 }) answer
unnumbered event = event

-- These are some of the events, in their order. Each is as it was, but for the numbers of the events that it names
unfoldable pub IsPartOf : List Event → List Event → Type 0
IsPartOf [] whole = Unit {0}
IsPartOf (x ∷ xs) [] = ⊥
IsPartOf (x ∷ xs) (y ∷ ys) = ((unnumbered x ≡ unnumbered y) × IsPartOf xs ys) ⊎ IsPartOf (x ∷ xs) ys

-- with this event last, if there is one
abbrev pub with_last : List Event → Option Event → List Event
with_last xs None = xs
with_last xs (Some x) = xs ++ x ∷ []
