use Rattle.std.proofs.Common.{◌≡◌, ℕ, ◌≤◌, List, ◌++◌, length, Ok}
use Rattle.json.specs.Token.{Token}
use Rattle.serde_json.specs.Data.{Items}
use Rattle.simplex_transcript.specs.declared.event.Event.{Event}
use Rattle.simplex_form.specs.Form.{list_from}
use Rattle.simplex_form.specs.Events.{event_of}
use Rattle.simplex_form.specs.Stream.{ReadsItems}
use Rattle.simplex_form.proofs.stream.read_event_items.Given as goal

-- whatever events the rest says, the whole says those read and then these
abbrev pub invariant-loop-alloc : goal.invariant-loop-alloc
invariant-loop-alloc l =
    (n k : ℕ) × (length l.reader ≤ n)
    × ((ds : Items) (es : List Event) (rest : List Token) → ReadsItems 125 n l.reader ds rest → list_from event_of k ds ≡ Ok es
    → (all : Items) × ReadsItems 125 (length l.initial.reader) l.initial.reader all rest × (list_from event_of 2 all ≡ Ok (l.events ++ es)))

abbrev pub decreases-loop-alloc : goal.decreases-loop-alloc
decreases-loop-alloc l = length l.reader
