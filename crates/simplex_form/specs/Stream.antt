-- What a text of tokens begins with, and the usual spelling of an input.
use Rattle.std.specs.Prelude.{◌≡◌, ℕ, ◌≤◌, List, [], ◌∷◌, length, codes, true, Some, Ok}
use Rattle.json.specs.Token.{Token}
use Rattle.json.specs.Json as json
use Rattle.serde_json.specs.Data.{Num, Data, Items, Members, array, object}
use Rattle.serde_json.specs.Find.{at, as_u64, as_str}
use Rattle.serde_json.specs.Read.{of_json, of_items, of_members}
use Rattle.serde_json.specs.Read as read
use Rattle.simplex_form.specs.declared.input.Input.{Input}
use Rattle.simplex_form.specs.Form.{◌>>=◌, has_items, number_of, list_from}
use Rattle.simplex_form.specs.Setup.{setup_of}
use Rattle.simplex_transcript.specs.declared.event.Event.{Event}
use Rattle.simplex_transcript.specs.declared.event.StepSource.{StepSource}
use Rattle.simplex_names.specs.Names.{source_of}
use Rattle.simplex_form.specs.Events.{event_of}

-- the text begins with a value that nests no deeper and is this data, and goes on with the rest
abbrev pub Reads : ℕ → List Token → Data → List Token → Type 0
Reads depth text d rest = (j : json.Json) × (json.value depth text ≡ Some (j, rest)) × (of_json j ≡ Some d)

-- the same of at most so many items, and the bracket that closes their list
abbrev pub ReadsItems : ℕ → ℕ → List Token → Items → List Token → Type 0
ReadsItems depth most text ds rest =
    (js : json.Items) × (json.items (json.value depth) most text ≡ Some (js, rest)) × (of_items js ≡ Some ds)

-- the same of members, which are put into an object
abbrev pub ReadsMembers : ℕ → ℕ → List Token → Members → Members → List Token → Type 0
ReadsMembers depth most text old ms rest =
    (js : json.Members) × (json.members (json.value depth) most text ≡ Some (js, rest)) × (of_members js old ≡ Some ms)

-- the text begins with the rest of the members of an event, of which these stand before it, and goes on with what is
-- left
abbrev pub ReadsRest : List Token → Members → Members → List Token → Type 0
ReadsRest text old ms rest = (n : ℕ) → length text ≤ n → ReadsMembers 124 n text old ms rest

-- the text begins with the rest of the members of this event, of which these stand before it, and goes on with what is
-- left
abbrev pub EndsEvent : List Token → Members → List Token → Event → Type 0
EndsEvent text old rest event = (ms : Members) × ReadsRest text old ms rest × (event_of (object ms) ≡ Some event)

-- the text begins with a number that is whole, from 0 and below 2^64, and goes on with the rest
abbrev pub TakesNumber : List Token → ℕ → List Token → Type 0
TakesNumber text n rest =
    (s : List ℕ) × (x : Num) × (text ≡ Token.number s ∷ rest) × (read.number_of s ≡ Some x) × (as_u64 x ≡ Some n)

-- a list of these two numbers
abbrev pub IsPair : Data → ℕ → ℕ → Type 0
IsPair d a b = (has_items 2 d ≡ true) × ((at 0 d >>= number_of) ≡ Some a) × ((at 1 d >>= number_of) ≡ Some b)

-- the text of what a step takes from
abbrev pub IsSource : Data → StepSource → Type 0
IsSource d source = (as_str d >>= source_of) ≡ Some source

-- an object of the setup and then the events, and nothing behind it
abbrev pub IsUsual : List Token → Input → Type 0
IsUsual text input =
    (d : Data) × (ds : Items) × (first second : List Token)
    × (text ≡ Token.begin_object ∷ Token.key (codes "setup") ∷ first)
    × Reads 126 first d (Token.key (codes "events") ∷ second)
    × Reads 126 second (array ds) (Token.end_object ∷ [])
    × (setup_of d ≡ Some input.setup) × (list_from event_of 2 ds ≡ Ok input.events)
