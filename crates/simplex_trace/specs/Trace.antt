-- A run, line by line.
use Rattle.std.specs.Prelude.{ℕ, List, [], ◌∷◌, ◌++◌, codes, decimal}
use Rattle.simplex_transcript.specs.declared.event.Event.{Event}
use Rattle.simplex_transcript.specs.declared.entry.Entry.{Entry}
use Rattle.simplex_text.specs.Lines.{pieces}
use Rattle.simplex_trace.specs.Deeds.{deed_text}
use Rattle.simplex_trace.specs.Items.{items_of}

-- an event of this number: what it was
abbrev pub deed_line : ℕ → Event → List ℕ
deed_line number event = pieces (decimal number ∷ codes " " ∷ deed_text event ∷ codes "\n" ∷ [])

-- an event and its entry: the event's number, what it was, and what came of it
abbrev pub line_of : Event → Entry → List ℕ
line_of event entry = pieces (decimal entry.event ∷ codes " " ∷ deed_text event ∷ items_of entry ∷ codes "\n" ∷ [])

-- of events and the entries that they made, one each
unfoldable pub lines_of : List Event → List Entry → List ℕ
lines_of (event ∷ events) (entry ∷ entries) = line_of event entry ++ lines_of events entries
lines_of events entries = []
