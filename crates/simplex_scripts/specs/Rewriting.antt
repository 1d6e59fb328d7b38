-- A script with what came out.
use Rattle.std.specs.Prelude.{ℕ, ◌+◌, ◌==◌, ◌&&◌, Bool, true, false, List, [], ◌∷◌, ◌++◌, codes, length, if◌then◌else◌}
use Rattle.std.specs.Str.Lines.{lines as lines_in}
use Rattle.simplex_messages.specs.declared.step.Outcome.{Outcome}
use Rattle.simplex_messages.specs.declared.step.Outcome.TheVariants as outcomes
use Rattle.simplex_transcript.specs.declared.entry.Entry.{Entry}
use Rattle.simplex_transcript.specs.declared.event.Event.{Event}
use Rattle.simplex_script.specs.Lines.{is_told}
use Rattle.simplex_trace.specs.Trace.{line_of}

abbrev pub is_done : Outcome → Bool
is_done outcomes.Done = true
is_done _ = false

-- nothing came of the event
abbrev pub is_quiet : Entry → Bool
is_quiet entry =
    (((length entry.calls == 0 && length entry.handed == 0) && length entry.asked == 0) && length entry.packets == 0)
    && is_done entry.outcome

-- what came of an event, behind a bar
abbrev pub told_of : Event → Entry → List ℕ
told_of event entry = if is_quiet entry then [] else codes "  | " ++ line_of event entry

-- what came of the events of a line
abbrev pub told_below : ℕ → List ℕ → List Event → List Entry → List ℕ
told_below number (line ∷ lines) (event ∷ events) (entry ∷ entries) =
    (if line == number then told_of event entry else []) ++ told_below number lines events entries
told_below number _ _ _ = []

-- a line, with what came of its events below; nothing, if it tells what came out before
abbrev pub told_at : ℕ → List ℕ → List ℕ → List Event → List Entry → List ℕ
told_at number line lines events entries =
    if is_told line then [] else (line ++ codes "\n") ++ told_below number lines events entries

-- the lines behind so many others
abbrev pub rewritten_from : ℕ → List (List ℕ) → List ℕ → List Event → List Entry → List ℕ
rewritten_from number [] lines events entries = []
rewritten_from number (line ∷ others) lines events entries =
    told_at (number + 1) line lines events entries ++ rewritten_from (number + 1) others lines events entries

-- the text, with what came of the events below the lines that they are of
unfoldable pub rewritten : List ℕ → List ℕ → List Event → List Entry → List ℕ
rewritten text lines events entries = rewritten_from 0 (lines_in text) lines events entries
