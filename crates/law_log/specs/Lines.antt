-- The text of logs.
use Rattle.std.specs.Prelude.{ℕ, List, ◌∷◌, [], flat_map, codes, decimal}
use Rattle.std.specs.List.{enumerate_from}
use Rattle.hex.specs.Hex.{encode_lower}
use Rattle.simplex_text.specs.Lines.{pieces}
use Rattle.simplex_transcript.specs.declared.node.Node.{Node}
use Rattle.model_log.specs.declared.entry.LogEntry.{LogEntry}

-- the line of a log's entry at this place, from 1
abbrev pub entry_line : Node → ℕ × LogEntry → List ℕ
entry_line node placed =
    pieces (codes "node " ∷ decimal node.member ∷ codes "." ∷ decimal node.half ∷ codes " log " ∷ decimal placed.0
    ∷ codes " view " ∷ decimal placed.1.view ∷ codes " payload " ∷ encode_lower placed.1.payload ∷ codes "\n" ∷ [])

-- log by log, each from its first entry on
unfoldable pub lines_of : List (Node × List LogEntry) → List ℕ
lines_of logs = flat_map (λ log. flat_map (entry_line log.0) (enumerate_from 1 log.1)) logs
