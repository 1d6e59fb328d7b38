-- Logs whose blocks are all sound.
use Rattle.std.specs.Prelude.{ℕ, List, Contains}
use Rattle.simplex_transcript.specs.declared.node.Node.{Node}
use Rattle.model_log.specs.declared.entry.LogEntry.{LogEntry}
use Rattle.simplex_ledger.specs.Book.{AreSound}

-- each payload of each log has a sound block
abbrev pub AllAreSound : List (List ℕ) → List (Node × List LogEntry) → Type 0
AllAreSound blocks logs = (log : Node × List LogEntry) → Contains logs log → AreSound blocks log.1
