-- The text of balances.
use Rattle.std.specs.Prelude.{ℕ, List, ◌++◌, ◌∷◌, [], length, sum, flat_map, codes, decimal}
use Rattle.std.specs.List.{enumerate_from}
use Rattle.simplex_text.specs.Lines.{pieces}
use Rattle.simplex_transcript.specs.declared.node.Node.{Node}
use Rattle.model_log.specs.declared.entry.LogEntry.{LogEntry}
use Rattle.model_ledger.specs.Ledger.{balances_at}

-- a node with the height of its log and the sum of its balances
abbrev pub node_line : Node → ℕ → ℕ → List ℕ
node_line node height total =
    pieces (codes "node " ∷ decimal node.member ∷ codes "." ∷ decimal node.half ∷ codes " height " ∷ decimal height ∷ codes " total " ∷ decimal total ∷ codes "\n" ∷ [])

-- an account, from 0, and its balance
abbrev pub account_line : ℕ × ℕ → List ℕ
account_line placed = pieces (codes "account " ∷ decimal placed.0 ∷ codes " " ∷ decimal placed.1 ∷ codes "\n" ∷ [])

abbrev pub balance_lines : List ℕ → List ℕ
balance_lines balances = flat_map account_line (enumerate_from 0 balances)

-- the balances that the whole log of a node gives
abbrev pub final_balances : List (List ℕ) → List ℕ → List LogEntry → List ℕ
final_balances blocks accounts log = balances_at blocks accounts log (length log)

abbrev pub log_lines : List (List ℕ) → List ℕ → Node × List LogEntry → List ℕ
log_lines blocks accounts log =
    node_line log.0 (length log.1) (sum (final_balances blocks accounts log.1)) ++ balance_lines (final_balances blocks accounts log.1)

-- node by node
unfoldable pub lines_of : List (List ℕ) → List ℕ → List (Node × List LogEntry) → List ℕ
lines_of blocks accounts logs = flat_map (log_lines blocks accounts) logs
