-- What the balances of a whole run are.
use Rattle.std.specs.Prelude.{ℕ, ◌≡◌, true, List, Contains, length, sum, take, None}
use Rattle.simplex_transcript.specs.declared.entry.Entry.{Entry}
use Rattle.simplex_transcript.specs.declared.event.Event.{Event}
use Rattle.simplex_transcript.specs.declared.node.Node.{Node}
use Rattle.simplex_transcript.specs.declared.setup.Setup.{Setup}
use Rattle.model_log.specs.declared.entry.LogEntry.{LogEntry}
use Rattle.law_log.specs.Logs.{log_at, logs_in}
use Rattle.law_log.specs.Transcripts.{AreLogsOf}
use Rattle.model_ledger.specs.Blocks.{is_sound}
use Rattle.model_ledger.specs.Ledger.{balances_at}
pub use Rattle.law_ledger.specs.Faults.{ledger_fault}

-- each payload in a log has a sound block
abbrev pub NoneIsMissing : Setup → List Entry → List (List ℕ) → Type 0
NoneIsMissing setup entries blocks = (node : Node) (entry : LogEntry) → Contains (log_at setup entries node) entry → is_sound blocks entry.payload ≡ true

-- the balances at each height of a log have the total and the number of the accounts that were given
pub record IsKept (blocks : List (List ℕ)) (accounts : List ℕ) (log : List LogEntry) (height : ℕ) : Type 0 where
  pub total : sum (balances_at blocks accounts log height) ≡ sum accounts
  pub count : length (balances_at blocks accounts log height) ≡ length accounts

-- logs of one height have the same balances
abbrev pub AgreeByHeight : Setup → List Entry → List (List ℕ) → List ℕ → Type 0
AgreeByHeight setup entries blocks accounts =
    (a b : Node) → length (log_at setup entries a) ≡ length (log_at setup entries b)
    → (height : ℕ) → balances_at blocks accounts (log_at setup entries a) height ≡ balances_at blocks accounts (log_at setup entries b) height

-- these are the logs of the honest nodes: no block is missing, totals are kept, and equal heights have equal balances
pub record IsLedgerOf (setup : Setup) (entries : List Entry) (blocks : List (List ℕ)) (accounts : List ℕ) (logs : List (Node × List LogEntry)) : Type 0 where
  pub of_run : AreLogsOf setup entries logs
  pub sound : NoneIsMissing setup entries blocks
  pub kept : (log : List LogEntry) (height : ℕ) → IsKept blocks accounts log height
  pub agree : AgreeByHeight setup entries blocks accounts
