-- What the runs of epochs are, and their chains.
use Rattle.std.specs.Prelude.{ℕ, ◌≡◌, ◌≤◌, List, [], ◌∷◌, Contains, length, Some, Ok}
use Rattle.simplex_transcript.specs.declared.entry.Entry.{Entry}
use Rattle.simplex_transcript.specs.declared.node.Node.{Node}
use Rattle.simplex_transcript.specs.declared.setup.Setup.{Setup}
use Rattle.simplex_types.specs.Genesis.{genesis_of}
use Rattle.model_run.specs.Setting.{setting_of}
use Rattle.model_run.specs.Run.{RunFrom}
use Rattle.law_run.specs.Sayings.{Each}
use Rattle.law_run.specs.Safe.{RunsSafely}
use Rattle.model_log.specs.Fronts.{AreFronts}
use Rattle.law_log.specs.Logs.{log_at, logs_in}
use Rattle.law_run.specs.Rooted.{IsRooted}
use Rattle.model_epochs.specs.Chain.{chain_of, payload_at, closing_payload}
use Rattle.model_epochs.specs.Epochs.{Input, Ran, lists_of, cut_at, member_logs}

-- the epoch's run, from its genesis digest, is safe, and its logs are those of its honest nodes up to the height
pub record IsEpoch (height : ℕ) (input : Input) (ran : Ran) : Type 0 where
  pub made : RunFrom (setting_of input.setup ran.genesis) input.events ≡ Ok ran.entries
  pub safe : RunsSafely (setting_of input.setup ran.genesis) input.events
  pub logs : ran.logs ≡ cut_at height (logs_in input.setup ran.entries)

-- one run for each epoch
unfoldable pub AreEpochs : ℕ → List Input → List Ran → Type 0
AreEpochs height [] [] = Unit {0}
AreEpochs height (input ∷ later) (ran ∷ rest) = IsEpoch height input ran × AreEpochs height later rest
AreEpochs height _ _ = ⊥

-- each request on view 0 names the digest
abbrev pub AllRooted : List ℕ → List Entry → Type 0
AllRooted genesis entries = (entry : Entry) → Contains entries entry → Each (IsRooted genesis) entry.asked

-- in each epoch its own
unfoldable pub EachRooted : List Ran → Type 0
EachRooted [] = Unit {0}
EachRooted (ran ∷ rest) = AllRooted ran.genesis ran.entries × EachRooted rest

-- each log that reaches the height has the payload there that closes the epoch
abbrev pub ClosesAs : ℕ → Setup → List Entry → List ℕ → Type 0
ClosesAs height setup entries digest = (node : Node) → height ≤ length (log_at setup entries node)
    → payload_at height (log_at setup entries node) ≡ Some digest

-- an honest node's log reaches the height, and whichever does has this digest there
pub record IsClosedAs (height : ℕ) (setup : Setup) (entries : List Entry) (digest : List ℕ) : Type 0 where
  pub reached : closing_payload height (lists_of (logs_in setup entries)) ≡ Some digest
  pub closes : ClosesAs height setup entries digest

-- each epoch but the last is closed by the genesis digest of the next
unfoldable pub AreClosed : ℕ → List Input → List Ran → Type 0
AreClosed height (input ∷ next ∷ later) (ran ∷ after ∷ rest) =
    IsClosedAs height input.setup ran.entries after.genesis × AreClosed height (next ∷ later) (after ∷ rest)
AreClosed height _ _ = Unit {0}

-- the first epoch has the genesis digest of its number
unfoldable pub BeginsAtGenesis : List Input → List Ran → Type 0
BeginsAtGenesis (input ∷ later) (ran ∷ rest) = ran.genesis ≡ genesis_of input.setup.epoch
BeginsAtGenesis _ _ = Unit {0}

-- each epoch goes on where the one before was closed
pub record AreLinked (height : ℕ) (inputs : List Input) (rans : List Ran) : Type 0 where
  pub begins : BeginsAtGenesis inputs rans
  pub closed : AreClosed height inputs rans

-- of the chains of any two members one begins the other
abbrev pub ChainsAreFronts : ℕ → List Input → List Ran → Type 0
ChainsAreFronts height inputs rans =
    (a b : ℕ) → AreFronts (chain_of height (member_logs inputs rans a)) (chain_of height (member_logs inputs rans b))

-- the runs of the epochs are safe, their requests name their genesis digests, and their chains are of one
pub record AreChainsOf (height : ℕ) (inputs : List Input) (rans : List Ran) : Type 0 where
  pub epochs : AreEpochs height inputs rans
  pub rooted : EachRooted rans
  pub fronts : ChainsAreFronts height inputs rans
