-- The gates of pending records, while they are opened.
use Rattle.std.specs.Prelude.{◌≡◌, ℕ, List, ◌++◌, take, drop}
use Rattle.simplex_wire.specs.declared.artifact.Artifact.{Artifact}
use Rattle.simplex_disk.specs.Calls.{Call}
use Rattle.simplex_disk.specs.Chain.{total, places}
use Rattle.simplex_disk.specs.Left.{HasChain, LeavesChain}

-- The pending records stand whole on the disk, and these are the places of their gates.
pub record Waits (n : ℕ) (synced pending : List Artifact) (gates : List ℕ) (calls : List Call) : Type 0 where
  pub content : HasChain n synced pending calls
  pub left : LeavesChain n synced pending calls
  pub places : gates ≡ places (total synced) pending

-- The first i of them are open.
abbrev pub OpensSome : ℕ → List Artifact → List Artifact → ℕ → List Call → Type 0
OpensSome n synced pending i calls = HasChain n (synced ++ take i pending) (drop i pending) calls
