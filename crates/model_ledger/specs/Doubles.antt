-- Two blocks with one digest.
use Rattle.std.specs.Prelude.{ℕ, ◌+◌, ◌==◌, List, [], ◌∷◌, Option, Some, None, if◌then◌else◌}
use Rattle.std.specs.Option.{option_map}
use Rattle.sha2.specs.Sha256.{sha256}
use Rattle.model_ledger.specs.declared.transfer.LedgerError.{LedgerError}
use Rattle.model_ledger.specs.declared.transfer.LedgerError.TheVariants.{Double}
use Rattle.model_ledger.specs.Blocks.{has_digest}

-- the place of the first of these blocks that has the digest, from this place on
unfoldable pub place_from : ℕ → List (List ℕ) → List ℕ → Option ℕ
place_from place [] digest = None
place_from place (bytes ∷ rest) digest =
    if has_digest digest bytes then Some place else place_from (place + 1) rest digest

-- an earlier block has the digest, or the next ones are looked at
abbrev pub unless_first : ℕ → Option ℕ → Option (ℕ × ℕ) → Option (ℕ × ℕ)
unless_first place None next = next
unless_first place (Some first) next = if first == place then next else Some (first, place)

-- the first of these places, from this one on, whose block has the digest of an earlier one, behind the first such
unfoldable pub double_from : List (List ℕ) → ℕ → List (List ℕ) → Option (ℕ × ℕ)
double_from blocks place [] = None
double_from blocks place (bytes ∷ rest) =
    unless_first place (place_from 0 blocks (sha256 bytes)) (double_from blocks (place + 1) rest)

-- two places whose blocks have one digest: the second is the least, and then the first
abbrev pub double_of : List (List ℕ) → Option (ℕ × ℕ)
double_of blocks = double_from blocks 0 blocks

-- the fault of two such blocks
abbrev pub double_fault : List (List ℕ) → Option LedgerError
double_fault blocks = option_map (λ d. Double d.0 d.1) (double_of blocks)
