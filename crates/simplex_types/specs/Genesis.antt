-- The payload of view 0.
use Rattle.std.specs.Prelude.{ℕ, List, ◌∷◌, ◌++◌, codes}
use Rattle.sha2.specs.Sha256.{sha256}
use Rattle.simplex_wire.specs.Number.{varint}

-- the genesis digest of an epoch
unfoldable pub genesis_of : ℕ → List ℕ
genesis_of epoch = sha256 (7 ∷ codes "genesis" ++ varint epoch)
