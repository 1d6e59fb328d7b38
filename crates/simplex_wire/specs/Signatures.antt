-- Lists of attestations with strictly rising signers.
use Rattle.std.specs.Prelude.{ℕ, ◌+◌, ◌<◌, ◌^◌, ◌&&◌, Bool, true, IsTrue, List, [], ◌∷◌, length, nat_le}
use Rattle.simplex_wire.specs.declared.attestation.Attestation.{Attestation}

-- whether each signer is above the one before, and the first is at least this
abbrev pub rises_from : ℕ → List Attestation → Bool
rises_from least [] = true
rises_from least (a ∷ others) = nat_le least a.signer && rises_from (a.signer + 1) others

-- what a certificate lists: fewer than 2^32 attestations, whose signers rise strictly
pub record IsSignatures (attestations : List Attestation) : Type 0 where
  pub rises : IsTrue (rises_from 0 attestations)
  pub count : length attestations < 2 ^ 32
