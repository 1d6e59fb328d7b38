-- The candidates of one kind: those found valid, and those not checked.
use Rattle.std.specs.Prelude.{ℕ, ◌+◌, nat_le, Bool, not, List, length, map, filter}
use Rattle.simplex_wire.specs.declared.attestation.Attestation.{Attestation}

pub record Pool : Type 0 where
  pub quorum : ℕ
  pub valid : List Attestation
  pub waiting : List Attestation

-- whether so many candidates stand as a quorum has
abbrev pub is_ready : Pool → Bool
is_ready pool = nat_le pool.quorum (length pool.valid + length pool.waiting)

-- the signers of those that do not verify
abbrev pub invalid_signers : (Attestation → Bool) → List Attestation → List ℕ
invalid_signers verifies attestations =
    map (λ (a : Attestation). a.signer) (filter (λ a. not (verifies a)) attestations)
