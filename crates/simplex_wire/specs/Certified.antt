-- When a certificate verifies, and what assembling one gives.
use Rattle.std.specs.Prelude.{ℕ, ◌≡◌, ◌&&◌, Bool, List, length, Result, Ok, Err, nat_lt, nat_le, if◌then◌else◌}
use Rattle.std.specs.List.{list_all}
use Rattle.simplex_values.specs.Quorum.{quorum_of}
use Rattle.simplex_wire.specs.declared.attestation.Attestation.{Attestation}
use Rattle.simplex_wire.specs.declared.scheme.AssemblyError.{AssemblyError}
use Rattle.simplex_wire.specs.declared.scheme.AssemblyError.TheVariants.{NotEnough, RecoveryFailed, Memory}
use Rattle.simplex_wire.specs.Signatures.{rises_from}

-- a quorum of n members, in strictly rising order, each of whose attestations verifies
unfoldable pub is_certified : (Attestation → Bool) → ℕ → List Attestation → Bool
is_certified verifies n attestations =
    nat_le (quorum_of n) (length attestations) && rises_from 0 attestations
    && list_all (λ a. nat_lt a.signer n && verifies a) attestations

-- what assembling these attestations of n members gives, where a certificate can be recovered or not
abbrev pub assembled : Bool → ℕ → List Attestation → Result (List Attestation) AssemblyError
assembled recovers n attestations =
    if nat_lt (length attestations) (quorum_of n) then Err NotEnough
    else if recovers then Ok attestations else Err RecoveryFailed

-- what was answered is this, unless memory ran out
abbrev pub IsAssembled : {A : Type 0} → Result A AssemblyError → Result A AssemblyError → Type 0
IsAssembled (Ok x) answer = answer ≡ Ok x
IsAssembled (Err Memory) answer = Unit {0}
IsAssembled (Err NotEnough) answer = answer ≡ Err NotEnough
IsAssembled (Err RecoveryFailed) answer = answer ≡ Err RecoveryFailed
