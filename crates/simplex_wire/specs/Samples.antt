-- Values for samples.
use Rattle.std.specs.Prelude.{ℕ, List, [], ◌∷◌, ◌++◌, replicate}
use Rattle.simplex_wire.specs.declared.attestation.Attestation.{Attestation}

-- an attestation of a member
abbrev pub by : ℕ → Attestation
by member = record { signer = member; signature = replicate 32 member }

-- the spelling of 2^64 - 1: ten bytes, of which the last is 1
abbrev pub greatest_text : List ℕ
greatest_text = replicate 9 255 ++ 1 ∷ []
