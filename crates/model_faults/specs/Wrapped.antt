-- Schemes that fail their member.
use Rattle.std.specs.Prelude.{ℕ, ◌+◌, ◌/◌, ◌%◌, ◌^◌, Bool, false, not, List, ◌++◌, map, bit_xor, slice_index, slice_set, Option, find, option_and_then}
use Rattle.std.specs.List.{range_with_len}
use Rattle.sha2.specs.Sha256.{sha256}
use Rattle.simplex_values.specs.declared.proposal.Subject.{Subject}
use Rattle.simplex_wire.specs.declared.attestation.Attestation.{Attestation}
use Rattle.simplex_wire.specs.Number.{varint}
use Rattle.model_faults.specs.declared.behavior.Behavior.{Behavior}
use Rattle.model_faults.specs.declared.behavior.Behavior.TheVariants as behaviors

-- the bytes with one bit turned: bit k is bit k mod 8, from the lowest, of byte k / 8
unfoldable pub turned : ℕ → List ℕ → List ℕ
turned bit bytes = slice_set bytes (bit / 8) (bit_xor (slice_index bytes (bit / 8)) (2 ^ (bit % 8)))

-- the bit that is turned first: the last byte of a digest of signer and signature
unfoldable pub first_bit : Attestation → ℕ
first_bit a = slice_index (sha256 (varint a.signer ++ a.signature)) 31

-- the attestation with each of its 256 bits turned, from the first, cyclically
abbrev pub with_turned : Attestation → ℕ → Attestation
with_turned a bit = record a { signature = turned bit a.signature }

unfoldable pub all_turned : Attestation → List Attestation
all_turned a = map (λ place. with_turned a ((first_bit a + place) % 256)) (range_with_len 0 256)

-- the first of them that does not verify
unfoldable pub corrupted : (Attestation → Bool) → Attestation → Option Attestation
corrupted verifies a = find (λ changed. not (verifies changed)) (all_turned a)

-- what a wrapped scheme attests of a subject
unfoldable pub wrapped_attests : Behavior → (Subject → Option Attestation)
    → (Subject → Attestation → Bool) → Subject → Option Attestation
wrapped_attests behaviors.CorruptSignature attests verifies subject =
    option_and_then (corrupted (verifies subject)) (attests subject)
wrapped_attests _ attests verifies subject = attests subject

-- whether it recovers certificates
abbrev pub wrapped_recovers : Behavior → Bool → Bool
wrapped_recovers behaviors.RecoveryFailure recovers = false
wrapped_recovers _ recovers = recovers
