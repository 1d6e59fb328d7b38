-- Signatures by digests: a member's key is a digest, and a signature is the digest of key and subject.
use Rattle.std.specs.Prelude.{ℕ, zero, suc, List, [], ◌∷◌, ◌++◌, ◌&&◌, Bool, Option, nat_lt, codes}
use Rattle.std.specs.Int.{w32, w64, to_be_bytes}
use Rattle.std.specs.Option.{option_map}
use Rattle.std.specs.Str.{bytes_eq}
use Rattle.sha2.specs.Sha256.{sha256}
use Rattle.simplex_values.specs.declared.proposal.Subject.{Subject}
use Rattle.simplex_values.specs.declared.proposal.Subject.TheVariants as subjects
use Rattle.simplex_wire.specs.declared.attestation.Attestation.{Attestation}
use Rattle.simplex_wire.specs.Message.{round, proposal}

-- the bytes that are signed of a subject
abbrev pub subject_bytes : Subject → List ℕ
subject_bytes (subjects.Notarize p) = 0 ∷ proposal.spelling p
subject_bytes (subjects.Nullify r) = 1 ∷ round.spelling r
subject_bytes (subjects.Finalize p) = 2 ∷ proposal.spelling p

-- the key of a member
unfoldable pub key_of : ℕ → ℕ → List ℕ
key_of base member = sha256 (codes "key" ++ to_be_bytes w64 base ++ to_be_bytes w32 member)

-- the keys of the first n members
unfoldable pub keys_of : ℕ → ℕ → List (List ℕ)
keys_of base zero = []
keys_of base (suc n) = keys_of base n ++ key_of base n ∷ []

-- the signature of a member on a subject
unfoldable pub signature_of : ℕ → ℕ → Subject → List ℕ
signature_of base member subject = sha256 (key_of base member ++ codes "simplex" ++ subject_bytes subject)

-- what the scheme of a member attests of a subject
unfoldable pub keyed_attests : ℕ → Option ℕ → Subject → Option Attestation
keyed_attests base me subject =
    option_map (λ member. record { signer = member; signature = signature_of base member subject }) me

-- whether an attestation is one of the n members' on the subject
unfoldable pub keyed_verifies : ℕ → ℕ → Subject → Attestation → Bool
keyed_verifies base n subject a = nat_lt a.signer n && bytes_eq a.signature (signature_of base a.signer subject)
