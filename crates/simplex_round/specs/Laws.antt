-- What follows of evidence and acceptance.
use Rattle.std.specs.Prelude.{◌≡◌, ℕ}
use Rattle.simplex_round.specs.declared.evidence.Evidence.{Evidence}
use Rattle.simplex_round.specs.declared.evidence.Evidence.TheVariants as proofs

-- both votes of the evidence are the signer's
abbrev pub SignedBoth : Evidence → ℕ → Type 0
SignedBoth (proofs.Notarizes e) signer = (e.first.attestation.signer ≡ signer) × (e.second.attestation.signer ≡ signer)
SignedBoth (proofs.Finalizes e) signer = (e.first.attestation.signer ≡ signer) × (e.second.attestation.signer ≡ signer)
SignedBoth (proofs.NullifyFinalize e) signer =
    (e.nullify.attestation.signer ≡ signer) × (e.finalize.attestation.signer ≡ signer)
