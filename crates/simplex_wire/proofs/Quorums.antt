-- Attestations of a quorum that each verify make a certificate that verifies.
use Rattle.std.proofs.Common.{◌≡◌, ℕ, ◌<◌, ◌≤◌, Bool, true, ◌&&◌, List, length, refl, ltb}
use Rattle.std.specs.Prelude.{IsTrue, slice_index_or}
use Rattle.std.specs.List.{AllPass}
use Rattle.std.specs.Cmp.Derive.{both_true}
use Rattle.std.proofs.lemmas.Bool.{le-leb, lt-ltb}
use Rattle.std.proofs.lemmas.List.Sums.{list_all-from_AllPass}
use Rattle.simplex_values.specs.Quorum.{quorum_of}
use Rattle.simplex_wire.specs.declared.attestation.Attestation.{Attestation}
use Rattle.simplex_wire.specs.Signatures.{IsSignatures}
use Rattle.simplex_wire.specs.Certified.{is_certified}

module _ (verifies : Attestation → Bool) (n : ℕ) (of_members : (a : Attestation) → verifies a ≡ true → a.signer < n) where
  each_of_members : (list : List Attestation) → AllPass verifies list → AllPass (λ a. ltb a.signer n && verifies a) list
  each_of_members list h k d lt =
      let a : Attestation = slice_index_or list k d in
      both_true (lt-ltb a.signer n (of_members a (h k d lt))) (h k d lt)

  pub certifies : (list : List Attestation) → IsSignatures list → quorum_of n ≤ length list → AllPass verifies list → IsTrue (is_certified verifies n list)
  unfolding is_certified
  certifies list signatures quorum h =
      rw (le-leb (quorum_of n) (length list) quorum, signatures.rises, list_all-from_AllPass (λ a. ltb a.signer n && verifies a) list (each_of_members list h)) refl
