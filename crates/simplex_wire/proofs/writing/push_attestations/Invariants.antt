use Rattle.std.proofs.Common.{◌≡◌, ◌++◌, take}
use Rattle.std.specs.List.{flat_map, AllByRecursion}
use Rattle.simplex_wire.specs.Fits.{FitsAttestation}
use Rattle.simplex_wire.specs.Message.{attestation}
use Rattle.simplex_wire.proofs.writing.push_attestations.Given as goal

abbrev pub invariant-loop-attestation : goal.invariant-loop-attestation
invariant-loop-attestation l = record {
  spelled : l.out.items ≡ l.fn.out.items ++ flat_map attestation.spelling (take l.attestation-index l.attestations);
  fits : AllByRecursion FitsAttestation (take l.attestation-index l.attestations);
}
