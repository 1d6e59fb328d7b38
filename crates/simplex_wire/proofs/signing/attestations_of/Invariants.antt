use Rattle.std.proofs.Common.{◌≡◌, take}
use Rattle.std.specs.Prelude.{map}
use Rattle.simplex_wire.proofs.signing.attestations_of.Given as goal

abbrev pub invariant-loop-vote : goal.invariant-loop-vote
invariant-loop-vote g l = l.attestations.items ≡ map g.V.Signed.attestation_of (take l.vote-index l.votes)
