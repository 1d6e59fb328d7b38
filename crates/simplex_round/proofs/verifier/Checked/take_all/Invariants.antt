use Rattle.std.proofs.Common.{◌≡◌, ◌++◌, filter, take}
use Rattle.simplex_round.specs.Verifier.{invalid_signers}
use Rattle.simplex_round.proofs.verifier.Checked.take_all.Given as goal

abbrev pub invariant-loop-attestation : goal.invariant-loop-attestation
invariant-loop-attestation g l = record {
  valid : l.self.valid.items ≡ l.fn.self.valid.items ++ filter (g.S.Scheme.verifies l.scheme l.subject) (take l.attestation-index l.waiting);
  invalid : l.self.invalid.items
      ≡ l.fn.self.invalid.items ++ invalid_signers (g.S.Scheme.verifies l.scheme l.subject) (take l.attestation-index l.waiting);
}
