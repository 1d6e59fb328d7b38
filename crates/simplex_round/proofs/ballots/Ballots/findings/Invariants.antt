use Rattle.std.proofs.Common.{◌≡◌, filter, map, ◌++◌}
use Rattle.std.specs.Prelude.{not}
use Rattle.simplex_wire.specs.Fields.{vote_attestation}
use Rattle.simplex_round.specs.Votes.{vote_signer}
use Rattle.simplex_round.specs.Assembly.{is_unchecked, is_valid, checked, as_scheme}
use Rattle.simplex_round.proofs.ballots.Ballots.findings.Given as goal

abbrev pub invariant-loop-ballot : goal.invariant-loop-ballot
invariant-loop-ballot g l =
    let verifies = g.S.Scheme.verifies l.scheme l.subject in
    let scheme = as_scheme (g.S.Scheme.verifies l.scheme) (g.S.Scheme.recovers l.scheme) (g.S.Scheme.members l.scheme) in
    record {
      found : l.findings.found.items ++ map (λ b. verifies (vote_attestation b.vote)) (filter (is_unchecked l.subject) l.ballot-iterator)
          ≡ map (λ b. verifies (vote_attestation b.vote)) (filter (is_unchecked l.subject) l.fn.self);
      invalid : l.findings.invalid ++ map (λ b. vote_signer b.vote) (filter (λ b. not (verifies (vote_attestation b.vote))) (filter (is_unchecked l.subject) l.ballot-iterator))
          ≡ map (λ b. vote_signer b.vote) (filter (λ b. not (verifies (vote_attestation b.vote))) (filter (is_unchecked l.subject) l.fn.self));
      valid : l.findings.valid.items ++ map (λ b. vote_attestation b.vote) (filter (is_valid l.subject) (map (checked scheme l.subject) l.ballot-iterator))
          ≡ map (λ b. vote_attestation b.vote) (filter (is_valid l.subject) (map (checked scheme l.subject) l.fn.self));
    }
