use Rattle.std.proofs.Common.{◌≡◌, drop}
use Rattle.std.specs.Prelude.{map}
use Rattle.model_run.specs.Forged.{signed}
use Rattle.simplex_records.specs.Forgeries.{is_unsent, first_of}
use Rattle.simplex_records.proofs.sent_votes.SentVotes.forged_among.Given as goal

abbrev pub invariant-loop-attestation : goal.invariant-loop-attestation
invariant-loop-attestation l =
    first_of (is_unsent l.self l.setup) (map (signed l.subject) (drop l.attestation-index l.attestations))
    ≡ first_of (is_unsent l.self l.setup) (map (signed l.subject) l.attestations)
