use Rattle.std.proofs.Common.{◌≡◌, drop}
use Rattle.model_run.specs.Forged.{signed_by_faulty}
use Rattle.simplex_records.specs.Forgeries.{is_unsent, first_of}
use Rattle.simplex_records.proofs.sent_votes.SentVotes.first_forged.Given as goal

abbrev pub invariant-loop-packet : goal.invariant-loop-packet
invariant-loop-packet l =
    first_of (is_unsent l.self l.setup) (signed_by_faulty l.setup (drop l.packet-index l.packets))
    ≡ first_of (is_unsent l.self l.setup) (signed_by_faulty l.setup l.packets)
