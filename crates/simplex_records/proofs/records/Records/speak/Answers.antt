use Rattle.std.proofs.Common.{refl, ◌∙◌}
use Rattle.simplex_records.proofs.Keeping.{records-spoken}
use Rattle.simplex_records.proofs.records.Records.speak.Goals as goal

pub returns-clause-stands : goal.returns-clause-stands
returns-clause-stands c =
    λ setup before noted same start faulty from stand. records-spoken _ _ setup before noted _ c.args.node _ c.args.packets
    (rw c.as_slice.ensures at c.in_ok-push_packets.ensures) refl refl refl (same ∙ c.spoken_entry.ensures) start faulty from stand
