use Rattle.std.proofs.Common.{refl, ◌∙◌}
use Rattle.simplex_records.proofs.Keeping.{records-passed}
use Rattle.simplex_records.proofs.records.Records.pass.Goals as goal

pub returns-clause-stands : goal.returns-clause-stands
returns-clause-stands c =
    λ setup before noted same start stand. records-passed _ _ setup before noted _ _ _ c.in_ok-push_packets.ensures refl refl refl
    (same ∙ c.idle_entry.ensures) start stand
