use Rattle.std.proofs.Common.{◌≡◌, take}
use Rattle.std.specs.Prelude.{◌||◌}
use Rattle.std.specs.List.{list_any}
use Rattle.simplex_wire.specs.declared.certificate.Finalization.{Finalization}
use Rattle.model_run.specs.Entries.{reports}
use Rattle.simplex_records.specs.Reported.{has_reported}
use Rattle.simplex_records.proofs.reported.Reported.add.Given as goal

abbrev pub invariant-loop-call : goal.invariant-loop-call
invariant-loop-call l =
    (f : Finalization) → has_reported l.self f ≡ (list_any (reports f) (take l.call-index l.calls) || has_reported l.initial.self f)
