use Rattle.std.proofs.Common.{◌≡◌, take}
use Rattle.std.specs.Prelude.{◌||◌}
use Rattle.std.specs.List.{list_any}
use Rattle.simplex_wire.specs.declared.certificate.Finalization.{Finalization}
use Rattle.simplex_records.specs.Reported.{has_reported}
use Rattle.simplex_case.specs.Taking.{tells}
use Rattle.simplex_case.proofs.taking.take_calls.Given as goal

abbrev pub invariant-loop-call : goal.invariant-loop-call
invariant-loop-call l =
    (f : Finalization) → has_reported l.reported f ≡ (list_any (tells f) (take l.call-index l.calls) || has_reported l.initial.reported f)
