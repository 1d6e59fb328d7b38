use Rattle.std.proofs.Common.{◌≡◌, length}
use Rattle.model_epochs.specs.Chain.{closing_payload}
use Rattle.model_epochs.specs.Epochs.{lists_of}
use Rattle.simplex_epochs.proofs.closing.closing_payload.Given as goal

abbrev pub invariant-loop-rest : goal.invariant-loop-rest
invariant-loop-rest l = closing_payload l.height (lists_of l.rest) ≡ closing_payload l.height (lists_of l.logs)

abbrev pub decreases-loop-rest : goal.decreases-loop-rest
decreases-loop-rest l = length l.rest
