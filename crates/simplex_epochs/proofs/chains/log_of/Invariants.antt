use Rattle.std.proofs.Common.{◌≡◌, length}
use Rattle.model_epochs.specs.Epochs.{log_in}
use Rattle.simplex_epochs.proofs.chains.log_of.Given as goal

abbrev pub invariant-loop-rest : goal.invariant-loop-rest
invariant-loop-rest l = log_in l.rest l.member ≡ log_in l.logs l.member

abbrev pub decreases-loop-rest : goal.decreases-loop-rest
decreases-loop-rest l = length l.rest
