use Rattle.std.proofs.Common.{◌≡◌, take}
use Rattle.model_epochs.specs.Epochs.{cut_at}
use Rattle.simplex_epochs.proofs.closing.cut_logs.Given as goal

abbrev pub invariant-loop-node : goal.invariant-loop-node
invariant-loop-node l = l.parts ≡ cut_at l.height (take l.node-index l.logs)
