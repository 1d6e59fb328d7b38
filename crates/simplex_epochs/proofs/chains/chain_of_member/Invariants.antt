use Rattle.std.proofs.Common.{◌≡◌, ◌++◌, length}
use Rattle.model_epochs.specs.Chain.{chain_of}
use Rattle.model_epochs.specs.Epochs.{member_logs}
use Rattle.simplex_epochs.specs.Runs.{inputs_of, rans_of}
use Rattle.simplex_epochs.proofs.chains.chain_of_member.Given as goal

abbrev pub invariant-loop-inputs : goal.invariant-loop-inputs
invariant-loop-inputs l =
    l.chain ++ chain_of l.height (member_logs (inputs_of l.inputs) (rans_of l.made) l.member)
    ≡ chain_of l.height (member_logs (inputs_of l.epochs) (rans_of l.runs) l.member)

abbrev pub decreases-loop-inputs : goal.decreases-loop-inputs
decreases-loop-inputs l = length l.inputs
