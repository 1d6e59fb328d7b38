use Rattle.std.proofs.Common.{◌≡◌, ◌++◌, length}
use Rattle.std.specs.Prelude.{string_bytes}
use Rattle.model_epochs.specs.Lines.{genesis_lines}
use Rattle.simplex_epochs.specs.Runs.{inputs_of, rans_of}
use Rattle.simplex_epochs.proofs.text.write_all.Given as goal

abbrev pub invariant-loop-inputs : goal.invariant-loop-inputs
invariant-loop-inputs l =
    string_bytes l.text ++ genesis_lines (inputs_of l.inputs) (rans_of l.made)
    ≡ string_bytes l.fn.text ++ genesis_lines (inputs_of l.epochs) (rans_of l.runs)

abbrev pub decreases-loop-inputs : goal.decreases-loop-inputs
decreases-loop-inputs l = length l.inputs
