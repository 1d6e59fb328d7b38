use Rattle.std.proofs.Common.{◌≡◌, length}
use Rattle.model_epochs.specs.Lines.{is_honest_in}
use Rattle.simplex_epochs.specs.Runs.{inputs_of}
use Rattle.simplex_epochs.proofs.text.is_honest_in.Given as goal

abbrev pub invariant-loop-rest : goal.invariant-loop-rest
invariant-loop-rest l = is_honest_in (inputs_of l.rest) l.member ≡ is_honest_in (inputs_of l.epochs) l.member

abbrev pub decreases-loop-rest : goal.decreases-loop-rest
decreases-loop-rest l = length l.rest
