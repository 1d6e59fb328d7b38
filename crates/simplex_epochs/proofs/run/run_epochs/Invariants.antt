use Rattle.std.proofs.Common.{◌≡◌, ◌≤◌, ◌+◌, length}
use Rattle.model_run.specs.Run.{RunFrom}
use Rattle.model_epochs.specs.Epochs.{Epochs, epochs_from}
use Rattle.simplex_epochs.specs.Runs.{all_behind, inputs_of, rans_of}
use Rattle.simplex_epochs.proofs.Chained.{AreRunsSoFar}
use Rattle.simplex_epochs.proofs.run.run_epochs.Given as goal

abbrev pub invariant-loop-rest : goal.invariant-loop-rest
invariant-loop-rest l = record {
  ran : Epochs l.height (inputs_of l.epochs) ≡ all_behind (rans_of l.runs) (epochs_from RunFrom l.height l.at.place l.at.epoch l.at.genesis (inputs_of l.rest));
  whole : AreRunsSoFar l.height l.epochs l.rest l.runs;
  place : l.at.place + length l.rest ≤ length l.epochs;
}

abbrev pub decreases-loop-rest : goal.decreases-loop-rest
decreases-loop-rest l = length l.rest
