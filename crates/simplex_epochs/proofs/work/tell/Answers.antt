use Rattle.std.proofs.Common.{rules, ◌≡◌, string_bytes}
use Rattle.model_epochs.specs.Lines.{chain_lines}
use Rattle.simplex_epochs.specs.Runs.{inputs_of, rans_of}
use Rattle.simplex_epochs.proofs.Chained.{made_chained}
use Rattle.simplex_epochs.proofs.work.tell.Goals as goal

pub returns : goal.returns
returns c =
    let input = c.args.input.now in
    let told : string_bytes c.in_ok-text.text ≡ chain_lines input.height (inputs_of input.epochs) (rans_of c.args.runs) = search rules in
    made_chained input c.args.runs (string_bytes c.in_ok-text.text) c.requires.ran c.requires.whole c.chains_of_whole_runs.ensures c.requires.height
    c.epochs_are_linked.ensures told
