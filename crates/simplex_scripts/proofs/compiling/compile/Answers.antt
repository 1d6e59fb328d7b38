use Rattle.std.proofs.Common.{List, ap, ◌∙◌}
use Rattle.std.proofs.lemmas.Result.{IfOk-weaker}
use Rattle.model_run.specs.Setting.{at_epoch_genesis}
use Rattle.simplex_script.specs.declared.command.Placed.{Placed}
use Rattle.simplex_scripts.specs.Playing.{all_obeyed, compiled_of, opening}
use Rattle.simplex_scripts.proofs.Whole.{comes_whole}
use Rattle.simplex_scripts.proofs.compiling.compile.Goals as goal

pub returns-in-Ok : goal.returns-in-Ok
returns-in-Ok c =
    IfOk-weaker c.played.result _ _
    (λ it is.
    comes_whole c.args.script.now c.in-Ok.play it c.in-Ok.ensures.opens
    (is (at_epoch_genesis c.args.script.now.setup) c.in-Ok.ensures.opens
    ∙ ap (λ (commands : List Placed). compiled_of (all_obeyed (at_epoch_genesis c.args.script.now.setup) commands opening)) c.as_slice.ensures))
    c.played.ensures
