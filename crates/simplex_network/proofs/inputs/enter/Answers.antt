use Rattle.std.proofs.Common.{ap, ◌∙◌, length, ◌+◌}
use Rattle.std.proofs.lemmas.Result.{IfOk-weaker}
use Rattle.std.specs.Option.{option_or}
use Rattle.model_run.specs.Entries.{entry_with}
use Rattle.simplex_network.proofs.inputs.enter.Goals as goal

pub returns-clause-entry : goal.returns-clause-entry
returns-clause-entry c =
    IfOk-weaker c.enter.result _ _
    (λ entry enters before did stands is ends.
    enters before did stands is ends
    ∙ ap (λ t. entry_with c.args.setup.now (length before + 1) c.args.node t did) (c.or-took.ensures ∙ ap (option_or c.args.made.outside) (c.took-inside.ensures c.args.setup.now before stands)))
    c.enter.ensures.entry
