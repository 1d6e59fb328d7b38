use Rattle.std.proofs.Common.{ap, ◌∙◌}
use Rattle.simplex_journal.specs.Journal.{crashed}
use Rattle.model_steps.specs.Performed.{kept_by}
use Rattle.simplex_reader.proofs.sections.stop_at_failure.Goals as goal

pub returns : goal.returns
returns c = λ ruled pruned.
    c.crash.ensures
    ∙ ap (λ k. crashed k c.fail.new.stored) c.kept_by.ensures
    ∙ ap (crashed (kept_by c.args.stop)) (c.fail.ensures ruled pruned)
