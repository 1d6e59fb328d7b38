use Rattle.std.proofs.Common.{sym, ap, ◌∙◌}
use Rattle.simplex_messages.specs.declared.step.Stop.{Stop}
use Rattle.model_audit.specs.Journal.{after_failure}
use Rattle.simplex_reader.proofs.Failing.{none_fails, cut_fails}
use Rattle.simplex_reader.proofs.sections.fail.Goals as goal

pub returns-in-None : goal.returns-in-None
returns-in-None c = λ ruled pruned.
    sym (none_fails ruled c.args.stored.now) ∙ ap (λ (stop : Stop). after_failure stop ruled c.args.stored.now) (sym c.in-None.is)

pub returns-in-Cut : goal.returns-in-Cut
returns-in-Cut c = λ ruled pruned.
    sym (cut_fails _ _ ruled c.args.stored.now) ∙ ap (λ (stop : Stop). after_failure stop ruled c.args.stored.now) (sym c.in-Cut.is)

pub returns-in-Fail : goal.returns-in-Fail
returns-in-Fail c = λ ruled pruned.
    c.fail_at.ensures ∙ sym (pruned c.in-Fail.call c.in-Fail.keep c.args.stored.now) ∙ ap (λ (stop : Stop). after_failure stop ruled c.args.stored.now) (sym c.in-Fail.is)
