use Rattle.std.proofs.Common.{refl, sym, ◌∙◌}
use Rattle.simplex_reader.proofs.Stepped.{step_followed}
use Rattle.simplex_reader.proofs.Failing.{failed_breaks, failed_undone, true_false}
use Rattle.simplex_reader.proofs.reader.Reader.take_failed.Goals as goal

pub returns : goal.returns
returns g c = λ failed.
    step_followed c.args.self.now _ _ c.args.source c.args.stop c.args.entry.now _ _ refl
    (λ whole. true_false (sym (failed_breaks c.args.entry.now.outcome failed) ∙ whole))
    (λ done. true_false (sym done ∙ failed_undone c.args.entry.now.outcome failed))
    (λ made known now k signs. c.in_ok-take_calls.ensures _ (c.in_ok-prune.ensures made known now k signs))
