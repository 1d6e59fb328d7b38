use Rattle.std.proofs.Common.{◌≡◌, ◌∷◌, Err, false, arith, rules}
use Rattle.model_run.specs.Run.{RunFrom}
use Rattle.model_epochs.specs.declared.chain.EpochError.{EpochError}
use Rattle.model_epochs.specs.Epochs.{epochs_from}
use Rattle.simplex_epochs.specs.Runs.{given_of, inputs_of, is_memory}
use Rattle.simplex_epochs.proofs.Chained.{err_is, next_failed, one_more, the_last}
use Rattle.simplex_epochs.proofs.run.add_run.Goals as goal

pub returns-in_default-clause-ran : goal.returns-in_default-clause-ran
returns-in_default-clause-ran c =
    let at = c.args.at in
    let last = c.in_ok-run_last.ensures in
    the_last c.args.height at.place at.epoch at.genesis c.args.input.now c.args.later.now c.args.runs.now c.push.new.self c.in_ok-run_last.field-0
    (omega arith) c.in_ok-push.ensures.ok last.whole last.ran

pub returns-in_err-run-clause-err : goal.returns-in_err-run-clause-err
returns-in_err-run-clause-err c =
    let at = c.args.at in
    let error = c.in_err-run.field-0.0 in
    err_is (λ (e : EpochError). is_memory e ≡ false
    → epochs_from RunFrom c.args.height at.place at.epoch at.genesis (given_of c.args.input.now ∷ inputs_of c.args.later.now) ≡ Err e)
    c.from_residual-in_err-run.result error (search rules)
    (λ other. next_failed c.args.height at.place at.epoch at.genesis c.args.input.now c.args.later.now error (omega arith) c.in_err-run.ensures.err other)

pub returns-clause-ran : goal.returns-clause-ran
returns-clause-ran c =
    let at = c.args.at in
    let next = c.in_ok-run.next in
    let made = c.in_ok-run.ensures in
    one_more c.args.height at.place at.epoch next.place next.epoch at.genesis next.genesis c.args.input.now c.args.later.now c.args.runs.now c.push-2.new.self
    c.in_ok-run.run' (omega arith) c.in_ok-push-2.ensures.ok made.whole made.ran
