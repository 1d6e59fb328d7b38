use Rattle.std.proofs.Common.{◌≡◌, ◌∷◌, [], Err, false, rules}
use Rattle.model_run.specs.Run.{RunFrom}
use Rattle.model_epochs.specs.declared.chain.EpochError.{EpochError}
use Rattle.model_epochs.specs.Epochs.{epochs_from}
use Rattle.simplex_epochs.specs.Runs.{given_of, is_memory}
use Rattle.simplex_epochs.proofs.Chained.{err_is}
use Rattle.simplex_epochs.proofs.Epochs.{last_ran, refused_error}
use Rattle.simplex_epochs.proofs.run.run_last.Goals as goal

pub returns-in_err-logged-clause-err : goal.returns-in_err-logged-clause-err
returns-in_err-logged-clause-err c =
    let at = c.args.at in
    let input = given_of c.args.input.now in
    let error = c.in_err-logged.field-0.0 in
    err_is (λ (e : EpochError). is_memory e ≡ false → epochs_from RunFrom c.args.height at.place at.epoch at.genesis (input ∷ []) ≡ Err e)
    c.from_residual-in_err-logged.result error (search rules)
    (λ other. refused_error c.args.height at.place at.epoch at.genesis input error [] (c.in_err-logged.ensures.err other) c.in_ok-check_number.ensures.ok)

pub returns-clause-ran : goal.returns-clause-ran
returns-clause-ran c =
    let logged = c.in_ok-logged.logged in
    let cut = c.in_ok-cut_run.ensures in
    last_ran c.args.height c.args.at.place c.args.at.epoch c.args.input.now c.args.at.genesis logged.transcript logged.logs c.in_ok-cut_run.field-0
    c.in_ok-check_number.ensures.ok c.in_ok-logged.ensures.whole c.in_ok-logged.ensures.logs cut.0 cut.1 cut.2
