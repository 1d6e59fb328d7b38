use Rattle.std.proofs.Common.{◌≡◌, ◌+◌, ◌-◌, ◌∷◌, [], List, length, take, drop, Err, false, ap, subst, ◌∙◌, arith, rules}
use Rattle.simplex_form.specs.declared.input.Input as read
use Rattle.model_run.specs.Run.{RunFrom}
use Rattle.model_epochs.specs.declared.chain.EpochError.{EpochError}
use Rattle.model_epochs.specs.Epochs.{Epochs, epochs_from}
use Rattle.simplex_epochs.specs.Runs.{all_behind, given_of, inputs_of, is_memory, rans_of}
use Rattle.simplex_epochs.proofs.Chained.{AreRunsSoFar, all_ran, all_runs, begun_at, behind_more, err_is, failed_behind, none_yet, runs_more, split_rest}
use Rattle.simplex_epochs.proofs.run.run_epochs.Goals as goal

pub loop-rest-init : goal.loop-rest-init
loop-rest-init c =
    let at = c.first_beginning-at.result in
    let none : c.new-runs.result ≡ [] = search rules in
    record {
      ran =
          begun_at c.args.height c.args.epochs.now c.first-item.result c.new-runs.result at.place at.epoch at.genesis (omega arith) c.first-item.is none
          c.first_beginning-at.ensures.place c.first_beginning-at.ensures.epoch c.first_beginning-at.ensures.genesis;
      whole = none_yet c.args.height c.args.epochs.now c.new-runs.result none;
      place = omega (arith, c.first_beginning-at.ensures.place);
    }

pub returns-in_err-at-clause-refused : goal.returns-in_err-at-clause-refused
returns-in_err-at-clause-refused c =
    let height = c.args.height in
    let epochs = c.args.epochs.now in
    let rest = c.loop-rest.rest.now in
    let runs = c.loop-rest.runs in
    let at = c.loop-rest.at in
    let input = c.input-item.result in
    let split = split_rest rest input (omega arith) c.input-item.is in
    let error = c.in_err-at.field-0.0 in
    err_is (λ (e : EpochError). is_memory e ≡ false → Epochs height (inputs_of epochs) ≡ Err e)
    c.from_residual.result error (search rules)
    (λ other. failed_behind runs (Epochs height (inputs_of epochs))
    (epochs_from RunFrom height at.place at.epoch at.genesis (given_of input ∷ inputs_of (take (length rest - 1) (drop 1 rest)))) error
    (c.loop-rest.invariant.ran ∙ ap (λ (xs : List read.Input). all_behind (rans_of runs) (epochs_from RunFrom height at.place at.epoch at.genesis (inputs_of xs))) split)
    (c.in_err-at.ensures.err other))

pub loop-rest-preserved : goal.loop-rest-preserved
loop-rest-preserved c =
    let height = c.args.height in
    let epochs = c.args.epochs.now in
    let rest = c.loop-rest.rest.now in
    let runs = c.loop-rest.runs in
    let at = c.loop-rest.at in
    let input = c.input-item.result in
    let split = split_rest rest input (omega arith) c.input-item.is in
    let more = c.in_ok-at.ensures.ran in
    record {
      ran =
          behind_more height input runs c.add_run.new.runs (Epochs height (inputs_of epochs)) _ _
          (c.loop-rest.invariant.ran ∙ ap (λ (xs : List read.Input). all_behind (rans_of runs) (epochs_from RunFrom height at.place at.epoch at.genesis (inputs_of xs))) split) more;
      whole =
          runs_more height epochs (take (length rest - 1) (drop 1 rest)) input runs c.add_run.new.runs _ _
          (subst (λ (xs : List read.Input). AreRunsSoFar height epochs xs runs) split c.loop-rest.invariant.whole) more;
      place = omega (arith, c.in_ok-at.ensures.place, ap length split);
    }

pub returns-clause-ran : goal.returns-clause-ran
returns-clause-ran c =
    let at = c.loop-rest.at in
    all_ran c.args.height at.place at.epoch at.genesis c.loop-rest.rest.now c.loop-rest.runs (Epochs c.args.height (inputs_of c.args.epochs.now)) (omega arith)
    c.loop-rest.invariant.ran

pub returns-clause-whole : goal.returns-clause-whole
returns-clause-whole c = all_runs c.args.height c.args.epochs.now c.loop-rest.rest.now c.loop-rest.runs (omega arith) c.loop-rest.invariant.whole
