use Rattle.std.proofs.Common.{◌≡◌, ◌∷◌, List, Some, Err, false, sym, ap, ◌∙◌, arith, rules}
use Rattle.simplex_transcript.specs.declared.node.Node.{Node}
use Rattle.model_log.specs.declared.entry.LogEntry.{LogEntry}
use Rattle.model_run.specs.Run.{RunFrom}
use Rattle.model_epochs.specs.declared.chain.EpochError.{EpochError}
use Rattle.model_epochs.specs.Chain.{closing_payload}
use Rattle.model_epochs.specs.Epochs.{Input, epochs_from, lists_of}
use Rattle.simplex_epochs.specs.Runs.{given_of, is_memory}
use Rattle.simplex_epochs.proofs.Chained.{err_is}
use Rattle.simplex_epochs.proofs.Epochs.{low_epoch, next_ran, open_error, refused_error}
use Rattle.simplex_epochs.proofs.run.run_next.Goals as goal

pub returns-in_err-logged-clause-err : goal.returns-in_err-logged-clause-err
returns-in_err-logged-clause-err c =
    let at = c.args.at in
    let input = given_of c.args.input.now in
    let error = c.in_err-logged.field-0.0 in
    err_is (λ (e : EpochError). (next : Input) (later : List Input) → is_memory e ≡ false
    → epochs_from RunFrom c.args.height at.place at.epoch at.genesis (input ∷ next ∷ later) ≡ Err e)
    c.from_residual-in_err-logged.result error (search rules)
    (λ next later other. refused_error c.args.height at.place at.epoch at.genesis input error (next ∷ later) (c.in_err-logged.ensures.err other)
    c.in_ok-check_number.ensures.ok)

pub returns-clause-ran : goal.returns-clause-ran
returns-clause-ran c =
    let logged = c.in_ok-logged.logged in
    let cut = c.in_ok-cut_run.ensures in
    let next = c.in_ok-next.next in
    let behind = c.in_ok-next.ensures.ok in
    let same : c.as_slice.result.now ≡ logged.logs = search rules in
    let closed : closing_payload c.args.height (lists_of logged.logs) ≡ Some next.genesis =
    ap (λ (all : List (Node × List LogEntry)). closing_payload c.args.height (lists_of all)) (sym same) ∙ behind.2 in
    next_ran c.args.height c.args.at.place c.args.at.epoch next.place next.epoch c.args.input.now c.args.at.genesis next.genesis logged.transcript logged.logs
    c.in_ok-cut_run.field-0 c.in_ok-check_number.ensures.ok c.in_ok-logged.ensures.whole c.in_ok-logged.ensures.logs cut.0 cut.1 cut.2 behind.0 behind.1 closed

pub next_of-requires-clause-epoch : goal.next_of-requires-clause-epoch
next_of-requires-clause-epoch c =
    let low = low_epoch c.args.input.now.setup c.args.at.genesis c.args.input.now.events c.in_ok-logged.logged.transcript.entries c.in_ok-logged.ensures.whole.entries in
    let same = c.in_ok-check_number.ensures.ok in
    omega (arith, low, same)

pub returns-in_err-next-clause-err : goal.returns-in_err-next-clause-err
returns-in_err-next-clause-err c =
    let at = c.args.at in
    let input = given_of c.args.input.now in
    let logged = c.in_ok-logged.logged in
    let error = c.in_err-next.field-0.0 in
    let why = c.in_err-next.ensures.err in
    let same : c.as_slice.result.now ≡ logged.logs = search rules in
    err_is (λ (e : EpochError). (next : Input) (later : List Input) → is_memory e ≡ false
    → epochs_from RunFrom c.args.height at.place at.epoch at.genesis (input ∷ next ∷ later) ≡ Err e)
    c.from_residual-in_err-next.result error (search rules)
    (λ next later other. open_error c.args.height at.place at.epoch at.genesis input logged.transcript c.as_slice.result.now error c.in_ok-check_number.ensures.ok
    c.in_ok-logged.ensures.whole (same ∙ c.in_ok-logged.ensures.logs) why.0 why.1 next later)
