use Rattle.std.proofs.Common.{◌∙◌, List, ℕ, ap, take}
use Rattle.std.specs.List.{flat_map}
use Rattle.model_log.specs.declared.entry.LogEntry.{LogEntry}
use Rattle.model_ledger.specs.declared.transfer.Transfer.{Transfer}
use Rattle.model_ledger.specs.Balances.{after_all}
use Rattle.simplex_ledger.proofs.Transfers.{after_list, stays_small}
use Rattle.simplex_ledger.proofs.ledger.apply_steps.Goals as goal

pub apply_all-requires : goal.apply_all-requires
apply_all-requires c = stays_small c.args.balances.now (flat_map (λ step. step.1) (take c.loop-transfers.transfers-index c.args.steps.now)) c.loop-transfers.balances c.loop-transfers.invariant c.requires

pub loop-transfers-preserved : goal.loop-transfers-preserved
loop-transfers-preserved c =
    let f = λ (step : LogEntry × List Transfer). step.1 in
    let base = c.args.balances.now in
    let steps = c.args.steps.now in
    let i = c.loop-transfers.transfers-index in
    let before = after_all base (flat_map f (take i steps)) in
    c.apply_all.ensures ∙ ap (λ (b : List ℕ). after_all b c.as_slice.result.now) c.loop-transfers.invariant
    ∙ ap (after_all before) c.as_slice.ensures
    ∙ after_list f base steps i c.loop-transfers-item.result c.loop-transfers-test.true c.loop-transfers-item.is
