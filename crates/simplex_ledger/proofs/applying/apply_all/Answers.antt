use Rattle.std.proofs.Common.{◌∙◌, List, ℕ, ap, take, get_or}
use Rattle.model_ledger.specs.declared.transfer.Transfer.{Transfer}
use Rattle.model_ledger.specs.Balances.{moved}
use Rattle.simplex_ledger.proofs.Transfers.{after_more, stays_small}
use Rattle.simplex_ledger.proofs.applying.apply_all.Goals as goal

pub apply-requires : goal.apply-requires
apply-requires c = stays_small c.args.balances.now (take c.loop-transfer.transfer-index c.args.transfers.now) c.loop-transfer.balances c.loop-transfer.invariant c.requires

pub loop-transfer-preserved : goal.loop-transfer-preserved
loop-transfer-preserved c =
    let none : Transfer = record { from = 0; to = 0; amount = 0 } in
    let i = c.loop-transfer.transfer-index in
    c.apply.ensures ∙ ap (λ (b : List ℕ). moved b (get_or c.args.transfers.now i none)) c.loop-transfer.invariant
    ∙ after_more c.args.balances.now c.args.transfers.now i none c.loop-transfer-test.true
