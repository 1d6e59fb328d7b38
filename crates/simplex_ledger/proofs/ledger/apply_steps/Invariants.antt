use Rattle.std.proofs.Common.{◌≡◌, take}
use Rattle.std.specs.List.{flat_map}
use Rattle.model_ledger.specs.Balances.{after_all}
use Rattle.simplex_ledger.proofs.ledger.apply_steps.Given as goal

abbrev pub invariant-loop-transfers : goal.invariant-loop-transfers
invariant-loop-transfers l = l.balances ≡ after_all l.initial.balances (flat_map (λ step. step.1) (take l.transfers-index l.steps))
