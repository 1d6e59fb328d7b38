use Rattle.std.proofs.Common.{◌≡◌, ◌++◌, map, take}
use Rattle.simplex_epochs.proofs.chains.add_part.Given as goal

abbrev pub invariant-loop-entry : goal.invariant-loop-entry
invariant-loop-entry l = l.chain ≡ l.initial.chain ++ map (λ entry. record { epoch = l.epoch; entry = entry }) (take l.entry-index l.entry-items)
