use Rattle.std.proofs.Common.{◌≡◌, ◌≤◌, ◌^◌, sum, take}
use Rattle.simplex_ledger.proofs.ledger.total_of.Given as goal

abbrev pub invariant-loop-account : goal.invariant-loop-account
invariant-loop-account l = record { so_far : l.total ≡ sum (take l.account-index l.accounts); small : l.total ≤ 2 ^ 63 }
