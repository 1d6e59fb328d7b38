-- What transfers make of balances.
use Rattle.std.specs.Prelude.{ℕ, ◌+◌, ◌-◌, ◌^◌, ◌&&◌, nat_lt, nat_le, Bool, List, length, get_or, set, sum, fold, if◌then◌else◌}
use Rattle.model_ledger.specs.declared.transfer.Transfer.{Transfer}

abbrev pub balance_at : List ℕ → ℕ → ℕ
balance_at balances account = get_or balances account 0

-- both accounts are there, and the sender has the amount
abbrev pub may_move : List ℕ → Transfer → Bool
may_move balances t =
    nat_lt t.from (length balances) && nat_lt t.to (length balances) && nat_le t.amount (balance_at balances t.from)

abbrev pub taken : List ℕ → ℕ → ℕ → List ℕ
taken balances account amount = set balances account (balance_at balances account - amount)

abbrev pub given : List ℕ → ℕ → ℕ → List ℕ
given balances account amount = set balances account (balance_at balances account + amount)

-- the amount goes from the one to the other, or nothing happens
unfoldable pub moved : List ℕ → Transfer → List ℕ
moved balances t = if may_move balances t then given (taken balances t.from t.amount) t.to t.amount else balances

abbrev pub after_all : List ℕ → List Transfer → List ℕ
after_all balances transfers = fold moved balances transfers

-- there are accounts, not too many, and their sum is not too large
abbrev pub are_accounts : List ℕ → Bool
are_accounts accounts = nat_lt 0 (length accounts) && nat_le (length accounts) 65536 && nat_le (sum accounts) (2 ^ 63)
