-- A transfer keeps the total.
use Rattle.std.proofs.Common.{◌≡◌, ℕ, ◌+◌, ◌-◌, ◌<◌, ◌≤◌, ◌&&◌, nat_lt, nat_le, Bool, true, false, List, [], ◌∷◌, take, set, length, get_or, refl, ◌∙◌, arith, length-set, ltb-true, leb-true, if◌then◌else◌}
use Rattle.std.specs.Prelude.{sum}
use Rattle.std.proofs.lemmas.Bool.{and_parts}
use Rattle.std.proofs.lemmas.List.Sums.{sum_by-set}
use Rattle.model_log.specs.declared.entry.LogEntry.{LogEntry}
use Rattle.model_ledger.specs.declared.transfer.Transfer.{Transfer}
use Rattle.model_ledger.specs.Balances.{balance_at, may_move, taken, given, moved, after_all}
use Rattle.model_ledger.specs.Ledger.{transfers_along, balances_at}

pub set_sum : (xs : List ℕ) (i y : ℕ) → i < length xs → sum (set xs i y) + get_or xs i 0 ≡ sum xs + y
set_sum xs i y lt = sum_by-set (λ n. n) xs i y 0 lt

module _ (balances : List ℕ) (t : Transfer) where
  kept : (b : Bool) → may_move balances t ≡ b → sum (if b then given (taken balances t.from t.amount) t.to t.amount else balances) ≡ sum balances
  kept false e = refl
  kept true e =
      let outer = and_parts (nat_lt t.from (length balances) && nat_lt t.to (length balances)) (nat_le t.amount (balance_at balances t.from)) e in
      let inner = and_parts (nat_lt t.from (length balances)) (nat_lt t.to (length balances)) outer.0 in
      let from : t.from < length balances = ltb-true t.from (length balances) inner.0 in
      let to : t.to < length balances = ltb-true t.to (length balances) inner.1 in
      let enough : t.amount ≤ balance_at balances t.from = leb-true t.amount (balance_at balances t.from) outer.1 in
      let less = taken balances t.from t.amount in
      let long : length less ≡ length balances = length-set balances t.from (balance_at balances t.from - t.amount) in
      let first : sum less + balance_at balances t.from ≡ sum balances + (balance_at balances t.from - t.amount) = set_sum balances t.from (balance_at balances t.from - t.amount) from in
      let second : sum (given less t.to t.amount) + balance_at less t.to ≡ sum less + (balance_at less t.to + t.amount) = set_sum less t.to (balance_at less t.to + t.amount) (omega (arith, to, long)) in
      omega (arith, enough, first, second)

  as_long : (b : Bool) → length (if b then given (taken balances t.from t.amount) t.to t.amount else balances) ≡ length balances
  as_long false = refl
  as_long true = length-set (taken balances t.from t.amount) t.to _ ∙ length-set balances t.from _

  pub moved_sum : sum (moved balances t) ≡ sum balances
  unfolding moved
  moved_sum = kept (may_move balances t) refl

  pub moved_length : length (moved balances t) ≡ length balances
  unfolding moved
  moved_length = as_long (may_move balances t)

pub all_sum : (transfers : List Transfer) (balances : List ℕ) → sum (after_all balances transfers) ≡ sum balances
all_sum [] balances = refl
all_sum (t ∷ rest) balances = all_sum rest (moved balances t) ∙ moved_sum balances t

pub all_length : (transfers : List Transfer) (balances : List ℕ) → length (after_all balances transfers) ≡ length balances
all_length [] balances = refl
all_length (t ∷ rest) balances = all_length rest (moved balances t) ∙ moved_length balances t

pub total_kept : (blocks : List (List ℕ)) (accounts : List ℕ) (log : List LogEntry) (height : ℕ) → sum (balances_at blocks accounts log height) ≡ sum accounts
unfolding balances_at
total_kept blocks accounts log height = all_sum (transfers_along blocks (take height log)) accounts

pub count_kept : (blocks : List (List ℕ)) (accounts : List ℕ) (log : List LogEntry) (height : ℕ) → length (balances_at blocks accounts log height) ≡ length accounts
unfolding balances_at
count_kept blocks accounts log height = all_length (transfers_along blocks (take height log)) accounts
