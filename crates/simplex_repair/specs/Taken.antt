-- Views as ranges: the first view of each with its last.
use Rattle.std.specs.Prelude.{ℕ, zero, suc, nat_le, Bool, false, Option}
use Rattle.std.specs.Option.{option_or, option_map_or}
use Rattle.simplex_repair.specs.declared.taken.Taken.{Taken}
use Rattle.simplex_values.specs.Maps.{found}

-- the last view of the range whose first view is the greatest up to this one
unfoldable pub last_at : (ℕ → Option ℕ) → ℕ → Option ℕ
last_at lasts zero = lasts zero
last_at lasts (suc n) = option_or (lasts (suc n)) (last_at lasts n)

-- whether this range reaches the view
unfoldable pub reaches : Option ℕ → ℕ → Bool
reaches last view = option_map_or (λ n. nat_le view n) last false

-- whether the view is in a range
unfoldable pub is_taken : Taken → ℕ → Bool
is_taken taken view = reaches (last_at (found taken.lasts) view) view
