-- Members as the bits of a number: bit i stands for the member at place i of a list.
use Rattle.std.specs.Prelude.{ℕ, ◌+◌, ◌*◌, ◌/◌, ◌%◌, ◌^◌, ◌==◌, nat_lt, Bool, List, map, filter}
use Rattle.std.specs.List.{enumerate_from}

-- whether the mask has the place
unfoldable pub has : ℕ → ℕ → Bool
has mask place = mask / 2 ^ place % 2 == 1

-- whether the mask has a place that is not below this one
unfoldable pub reaches : ℕ → ℕ → Bool
reaches mask place = nat_lt 0 (mask / 2 ^ place)

-- the items whose places the mask has, in their order
abbrev pub part : {X : Type 0} → ℕ → List X → List X
part mask items = map (λ placed. placed.1) (filter (λ placed. has mask placed.0) (enumerate_from 0 items))

-- the least mask that has the place, of those above one that has it not
abbrev pub raised : ℕ → ℕ → ℕ
raised mask place = (mask / 2 ^ place + 1) * 2 ^ place
