-- What a set that is kept as runs holds.
use Rattle.std.specs.Prelude.{ℕ, ◌+◌, nat_le, Bool, false, Option, unwrap_or}
use Rattle.std.specs.Option.{option_map_or, is_some}
use Rattle.simplex_values.specs.Maps.{found}
use Rattle.model_rules.specs.Lists.{greatest_below}
use Rattle.simplex_state.specs.declared.ranges.Ranges.{Ranges}

-- the last start of a run up to the number
unfoldable pub start_of : Ranges → ℕ → Option ℕ
start_of ranges number = greatest_below (λ start. is_some (found ranges.runs start)) (number + 1)

-- whether that run reaches the number
unfoldable pub holds : Ranges → ℕ → Bool
holds ranges number = option_map_or (λ start. nat_le number (start + unwrap_or (found ranges.runs start) 0))
    (start_of ranges number) false
