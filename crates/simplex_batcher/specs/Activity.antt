-- Who was seen.
use Rattle.std.specs.Prelude.{ℕ, Bool, Option, None, length, nat_le, nat_lt, slice_index_or, if◌then◌else◌}
use Rattle.model_steps.specs.Batcher.{some_passes}
use Rattle.simplex_batcher.specs.declared.seen.Seen.{Seen}
use Rattle.simplex_batcher.specs.Rounds.{found}

-- when the member was seen last: members have their place in a list, others in a map
unfoldable pub last_seen : Seen → ℕ → Option ℕ
last_seen seen member = if nat_lt member (length seen.members.items) then slice_index_or seen.members.items member None else found seen.others member

-- whether the member was seen since
unfoldable pub seen_in : Seen → ℕ → ℕ → Bool
seen_in seen since member = some_passes (nat_le since) (last_seen seen member)
