-- The other members, by their place.
use Rattle.std.specs.Prelude.{ℕ, ◌+◌, ◌==◌, nat_lt, if◌then◌else◌}

-- the member at this place among the members other than this one, in rising order
abbrev pub other_at : (me place : ℕ) → ℕ
other_at me place = if nat_lt place me then place else place + 1

-- the next of them behind this member
abbrev pub behind : (me member : ℕ) → ℕ
behind me member = if member + 1 == me then member + 2 else member + 1
