-- How many members may be faulty, and how many a certificate needs.
use Rattle.std.specs.Prelude.{ℕ, ◌-◌, ◌/◌}

-- f, the most members of n that may be faulty
abbrev pub max_faulty : ℕ → ℕ
max_faulty n = (n - 1) / 3

-- q, all members but f
abbrev pub quorum_of : ℕ → ℕ
quorum_of n = n - max_faulty n
