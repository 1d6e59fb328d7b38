-- Which lists of members are a quorum.
use Rattle.std.specs.Prelude.{ℕ, ◌≤◌, ◌<◌, List, length, All}
use Rattle.std.specs.List.Sorted.{IsStrictlyIncreasing}
use Rattle.simplex_values.specs.Quorum.{quorum_of}

-- different members of n, in rising order, and enough of them
pub record IsQuorum (n : ℕ) (signers : List ℕ) : Type 0 where
  pub rising : IsStrictlyIncreasing signers
  pub members : All (λ i. i < n) signers
  pub enough : quorum_of n ≤ length signers
