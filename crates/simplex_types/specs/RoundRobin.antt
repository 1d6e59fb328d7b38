-- Leaders in turn.
use Rattle.std.specs.Prelude.{ℕ, ◌+◌, ◌%◌, ◌<◌}
use Rattle.std.proofs.Common.{arith}
use Rattle.simplex_values.specs.declared.round.Round.{Round}
use Rattle.simplex_values.specs.Terms.{term_index}

-- the leader of a round among n members: each term has the next one, and each epoch begins one further on
unfoldable pub leader_of : ℕ → ℕ → Round → ℕ
leader_of length n round = (round.epoch + term_index length round.view) % n

-- the leader is a member
pub leader_of-below : (length n : ℕ) (round : Round) → 0 < n → leader_of length n round < n
unfolding leader_of
leader_of-below length n round some = omega arith
