-- A vote from the network, by a round that is given the leader first.
use Rattle.std.specs.Prelude.{◌≡◌, ◌∷◌, ℕ, Bool, List, Option, [], true}
use Rattle.simplex_wire.specs.declared.vote.Vote.{Vote}
use Rattle.simplex_types.specs.declared.activity.Activity.{Activity}
use Rattle.simplex_types.specs.declared.cause.BlockCause.{BlockCause}
use Rattle.simplex_round.specs.Acceptance.{heard_from, has_nullify, vote_activity}
use Rattle.simplex_round.specs.Calls.{AddNetwork}
use Rattle.model_steps.specs.Batcher.{RoundHistory, called, known_in, some_passes}
use Rattle.simplex_batcher.specs.declared.others.Heard.{Heard}
use Rattle.simplex_batcher.specs.Rounds.{given}

-- the history with the leader, if there is one, and the vote behind it
abbrev pub voted : Option ℕ → ℕ → Vote → RoundHistory → RoundHistory
voted leader sender vote history = called (AddNetwork sender vote) (given leader history)

-- what comes of the vote
abbrev pub heard_of : Option ℕ → ℕ → Vote → RoundHistory → Heard
heard_of leader sender vote history = record {
  accepted = (heard_from (known_in (given leader history)) sender vote).accepted;
  nullified = some_passes (has_nullify (known_in (voted leader sender vote history))) leader;
}

-- an accepted vote is all that is reported, and nobody is blocked for it
abbrev pub IsAlone : Bool → Vote → List Activity → List (ℕ × BlockCause) → Type 0
IsAlone accepted vote reports blocks = accepted ≡ true → (reports ≡ vote_activity vote ∷ []) × (blocks ≡ [])
