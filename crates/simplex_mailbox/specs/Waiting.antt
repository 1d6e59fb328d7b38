-- What waits for room in a mailbox, and the order in which it goes.
use Rattle.std.specs.Prelude.{ℕ, zero, suc, ◌==◌, Bool, not, ◌&&◌, if◌then◌else◌, List, [], ◌∷◌, ◌++◌, length, map, filter, take, Option, Some, None}
use Rattle.std.specs.Option.{is_none, option_map, option_to_list}

-- a place for one message that goes before all others, then the rest in order of arrival
pub record Waiting (M : Type 0) : Type 0 where
  pub place : Option M
  pub rest : List M

-- the first of a list, if there is one
abbrev pub front : {M : Type 0} → List M → Option M
front [] = None
front (message ∷ messages) = Some message

module _ {M : Type 0} where
  -- nothing waits
  abbrev pub nothing : Waiting M
  nothing = record { place = None; rest = [] }

  -- the place is empty, and these wait in order of arrival
  abbrev pub only_rest : List M → Waiting M
  only_rest rest = record { place = None; rest = rest }

  -- whether nothing waits
  abbrev pub is_clear : Waiting M → Bool
  is_clear waiting = is_none waiting.place && length waiting.rest == 0

  -- the message came, and is last
  abbrev pub put_last : Waiting M → M → Waiting M
  put_last waiting message = record waiting { rest = waiting.rest ++ message ∷ [] }

  -- the requester of this number left, and `leave` says what a message is then
  abbrev pub without : (leave : ℕ → M → M) → ℕ → Waiting M → Waiting M
  without leave id waiting =
      record { place = option_map (leave id) waiting.place; rest = map (leave id) waiting.rest }

  -- what goes, one after another: the place first, then the rest in order of arrival without what is skipped
  unfoldable pub in_turn : (skips : M → Bool) → Waiting M → List M
  in_turn skips waiting = option_to_list waiting.place ++ filter (λ message. not (skips message)) waiting.rest

  -- what goes where there is so much room
  unfoldable pub drained : (skips : M → Bool) → ℕ → Waiting M → List M
  drained skips room waiting = take room (in_turn skips waiting)

  -- what stands behind the first so many messages that are not skipped
  unfoldable pub behind : (skips : M → Bool) → ℕ → List M → List M
  behind skips room [] = []
  behind skips zero (message ∷ messages) = message ∷ messages
  behind skips (suc room) (message ∷ messages) =
      if skips message then behind skips (suc room) messages else behind skips room messages

  -- what waits on where there is so much room: without room all stays, else the place is empty
  unfoldable pub undrained_at : (skips : M → Bool) → ℕ → Option M → List M → Waiting M
  undrained_at skips zero place rest = record { place = place; rest = rest }
  undrained_at skips (suc room) None rest = record { place = None; rest = behind skips (suc room) rest }
  undrained_at skips (suc room) (Some first) rest = record { place = None; rest = behind skips room rest }

  unfoldable pub undrained : (skips : M → Bool) → ℕ → Waiting M → Waiting M
  undrained skips room waiting = undrained_at skips room waiting.place waiting.rest
