-- What waits after messages came and went, and what is to hold of it.
use Rattle.std.specs.Prelude.{ℕ, nat_lt, Bool, ◌||◌, IsTrue, false, ◌≡◌, List, [], ◌∷◌, All, AllPairs, IfSome}
use Rattle.simplex_mailbox.specs.Waiting.{Waiting, nothing, undrained}

-- a message came for which there was no room, or room was made for one that waits
pub data Turn (M : Type 0) : Type 0 where
  Comes : M → Turn M
  Goes : Turn M

module _ {M : Type 0} where
  -- what waits after these turns, of which the newest is first
  unfoldable pub waits_after : (handle : Waiting M → M → Waiting M) (skips : M → Bool) → List (Turn M) → Waiting M
  waits_after handle skips [] = nothing
  waits_after handle skips (Comes message ∷ before) = handle (waits_after handle skips before) message
  waits_after handle skips (Goes ∷ before) = undrained skips 1 (waits_after handle skips before)

  -- every finalization has the place, and beside it waits nothing at or below its view, but what is free of views
  pub record FinalityRules (view_of : M → ℕ) (is_final is_free : M → Bool) (waiting : Waiting M) : Type 0 where
    pub place_is_final : IfSome waiting.place (λ final. IsTrue (is_final final))
    pub has_the_place : All (λ queued. is_final queued ≡ false) waiting.rest
    pub rest_is_above : IfSome waiting.place
        (λ final. All (λ queued. IsTrue (is_free queued || nat_lt (view_of final) (view_of queued))) waiting.rest)

  -- no message waits for which an earlier one stands
  abbrev pub NoneTwice : (stands_for : M → M → Bool) → Waiting M → Type 0
  NoneTwice stands_for waiting = AllPairs (λ earlier later. stands_for earlier later ≡ false) waiting.rest
