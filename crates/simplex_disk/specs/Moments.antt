-- Each moment between two: what holds after each of the calls in between.
use Rattle.std.specs.Prelude.{◌≡◌, ◌≢◌, ℕ, false, List, [], ◌∷◌, ◌++◌}
use Rattle.simplex_disk.specs.Calls.{Call, is_of}

-- P holds after these calls, and after each of those that were made then.
unfoldable pub Each : (List Call → Type 0) → List Call → List Call → Type 0
Each P [] calls = P calls
Each P (call ∷ made) calls = P (call ∷ made ++ calls) × Each P made calls

-- Between these two moments, both counted, P holds at each one.
pub record Always (P : List Call → Type 0) (old new : List Call) : Type 0 where
  pub made : List Call
  pub goes_on : new ≡ made ++ old
  pub each : Each P made old

-- a call of this file alone
abbrev pub IsOfOnly : ℕ → Call → Type 0
IsOfOnly n call = (m : ℕ) → m ≢ n → is_of m call ≡ false

-- the same where each call between is of this file alone
unfoldable pub EachOf : ℕ → (List Call → Type 0) → List Call → List Call → Type 0
EachOf n P [] calls = P calls
EachOf n P (call ∷ made) calls = IsOfOnly n call × P (call ∷ made ++ calls) × EachOf n P made calls

-- Between these two moments only this file was called, and P holds at each one.
pub record AlwaysOf (n : ℕ) (P : List Call → Type 0) (old new : List Call) : Type 0 where
  pub made : List Call
  pub goes_on : new ≡ made ++ old
  pub each : EachOf n P made old

-- What came of some calls: the history now, that it is one, what held at each moment, and what holds now.
pub record Then (StandsFor moments here : List Call → Type 0) : Type 0 where
  pub now : List Call
  pub stands : StandsFor now
  pub held : moments now
  pub holds : here now
