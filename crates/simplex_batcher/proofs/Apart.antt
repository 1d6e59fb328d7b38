-- The round of the current view lies apart from the others.
use Rattle.std.proofs.Common.{◌≡◌, ℕ, ◌==◌, true, false, refl}
use Rattle.simplex_batcher.specs.declared.rounds.Rounds.{Rounds}
use Rattle.simplex_batcher.specs.Rounds.{found, round_at}

-- what another view has
pub apart-is : (rounds : Rounds) (view : ℕ) → (view == rounds.current) ≡ false → round_at rounds view ≡ found rounds.others view
unfolding round_at
apart-is rounds view apart = rw apart refl

-- what the current view has
pub here-is : (rounds : Rounds) (view : ℕ) → (view == rounds.current) ≡ true → round_at rounds view ≡ rounds.here
unfolding round_at
here-is rounds view here = rw here refl
