-- How some disk calls ended, of which each was made only where the one before it ended well.
use Rattle.std.specs.Prelude.{◌≡◌, ℕ, Option, Some, Result, Ok, Err, IsSome}
use Rattle.std.specs.Result.{OnOk}
use Rattle.simplex_disk.specs.declared.error.DiskError.{DiskError}
use Rattle.simplex_disk.specs.declared.error.DiskError.TheVariants.{Failed, Memory}
use Rattle.simplex_disk.specs.Answers.{Counts}

-- No call failed.
abbrev pub IsNoFault : {R : Type 0} → Result R DiskError → Type 0
IsNoFault (Ok x) = Unit {0}
IsNoFault (Err Failed) = ⊥
IsNoFault (Err Memory) = Unit {0}

-- The count of faults rose exactly where a call failed, and none did where none was to.
pub record Ends {R : Type 0} (faults : ℕ) (order : Option ℕ) (answer : Result R DiskError) (faults_now : ℕ)
    (order_now : Option ℕ) : Type 0 where
  pub counts : Counts answer faults faults_now
  pub quiet : order ≡ Some 0 → (order_now ≡ Some 0) × IsNoFault answer
  pub told : IsSome order → IsSome order_now

-- an end that is well
abbrev pub ended : Result (Unit {0}) DiskError
ended = Ok tt

-- The call that was ordered to fail came, so these did not end well.
abbrev pub IsNamed : {T E : Type 0} → Option ℕ → Result T E → Type 0
IsNamed order answer = order ≡ Some 1 → OnOk answer ⊥

-- It came, or is still to come.
abbrev pub IsAwaited : {T E : Type 0} → Option ℕ → Result T E → Option ℕ → Type 0
IsAwaited order answer now = order ≡ Some 1 → OnOk answer (now ≡ Some 1)
