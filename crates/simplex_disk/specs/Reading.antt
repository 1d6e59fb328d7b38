-- What a function returned beside what reading gives.
use Rattle.std.specs.Prelude.{◌≡◌, Result, Ok, Err}
use Rattle.simplex_wire.specs.declared.error.DecodeError.{DecodeError}
use Rattle.simplex_wire.specs.declared.error.DecodeError.TheVariants.{Fault, Memory}

-- What a function returned, seen by view, is what reading gives, unless memory ran out.
abbrev pub GivesByUnlessMemory : {X Y : Type 0} → (X → Y) → Result X DecodeError → Result Y DecodeError → Type 0
GivesByUnlessMemory view (Ok x) read = read ≡ Ok (view x)
GivesByUnlessMemory view (Err Memory) read = Unit {0}
GivesByUnlessMemory view (Err (Fault cause place)) read = read ≡ Err (Fault cause place)
