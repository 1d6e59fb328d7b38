-- How a struct's type comes to know what a type parameter's trait says: a ghost field names a member of the trait, and says nothing of it.
use Rattle.std.specs.Prelude.{⊤}

-- true of any member
abbrev pub Knows : {A B : Type 0} → (A → B) → Type 0
Knows member = ⊤
