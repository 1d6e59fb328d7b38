-- What the work on an input comes to.
use Rattle.std.specs.Prelude.{ℕ, List, string_bytes}
use Rattle.simplex_front.specs.declared.answer.Answer.{Answer}
use Rattle.simplex_front.specs.declared.answer.Answer.TheVariants as answers

-- the answer is right, of work that does, refuses and misreads this
abbrev pub IsAnswer : {D R : Type 0} → (D → List ℕ → Type 0) → (R → List ℕ → Type 0) → (ℕ → Type 0)
    → Answer D R → Type 0
IsAnswer does refuses misreads (answers.Done done text) = does done (string_bytes text)
IsAnswer does refuses misreads (answers.Refused reason text) = refuses reason (string_bytes text)
IsAnswer does refuses misreads (answers.BadInput place) = misreads place
