-- What a post takes, for all that an actor hands on.
use Rattle.std.specs.Prelude.{List}
use Rattle.std.specs.List.{FoldsTo}
use Rattle.simplex_values.specs.declared.feedback.Feedback.{Feedback}

-- the messages were put one by one, in this order, whatever each was answered
abbrev pub Posted : {S M : Type 0} → (S → M → Feedback → S → Type 0) → S → List M → S → Type 0
Posted puts before messages after =
    FoldsTo (λ post message next. (answer : Feedback) × puts post message answer next) before messages after
