-- The round of one view in hand, while the view is worked.
use Rattle.std.specs.Prelude.{◌≡◌, ℕ, ◌==◌, false, Option, Some}
use Rattle.std.specs.Option.{option_map}
use Rattle.simplex_round.specs.Known as low
use Rattle.model_steps.specs.Batcher.{Doing}
use Rattle.simplex_messages.specs.declared.step.StepOut.{StepOut}
use Rattle.simplex_batcher.specs.Rounds.{round_of}
use Rattle.simplex_batcher.specs.Stands.{work_of}

-- The view has this round, if any, and the work is what the step has done. Since `before` it did no more than that
-- work, and changed no other round.
pub record Holds (round : Option low.Standing) (work : StepOut) (view : ℕ) (before doing : Doing) : Type 0 where
  pub round_is : round ≡ option_map round_of (doing.standing.rounds view)
  pub others_are : (q : ℕ) → (q == view) ≡ false → doing.standing.rounds q ≡ before.standing.rounds q
  pub rest_is : record doing.standing { rounds = before.standing.rounds } ≡ before.standing
  pub does : work ≡ work_of doing
  pub marks : doing.dirty ≡ before.dirty

-- whatever the step had done before, with the round in hand it has done this with it since
abbrev pub Works : low.Standing → StepOut → low.Standing → StepOut → (ℕ → Doing → Doing) → Type 0
Works old work new worked change =
    (view : ℕ) (before doing : Doing) → Holds (Some old) work view before doing → Holds (Some new) worked view before (change view doing)

-- the same with the round that the view has, if any
abbrev pub WorksAt : Option low.Standing → StepOut → Option low.Standing → StepOut → ℕ → (Doing → Doing) → Type 0
WorksAt old work new worked view change =
    (before doing : Doing) → Holds old work view before doing → Holds new worked view before (change doing)

-- the other views have the rounds that they had
abbrev pub StaysBeside : (ℕ → Option low.Standing) → (ℕ → Option low.Standing) → ℕ → Type 0
StaysBeside old new view = (q : ℕ) → (q == view) ≡ false → new q ≡ old q
