-- How the steps of a group are dealt to workers.
use Rattle.std.specs.Prelude.{◌≡◌, ℕ, ◌+◌, ◌%◌, ◌==◌, List, [], ◌∷◌, ◌++◌, length, Option, Some, None, if◌then◌else◌}
use Rattle.std.specs.List.{slice_get}
use Rattle.std.specs.Option.{option_to_list}
use Rattle.simplex_transcript.specs.declared.event.Event.{Event}
use Rattle.simplex_network.specs.Lending.{IsDone, Steps}
use Rattle.simplex_par.specs.declared.lanes.Dealt.{Dealt}
use Rattle.simplex_par.specs.declared.lanes.Lane.{Lane}

-- the events of this worker, where the first of these has this place: those whose place leaves the worker's number as its rest
unfoldable pub share : ℕ → ℕ → ℕ → List Event → List Event
share workers worker place [] = []
share workers worker place (event ∷ events) =
    if place % workers == worker then event ∷ share workers worker (place + 1) events
    else share workers worker (place + 1) events

-- P holds of each event and the task at its place
unfoldable pub Each : (Event → Dealt → Type 0) → List Event → List Dealt → Type 0
Each P [] [] = Unit {0}
Each P (event ∷ events) (dealt ∷ rest) = P event dealt × Each P events rest
Each P _ _ = ⊥

-- there is a lane for each worker, with the tasks of its events
pub record LanesHold (P : Event → Dealt → Type 0) (workers place : ℕ) (events : List Event)
    (lanes : List Lane) : Type 0 where
  pub count : length lanes ≡ workers
  pub each : (worker : ℕ) (lane : Lane) → slice_get lanes worker ≡ Some lane
      → Each P (share workers worker place events) lane.dealt.items

abbrev pub Any : Event → Dealt → Type 0
Any event dealt = Unit {0}

abbrev pub Done : Event → Dealt → Type 0
Done event dealt = IsDone dealt.task

-- ---- what the calls of lanes do

-- the task made its step
pub record MakesStep (old new : Dealt) : Type 0 where
  pub done : IsDone new.task
  pub steps : Steps old.task new.task

-- each of the old tasks made its step
abbrev pub AllStep : List Dealt → List Dealt → Type 0
AllStep olds news =
    (length news ≡ length olds)
    × ((at : ℕ) (new : Dealt) → slice_get news at ≡ Some new → (old : Dealt) × (slice_get olds at ≡ Some old)
    × MakesStep old new)

-- each lane of the new list is the old list's lane of that number, and this holds of the two
abbrev pub EachLane : (ℕ → Lane → Lane → Type 0) → List Lane → List Lane → Type 0
EachLane R olds news =
    (length news ≡ length olds)
    × ((worker : ℕ) (new : Lane) → slice_get news worker ≡ Some new → (old : Lane)
    × (slice_get olds worker ≡ Some old) × R worker old new)

abbrev pub LanesStep : List Lane → List Lane → Type 0
LanesStep olds news = EachLane (λ worker old new. AllStep old.dealt.items new.dealt.items) olds news

abbrev pub AreEmpty : ℕ → List Lane → Type 0
AreEmpty workers lanes =
    (length lanes ≡ workers) × ((worker : ℕ) (lane : Lane) → slice_get lanes worker ≡ Some lane → lane.dealt.items ≡ [])

-- what a worker gets of one thing at this place
abbrev pub if_own : {A : Type 0} → ℕ → ℕ → ℕ → List A → List A
if_own workers worker place list = if place % workers == worker then list else []

-- the task goes last into the lane of the worker of this place
abbrev pub PutsLast : ℕ → Dealt → List Lane → List Lane → Type 0
PutsLast place dealt olds news =
    EachLane (λ worker old new. new.dealt.items
    ≡ old.dealt.items ++ if_own (length olds) worker place (dealt ∷ [])) olds news

-- this is the first of the lane of the worker of this place, which goes, or there is none
pub record TakesFirst (place : ℕ) (dealt : Option Dealt) (olds news : List Lane) : Type 0 where
  pub lanes : EachLane (λ worker old new. old.dealt.items
      ≡ if_own (length olds) worker place (option_to_list dealt) ++ new.dealt.items) olds news
  pub none : dealt ≡ None → (lane : Lane) → slice_get olds (place % length olds) ≡ Some lane → lane.dealt.items ≡ []
