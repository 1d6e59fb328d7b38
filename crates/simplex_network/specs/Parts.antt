-- What a node is at, and what a call makes of it.
use Rattle.std.specs.Prelude.{◌≡◌, ℕ, Bool, true, List, [], ◌∷◌, Option, Some, None, Result, Ok, Err, if◌then◌else◌}
use Rattle.model_rules.specs.Views.{current_of}
use Rattle.simplex_messages.specs.declared.step.Outcome.{Outcome}
use Rattle.simplex_messages.specs.declared.step.Stop.{Stop}
use Rattle.simplex_messages.specs.declared.step.StepOut.{StepOut}
use Rattle.simplex_transcript.specs.declared.node.Node.{Node}
use Rattle.simplex_transcript.specs.declared.setup.Setup.{Setup}
use Rattle.simplex_transcript.specs.declared.refusal.RunError.{RunError}
use Rattle.simplex_transcript.specs.declared.refusal.RunError.TheVariants as refusals
use Rattle.model_steps.specs.VoterLife.{place_of}
use Rattle.model_steps.specs.Engine.{EngineMade, runs, begun, voter_in, voter_past}
use Rattle.simplex_engine.specs.declared.input.Input.{Input}
use Rattle.simplex_engine.specs.declared.input.TakenInside.{TakenInside}
use Rattle.simplex_engine.specs.declared.error.PollError.{PollError}
use Rattle.simplex_engine.specs.declared.error.PollError.TheVariants as errors
use Rattle.simplex_engine.specs.Polled.{polled, refusal_of, taken_inside}
use Rattle.model_run.specs.Setting.{Setting}
use Rattle.model_run.specs.Kinds.{is_node, is_same_node, runs_engine}
use Rattle.model_run.specs.Life.{Noted, Life, Stopped, Running, going_on, life_in}
use Rattle.model_run.specs.Mocks.{Heard}
use Rattle.model_run.specs.Hearing.{heard_in}
use Rattle.simplex_network.specs.declared.status.Status.{Status}
use Rattle.simplex_network.specs.declared.status.Status.TheVariants as statuses

-- a node lives the life of its engines, or only hears, where its member is faulty and has none: this, the newest first
pub data Part : Type 0 where
  Lives : (life : Life) → Part
  Hears : (past : List Heard) → Part

-- the part of a node, read from the entries so far
unfoldable pub part_in : Setting → List Noted → Node → Part
part_in setting before node =
    if runs_engine setting.setup node.member then Lives (life_in setting before node) else Hears (heard_in before node)

-- what it is at before any event
abbrev pub first_part : Setup → Node → Part
first_part setup node = if runs_engine setup node.member then Lives (Stopped []) else Hears []

-- parts of which one is another
unfoldable pub changed : Node → Part → (Node → Part) → Node → Part
changed node part parts other = if is_same_node node other then part else parts other

-- ---- what a node is at

-- an engine that runs goes on
unfoldable pub goes_on : Part → Bool
goes_on (Lives (Running made past)) = runs past
goes_on _ = true

-- stopped, or running at the current view
unfoldable pub status_of : Life → Status
status_of (Stopped sections) = statuses.Stopped
status_of (Running made past) =
    statuses.Running (current_of (voter_in made past).rules
    (place_of (voter_in made past) (voter_past past)).standing.desk.known)

unfoldable pub status_in : Part → Status
status_in (Lives life) = status_of life
status_in (Hears past) = statuses.Faulty

-- what the node is at, where it exists
unfoldable pub found_in : Setup → Node → Part → Result Status RunError
found_in setup node part = if is_node setup node then Ok (status_in part) else Err refusals.NoMember

-- ---- inputs of an engine

-- why an input is refused; none where it is taken
unfoldable pub refusal_in : Life → Input → Option PollError
refusal_in (Stopped sections) input = Some errors.Stopped
refusal_in (Running made past) input = refusal_of made past input

-- the life behind an input
unfoldable pub after_poll : Input → ℕ → Stop → Life → Life
after_poll input now stop (Stopped sections) = Stopped sections
after_poll input now stop (Running made past) = going_on made (polled made past input now stop ∷ past)

-- an input was taken, and gave this
unfoldable pub IsPolled : Life → Input → ℕ → Stop → Outcome → Option TakenInside → StepOut → Type 0
IsPolled (Stopped sections) input now stop outcome taken out = ⊥
IsPolled (Running made past) input now stop outcome taken out =
    (refusal_of made past input ≡ None)
    × (outcome ≡ (polled made past input now stop).outcome)
    × (taken ≡ taken_inside made past (polled made past input now stop))
    × (out ≡ (polled made past input now stop).out)

-- ---- starts

-- the life behind a start
unfoldable pub after_start : EngineMade → ℕ → Stop → Life
after_start made now stop = going_on made (begun made now stop ∷ [])

-- a start gave this
unfoldable pub IsStarted : EngineMade → ℕ → Stop → Outcome → StepOut → Type 0
IsStarted made now stop outcome out = (outcome ≡ (begun made now stop).outcome) × (out ≡ (begun made now stop).out)
