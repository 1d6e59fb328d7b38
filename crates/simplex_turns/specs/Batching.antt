-- A batcher's turns.
use Rattle.std.specs.Prelude.{◌≡◌, ℕ, List, ◌∷◌, ◌++◌, drop, Option, Some, None, if◌then◌else◌}
use Rattle.std.specs.Option.{option_and_then}
use Rattle.simplex_values.specs.declared.plan.Channel.{Channel}
use Rattle.simplex_values.specs.declared.plan.Channel.TheVariants as channels
use Rattle.simplex_mailbox.specs.Waiting.{front}
use Rattle.simplex_messages.specs.declared.batcher.Message.{Message}
use Rattle.simplex_messages.specs.declared.batcher.BatcherInput.{BatcherInput}
use Rattle.simplex_messages.specs.declared.batcher.BatcherInput.TheVariants as inputs
use Rattle.simplex_messages.specs.declared.call.Call.{Call}
use Rattle.simplex_messages.specs.declared.step.StepOut.{StepOut}
use Rattle.simplex_messages.specs.Step.{no_out, blocked_by_calls}
use Rattle.model_resolver.specs.Asks.{holds_member}
use Rattle.model_steps.specs.Batcher.{Made, Timed, step_out}
use Rattle.simplex_turns.specs.declared.feed.Delivery.{Delivery}

-- where a batcher's turns have come: what it was given, the newest first, what of its feed is left, and the members that
-- the engine blocked before, or the batcher since
pub record BatcherPlace : Type 0 where
  pub past : List Timed
  pub feed : List Delivery
  pub blocked : List ℕ

-- besides those that were blocked before, those are whom the calls block, and no others
abbrev pub AlsoBlocks : List Call → (old new : List ℕ) → Type 0
AlsoBlocks calls old new = (member : ℕ) → holds_member new member ≡ holds_member (blocked_by_calls calls ++ old) member

-- a packet is an input of the batcher on the channels of votes and of certificates
abbrev pub heard_on : Channel → ℕ → List ℕ → Option BatcherInput
heard_on channels.Vote sender bytes = Some (inputs.Vote sender bytes)
heard_on channels.Certificate sender bytes = Some (inputs.Certificate sender bytes)
heard_on channels.Resolver sender bytes = None

-- unless its sender is blocked
abbrev pub batcher_input : (blocked : List ℕ) → Delivery → Option BatcherInput
batcher_input blocked delivery =
    if holds_member blocked delivery.sender then None else heard_on delivery.channel delivery.sender delivery.bytes

-- a step at this clock, and an empty one where there is no input
abbrev pub batcher_step : Made → ℕ → BatcherPlace → Option BatcherInput → BatcherPlace × StepOut
batcher_step made now place None = (place, no_out)
batcher_step made now place (Some input) =
    let timed : Timed = record { input = input; now = now } in
    let out = step_out made place.past timed in
    (record place { past = timed ∷ place.past; blocked = blocked_by_calls out.calls ++ place.blocked }, out)

-- a turn takes a message, else the next packet of the feed
unfoldable pub batcher_turn : Made → ℕ → BatcherPlace → Option Message → BatcherPlace × StepOut
batcher_turn made now place (Some message) = batcher_step made now place (Some (inputs.Mail message))
batcher_turn made now place None =
    batcher_step made now (record place { feed = drop 1 place.feed })
    (option_and_then (batcher_input place.blocked) (front place.feed))
