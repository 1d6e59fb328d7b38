-- A resolver's turns.
use Rattle.std.specs.Prelude.{ℕ, List, [], ◌∷◌, Option, Some, None, if◌then◌else◌}
use Rattle.simplex_values.specs.declared.plan.Channel.{Channel}
use Rattle.simplex_values.specs.declared.plan.Channel.TheVariants as channels
use Rattle.simplex_messages.specs.declared.resolver.MailboxMessage.{MailboxMessage}
use Rattle.simplex_messages.specs.declared.resolver.HandlerMessage.{HandlerMessage}
use Rattle.simplex_messages.specs.declared.resolver.ResolverInput.{ResolverInput}
use Rattle.simplex_messages.specs.declared.resolver.ResolverInput.TheVariants as inputs
use Rattle.simplex_messages.specs.declared.step.StepOut.{StepOut}
use Rattle.simplex_messages.specs.Step.{no_out}
use Rattle.model_resolver.specs.Asks.{holds_member}
use Rattle.model_resolver.specs.Views.{is_reached}
use Rattle.model_resolver.specs.Resolver.{Made, Given, Stepped, HandlerTaken, step_out, handler_message, deadline_after, blocked_after}
use Rattle.simplex_turns.specs.declared.feed.Delivery.{Delivery}

-- where a resolver's turns have come: what it was given, the newest first, and what of its feed is left
pub record ResolverPlace : Type 0 where
  pub past : List Given
  pub feed : List Delivery

-- a packet is an input of the resolver on its own channel
abbrev pub answered_on : Channel → ℕ → List ℕ → Option ResolverInput
answered_on channels.Vote sender bytes = None
answered_on channels.Certificate sender bytes = None
answered_on channels.Resolver sender bytes = Some (inputs.Packet sender bytes)

-- unless its fetcher counts its sender as blocked
abbrev pub resolver_input : (blocked : List ℕ) → Delivery → Option ResolverInput
resolver_input blocked delivery =
    if holds_member blocked delivery.sender then None else answered_on delivery.channel delivery.sender delivery.bytes

-- a step at this clock, and an empty one where there is no input
abbrev pub resolver_step : Made → ℕ → ResolverPlace → Option ResolverInput → ResolverPlace × StepOut
resolver_step made now place None = (place, no_out)
resolver_step made now place (Some input) =
    (record place { past = Stepped input now ∷ place.past }, step_out made place.past input now)

-- the next packet of the feed, and where there is none a deadline of the fetcher that is reached
abbrev pub on_feed : Made → ℕ → List Given → List Delivery → ResolverPlace × StepOut
on_feed made now past [] =
    resolver_step made now (record { past = past; feed = [] })
    (if is_reached now (deadline_after made past) then Some inputs.Timer else None)
on_feed made now past (delivery ∷ feed) =
    resolver_step made now (record { past = past; feed = feed }) (resolver_input (blocked_after made past) delivery)

abbrev pub on_handler : Made → ℕ → ResolverPlace → Option HandlerMessage → ResolverPlace × StepOut
on_handler made now place (Some message) =
    resolver_step made now (record place { past = HandlerTaken ∷ place.past }) (Some (inputs.Handler message))
on_handler made now place None = on_feed made now place.past place.feed

-- a turn takes a message, else one of its handler, else the next packet of the feed, else a deadline that is reached
unfoldable pub resolver_turn : Made → ℕ → ResolverPlace → Option MailboxMessage → ResolverPlace × StepOut
resolver_turn made now place (Some message) = resolver_step made now place (Some (inputs.Mail message))
resolver_turn made now place None = on_handler made now place (handler_message made place.past)
