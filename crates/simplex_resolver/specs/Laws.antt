-- What is promised of a history.
use Rattle.std.specs.Prelude.{◌≡◌, ◌⊎◌, List, [], ◌∷◌, Some}
use Rattle.simplex_messages.specs.declared.resolver.HandlerMessage.{HandlerMessage}
use Rattle.simplex_messages.specs.declared.resolver.ResolverInput.TheVariants as inputs
use Rattle.model_resolver.specs.Resolver.{Made, Given, Stepped, HandlerTaken, Blocked, handler_message}

-- the message was taken from the handler's mailbox
unfoldable pub WasTaken : Made → HandlerMessage → List Given → Type 0
WasTaken made message [] = ⊥
WasTaken made message (HandlerTaken ∷ past) = (handler_message made past ≡ Some message) ⊎ WasTaken made message past
WasTaken made message (Stepped input now ∷ past) = WasTaken made message past
WasTaken made message (Blocked member ∷ past) = WasTaken made message past

-- each message that was handled had been taken from the handler's mailbox
unfoldable pub HandlesTaken : Made → List Given → Type 0
HandlesTaken made [] = Unit {0}
HandlesTaken made (HandlerTaken ∷ past) = HandlesTaken made past
HandlesTaken made (Blocked member ∷ past) = HandlesTaken made past
HandlesTaken made (Stepped (inputs.Handler message) now ∷ past) = WasTaken made message past × HandlesTaken made past
HandlesTaken made (Stepped input now ∷ past) = HandlesTaken made past
