-- The sends of a step, by the view that each asks for.
use Rattle.std.specs.Prelude.{ℕ, nat_le, if◌then◌else◌, List, [], ◌∷◌, map, reverse, Result, Ok, Err}
use Rattle.simplex_values.specs.declared.plan.Channel.TheVariants as channels
use Rattle.simplex_values.specs.declared.plan.Recipients.TheVariants as recipients
use Rattle.simplex_wire.specs.declared.error.DecodeError.{DecodeError}
use Rattle.simplex_wire.specs.declared.resolver.ResolverMessage.{ResolverMessage}
use Rattle.simplex_wire.specs.declared.resolver.ResolverBody.{ResolverBody}
use Rattle.simplex_wire.specs.declared.resolver.ResolverBody.TheVariants as body
use Rattle.simplex_wire.specs.Format.{whole}
use Rattle.simplex_wire.specs.ResolverMessage.{resolver_message}
use Rattle.simplex_messages.specs.declared.call.Call.{Call}
use Rattle.simplex_messages.specs.declared.call.Call.TheVariants as calls
use Rattle.model_resolver.specs.declared.sending.Sending.{Sending}

-- the view that a request asks for; an answer asks for none, and counts as view 0
abbrev pub view_of_body : ResolverBody → ℕ
view_of_body (body.Request view) = view
view_of_body _ = 0

abbrev pub view_of_message : Result ResolverMessage DecodeError → ℕ
view_of_message (Ok message) = view_of_body message.body
view_of_message (Err fault) = 0

-- the view that these bytes ask for
unfoldable pub asked_in : List ℕ → ℕ
asked_in bytes = view_of_message (whole resolver_message bytes)

-- bytes for a member
abbrev pub sending : ℕ → List ℕ → Sending
sending to bytes = record { view = asked_in bytes; to = to; bytes = bytes }

-- one more send, where the others are in falling order of view: it is behind those of later views alone
unfoldable pub placed : Sending → List Sending → List Sending
placed sent [] = sent ∷ []
placed sent (other ∷ others) = if nat_le other.view sent.view then sent ∷ other ∷ others else other ∷ placed sent others

-- a send on the resolver channel
abbrev pub send_call : Sending → Call
send_call sent = calls.Send channels.Resolver (recipients.One sent.to) sent.bytes

-- the calls of sends in falling order of view, in rising order
unfoldable pub send_calls : List Sending → List Call
send_calls sends = map send_call (reverse sends)
