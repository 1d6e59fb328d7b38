-- To which nodes a send goes.
use Rattle.std.specs.Prelude.{ℕ, ◌==◌, ◌&&◌, ◌||◌, Bool, not, List, [], ◌∷◌, filter, flat_map, Result, Ok, Err}
use Rattle.std.specs.List.{range_with_len}
use Rattle.simplex_values.specs.declared.plan.Channel.{Channel}
use Rattle.simplex_values.specs.declared.plan.Channel.TheVariants as channels
use Rattle.simplex_values.specs.declared.plan.Recipients.{Recipients}
use Rattle.simplex_values.specs.declared.plan.Recipients.TheVariants as recipients
use Rattle.simplex_wire.specs.declared.error.DecodeError.{DecodeError}
use Rattle.simplex_wire.specs.declared.vote.Vote.{Vote}
use Rattle.simplex_wire.specs.declared.certificate.Certificate.{Certificate}
use Rattle.simplex_wire.specs.declared.resolver.ResolverMessage.{ResolverMessage}
use Rattle.simplex_wire.specs.declared.resolver.ResolverBody.{ResolverBody}
use Rattle.simplex_wire.specs.declared.resolver.ResolverBody.TheVariants as bodies
use Rattle.simplex_wire.specs.Format.{whole}
use Rattle.simplex_wire.specs.Message as format
use Rattle.simplex_wire.specs.ResolverMessage.{resolver_message}
use Rattle.simplex_messages.specs.Policies.{vote_view, certificate_view}
use Rattle.simplex_transcript.specs.declared.entry.Packet.{Packet}
use Rattle.simplex_transcript.specs.declared.node.Node.{Node}
use Rattle.simplex_transcript.specs.declared.setup.Setup.{Setup}
use Rattle.model_run.specs.Kinds.{members_of, is_twin, nodes_at}
use Rattle.model_run.specs.Twins.{is_in_part}

-- ---- the view of a packet: what does not decode has view 0

abbrev pub view_of_vote : Result Vote DecodeError → ℕ
view_of_vote (Ok vote) = vote_view vote
view_of_vote (Err fault) = 0

abbrev pub view_of_certificate : Result Certificate DecodeError → ℕ
view_of_certificate (Ok certificate) = certificate_view certificate
view_of_certificate (Err fault) = 0

-- a request has the view that it asks for, a response that of its certificate, and an error has view 0
abbrev pub view_of_body : ResolverBody → ℕ
view_of_body (bodies.Request view) = view
view_of_body (bodies.Response bytes) = view_of_certificate (whole format.certificate bytes)
view_of_body bodies.Error = 0

abbrev pub view_of_message : Result ResolverMessage DecodeError → ℕ
view_of_message (Ok message) = view_of_body message.body
view_of_message (Err fault) = 0

unfoldable pub packet_view : Channel → List ℕ → ℕ
packet_view channels.Vote bytes = view_of_vote (whole format.vote bytes)
packet_view channels.Certificate bytes = view_of_certificate (whole format.certificate bytes)
packet_view channels.Resolver bytes = view_of_message (whole resolver_message bytes)

-- ---- where it goes

-- where there is a twin at an end, the member at the other end talks with that half of it at the packet's view
unfoldable pub is_routed : Setup → ℕ → Node → Node → Bool
is_routed setup view from to =
    (not (is_twin setup from.member) || is_in_part setup view from.half to.member)
    && (not (is_twin setup to.member) || is_in_part setup view to.half from.member)

-- the members that a send names: all are those but the sender, in rising order
abbrev pub members_for : Setup → ℕ → Recipients → List ℕ
members_for setup from recipients.All = filter (λ m. not (m == from)) (range_with_len 0 (members_of setup))
members_for setup from (recipients.Some members) = members
members_for setup from (recipients.One member) = member ∷ []

-- the nodes that a send goes to: those of each member that it names, as the script has it
unfoldable pub nodes_for : Setup → Node → Channel → Recipients → List ℕ → List Node
nodes_for setup from channel to bytes =
    filter (is_routed setup (packet_view channel bytes) from)
    (flat_map (nodes_at setup) (members_for setup from.member to))

-- the packet that a send is
abbrev pub packet_for_send : Setup → Node → Channel → Recipients → List ℕ → Packet
packet_for_send setup from channel to bytes =
    record { from = from; channel = channel; to = nodes_for setup from channel to bytes; bytes = bytes }
