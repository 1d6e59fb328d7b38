-- The votes that a member sent, read from the packets of its node.
use Rattle.std.specs.Prelude.{ℕ, ◌&&◌, Bool, true, false, List, filter_map, flat_map, Option, None, if◌then◌else◌}
use Rattle.std.specs.List.{list_any}
use Rattle.std.specs.Result.{result_ok}
use Rattle.simplex_values.specs.declared.plan.Channel.{Channel}
use Rattle.simplex_values.specs.declared.plan.Channel.TheVariants as channels
use Rattle.simplex_values.specs.declared.proposal.Subject.{Subject}
use Rattle.simplex_wire.specs.declared.vote.Vote.{Vote}
use Rattle.simplex_wire.specs.Format.{whole}
use Rattle.simplex_wire.specs.Message as format
use Rattle.simplex_wire.specs.Fields.{vote_subject}
use Rattle.simplex_round.specs.Votes.{is_same_subject}
use Rattle.simplex_transcript.specs.declared.entry.Packet.{Packet}
use Rattle.model_run.specs.Kinds.{is_same_node, node_of}
use Rattle.model_run.specs.Life.{Noted}

abbrev pub is_for_votes : Channel → Bool
is_for_votes channels.Vote = true
is_for_votes _ = false

-- the vote that the packet is, where the member's node sent it on the vote channel
abbrev pub vote_sent : ℕ → Packet → Option Vote
vote_sent member packet =
    if is_for_votes packet.channel && is_same_node packet.from (node_of member)
    then result_ok (whole format.vote packet.bytes) else None

-- all that the member sent. A vote that was signed or stored and not sent is not among them
unfoldable pub sent_votes : List Noted → ℕ → List Vote
sent_votes before member = flat_map (λ (noted : Noted). filter_map (vote_sent member) noted.entry.packets) before

-- whether it sent a vote on the subject
unfoldable pub has_sent : List Noted → ℕ → Subject → Bool
has_sent before member subject =
    list_any (λ vote. is_same_subject (vote_subject vote) subject) (sent_votes before member)
