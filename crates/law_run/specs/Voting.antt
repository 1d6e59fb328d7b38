-- Which votes the members sent, and whose signature counts.
use Rattle.std.specs.Prelude.{ℕ, ◌≡◌, ◌++◌, List, [], ◌∷◌, Contains, Result, Ok, Err, if◌then◌else◌}
use Rattle.std.specs.List.{flat_map}
use Rattle.simplex_values.specs.declared.plan.Channel.{Channel}
use Rattle.simplex_values.specs.declared.plan.Channel.TheVariants as channels
use Rattle.simplex_values.specs.declared.proposal.Subject.{Subject}
use Rattle.simplex_wire.specs.declared.error.DecodeError.{DecodeError}
use Rattle.simplex_wire.specs.declared.vote.Vote.{Vote}
use Rattle.simplex_wire.specs.Fields.{vote_subject, vote_attestation}
use Rattle.simplex_wire.specs.Format.{whole}
use Rattle.simplex_wire.specs.Message as format
use Rattle.simplex_transcript.specs.declared.entry.Packet.{Packet}
use Rattle.model_run.specs.Life.{Noted}
use Rattle.model_run.specs.Members.{is_same_node}
use Rattle.model_run.specs.Entries.{node_of}
use Rattle.simplex_wire.specs.declared.attestation.Attestation.{Attestation}

-- the vote that was read, where one was
abbrev pub read_vote : Result Vote DecodeError → List Vote
read_vote (Ok v) = v ∷ []
read_vote (Err error) = []

-- the vote that bytes on this channel are
abbrev pub vote_on : Channel → List ℕ → List Vote
vote_on channels.Vote bytes = read_vote (whole format.vote bytes)
vote_on _ bytes = []

-- the vote that the packet is, where it is from the member's first node
abbrev pub vote_in : ℕ → Packet → List Vote
vote_in member packet = if is_same_node (node_of member) packet.from then vote_on packet.channel packet.bytes else []

-- the votes that the member sent, in order
unfoldable pub sent_votes : List Noted → ℕ → List Vote
sent_votes [] member = []
sent_votes (noted ∷ before) member = sent_votes before member ++ flat_map (vote_in member) noted.entry.packets

-- the member sent a vote on the subject
abbrev pub HasVoted : List Noted → ℕ → Subject → Type 0
HasVoted noted member subject = (v : Vote) × Contains (sent_votes noted member) v × (vote_subject v ≡ subject)

-- the signer of the attestation sent this very vote: on the subject, with the attestation
abbrev pub HasSigned : List Noted → Subject → Attestation → Type 0
HasSigned noted subject a = (v : Vote) × Contains (sent_votes noted a.signer) v
    × (vote_subject v ≡ subject) × (vote_attestation v ≡ a)
