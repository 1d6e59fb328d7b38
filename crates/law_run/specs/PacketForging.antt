-- What is forged in the packets of faulty members.
use Rattle.std.specs.Prelude.{◌≡◌, ◌≢◌, ℕ, true, List, All, Contains, Ok}
use Rattle.simplex_values.specs.declared.plan.Channel.TheVariants as channels
use Rattle.simplex_wire.specs.declared.vote.Vote.{Vote}
use Rattle.simplex_wire.specs.Fields.{vote_subject}
use Rattle.simplex_wire.specs.Format.{whole}
use Rattle.simplex_wire.specs.Message as format
use Rattle.simplex_types.specs.Keyed.{keyed_verifies}
use Rattle.simplex_transcript.specs.declared.entry.Entry.{Entry}
use Rattle.simplex_transcript.specs.declared.entry.Packet.{Packet}
use Rattle.simplex_transcript.specs.declared.setup.Setup.{Setup}
use Rattle.model_run.specs.Forged.{Signed, signed_in}
use Rattle.model_run.specs.Kinds.{members_of, node_of, is_honest, is_faulty_member}
use Rattle.model_run.specs.Life.{Noted}

-- the member's node sent this vote over the vote channel, in one of these entries
pub record HasSent (before : List Noted) (member : ℕ) (vote : Vote) : Type 0 where
  pub noted : Noted
  pub stands : Contains before noted
  pub packet : Packet
  pub holds : Contains noted.entry.packets packet
  pub from : packet.from ≡ node_of member
  pub channel : packet.channel ≡ channels.Vote
  pub says : whole format.vote packet.bytes ≡ Ok vote

-- an honest member's attestation that verifies, on a subject for which the member sent no vote
pub record IsForged (setup : Setup) (before : List Noted) (s : Signed) : Type 0 where
  pub honest : is_honest setup s.attestation.signer ≡ true
  pub verifies : keyed_verifies setup.key_base (members_of setup) s.subject s.attestation ≡ true
  pub unsent : (vote : Vote) → HasSent before s.attestation.signer vote → vote_subject vote ≢ s.subject

-- where the packet is a faulty member's, nothing that is signed in its bytes is forged
abbrev pub IsUnforged : Setup → List Noted → Packet → Type 0
IsUnforged setup before packet =
    is_faulty_member setup packet.from.member ≡ true
    → All (λ (s : Signed). IsForged setup before s → ⊥) (signed_in packet.channel packet.bytes)

-- no packet of the entry holds what is forged
abbrev pub ForgesNothing : Setup → List Noted → Entry → Type 0
ForgesNothing setup before entry = All (IsUnforged setup before) entry.packets
