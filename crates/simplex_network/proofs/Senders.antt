-- Each packet was sent by a member.
use Rattle.std.proofs.Common.{◌≡◌, ℕ, zero, suc, List, [], ◌∷◌, Bool, true, false, arith, subst, sym, length, ◌+◌, ◌<◌, ◌^◌, if◌then◌else◌}
use Rattle.std.specs.Prelude.{◌==◌, All, IsNone, Option, Some, None}
use Rattle.std.specs.List.{slice_get, list_any}
use Rattle.std.specs.Option.{option_and_then}
use Rattle.std.proofs.lemmas.List.Elements.{All-head, All-tail}
use Rattle.simplex_transcript.specs.declared.entry.Packet.{Packet}
use Rattle.simplex_transcript.specs.declared.node.Node.{Node}
use Rattle.simplex_transcript.specs.declared.node.Ref.{Ref}
use Rattle.simplex_transcript.specs.declared.setup.Setup.{Setup}
use Rattle.model_run.specs.Kinds.{members_of, is_same_node}
use Rattle.model_run.specs.Setups.{first_bad}
use Rattle.model_run.specs.Life.{Noted}
use Rattle.model_run.specs.Requests.{packet_at, if_for, packet_for}
use Rattle.simplex_members.proofs.Good.{good-few}
use Rattle.simplex_records.specs.Events.{AreFrom}
use Rattle.simplex_network.specs.Stands.{AreOfMembers}

all_at : (P : Packet → Type 0) (ps : List Packet) (place : ℕ) (packet : Packet) → All P ps → slice_get ps place ≡ Some packet → P packet
all_at P [] place packet all is = absurd (cc)
all_at P (p ∷ ps) zero packet all is = let e : p ≡ packet = cc in subst P e (All-head P p ps all)
all_at P (p ∷ ps) (suc place) packet all is = all_at P ps place packet (All-tail P p ps all) is

-- no packet was sent yet
pub senders-none : (setup : Setup) → AreOfMembers setup []
unfolding packet_at
senders-none setup = λ at packet is. absurd (cc)

-- one more event, whose packets are those of a member's node
pub senders-more : (setup : Setup) (before : List Noted) (noted : Noted) (node : Node) → node.member < members_of setup → AreFrom node noted.entry.packets → AreOfMembers setup before
    → AreOfMembers setup (noted ∷ before)
unfolding packet_at
senders-more setup before noted node below from of = λ at packet is. by at packet (length before + 1 == at.event) is
  where
    by : (at : Ref) (packet : Packet) (b : Bool) → (if b then slice_get noted.entry.packets at.place else packet_at before at) ≡ Some packet → packet.from.member < members_of setup
    by at packet true e = subst (λ (n : Node). n.member < members_of setup) (sym (all_at (λ (p : Packet). p.from ≡ node) noted.entry.packets at.place packet from e)) below
    by at packet false e = of at packet e

-- one more, without packets
pub senders-same : (setup : Setup) (before : List Noted) (noted : Noted) → noted.entry.packets ≡ [] → AreOfMembers setup before → AreOfMembers setup (noted ∷ before)
unfolding packet_at
senders-same setup before noted none of = λ at packet is. by at packet (length before + 1 == at.event) is
  where
    nothing : (ps : List Packet) (place : ℕ) (packet : Packet) → ps ≡ [] → slice_get ps place ≡ Some packet → ⊥
    nothing [] place packet e is = cc
    nothing (p ∷ ps) place packet e is = cc

    by : (at : Ref) (packet : Packet) (b : Bool) → (if b then slice_get noted.entry.packets at.place else packet_at before at) ≡ Some packet → packet.from.member < members_of setup
    by at packet true e = absurd (nothing noted.entry.packets at.place packet none e)
    by at packet false e = of at packet e

pub packet-there : (node : Node) (o : Option Packet) (packet : Packet) → option_and_then (if_for node) o ≡ Some packet → o ≡ Some packet
packet-there node None packet is = absurd (cc)
packet-there node (Some p) packet is = by (list_any (is_same_node node) p.to) is
  where
    by : (b : Bool) → (if b then Some p else None) ≡ Some packet → Some p ≡ Some packet
    by true e = e
    by false e = absurd (cc)

-- the members are few
pub sender-small : (setup : Setup) (before : List Noted) (node : Node) (at : Ref) (packet : Packet) → IsNone (first_bad setup) → AreOfMembers setup before
    → packet_for before node at ≡ Some packet → packet.from.member < 2 ^ 32
unfolding packet_for
sender-small setup before node at packet good of some =
    let few = good-few setup good in
    let below = of at packet (packet-there node (packet_at before at) packet some) in
    omega (arith, few, below)
