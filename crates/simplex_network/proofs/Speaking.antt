-- A network in which a faulty member hears or sends bytes.
use Rattle.std.proofs.Common.{◌≡◌, ℕ, List, [], ◌∷◌, true, false, refl, sym, ap, subst, ◌∙◌, ◌<◌, map}
use Rattle.std.specs.Prelude.{not, Option, Some, None}
use Rattle.std.specs.List.{slice_get}
use Rattle.std.specs.Option.{option_map, option_map_or}
use Rattle.std.proofs.lemmas.List.Elements.{All-nil, All-cons}
use Rattle.simplex_values.specs.declared.plan.Channel.{Channel}
use Rattle.simplex_transcript.specs.declared.event.Event.TheVariants as events
use Rattle.simplex_transcript.specs.declared.entry.Entry.{Entry}
use Rattle.simplex_transcript.specs.declared.entry.Packet.{Packet}
use Rattle.simplex_transcript.specs.declared.node.Node.{Node}
use Rattle.simplex_transcript.specs.declared.node.Ref.{Ref}
use Rattle.simplex_transcript.specs.declared.setup.Setup.{Setup}
use Rattle.simplex_transcript.specs.declared.setup.MemberKind.{MemberKind}
use Rattle.simplex_transcript.specs.declared.setup.MemberKind.TheVariants as kinds
use Rattle.model_run.specs.Setting.{Setting}
use Rattle.model_run.specs.Kinds.{members_of, is_of_kind, is_faulty, is_honest, has_engine, runs_engine, node_of}
use Rattle.model_run.specs.Members.{kind_of}
use Rattle.model_run.specs.Life.{Noted, clock_of}
use Rattle.model_run.specs.Requests.{is_start, packet_at, packet_for}
use Rattle.model_run.specs.Mocks.{Sent, Heard, heard_by}
use Rattle.model_run.specs.Hearing.{heard_of, heard_at, heard_in}
use Rattle.model_run.specs.Entries.{sent_by}
use Rattle.law_run.proofs.Further.{same_self}
use Rattle.simplex_records.specs.Events.{AreFrom}
use Rattle.simplex_records.specs.Stands.{RecordsStand}
use Rattle.simplex_network.specs.declared.network.Network.{Network}
use Rattle.simplex_network.specs.Parts.{Part, Hears, part_in, changed}
use Rattle.law_run.specs.EventForging.{is_impersonator}
use Rattle.simplex_network.specs.Polls.{IsOf}
use Rattle.simplex_network.specs.Stands.{Keeps, HostsStand}
use Rattle.simplex_network.proofs.Events.{noted_hearing, noted_bytes}
use Rattle.simplex_network.proofs.ManyHosts.{hosts-like}
use Rattle.simplex_network.proofs.Moves.{parts-hear, parts-still}
use Rattle.simplex_network.proofs.Senders.{packet-there, senders-more}

-- ---- kinds

-- who runs no engine is not honest
pub no_honest : (setup : Setup) (member : ℕ) → runs_engine setup member ≡ false → is_honest setup member ≡ false
no_honest setup member engine = by (slice_get setup.members member) engine
  where
    by : (o : Option MemberKind) → option_map_or has_engine o false ≡ false → option_map_or (λ kind. not (is_faulty kind)) o false ≡ false
    by None e = refl
    by (Some kinds.Honest) e = cc
    by (Some kinds.Silent) e = refl
    by (Some kinds.Conflicter) e = refl
    by (Some kinds.Equivocator) e = refl
    by (Some kinds.Impersonator) e = refl
    by (Some kinds.Nuller) e = refl
    by (Some kinds.NullifyOnly) e = refl
    by (Some (kinds.Outdated views)) e = refl
    by (Some kinds.Reconfigurer) e = refl
    by (Some kinds.Corrupt) e = refl
    by (Some kinds.Unrecovering) e = refl
    by (Some kinds.Twin) e = refl

-- ---- packets

all_from : (setup : Setup) (node : Node) (sent : List Sent) → AreFrom node (map (sent_by setup node) sent)
all_from setup node [] = All-nil (λ (p : Packet). p.from ≡ node)
all_from setup node (one ∷ sent) = All-cons (λ (p : Packet). p.from ≡ node) (sent_by setup node one) (map (sent_by setup node) sent) refl (all_from setup node sent)

one_from : (member : ℕ) (channel : Channel) (to : List Node) (bytes : List ℕ)
    → AreFrom (node_of member) (record { from = node_of member; channel = channel; to = to; bytes = bytes } ∷ [])
one_from member channel to bytes =
    All-cons (λ (p : Packet). p.from ≡ node_of member) (record { from = node_of member; channel = channel; to = to; bytes = bytes }) [] refl
    (All-nil (λ (p : Packet). p.from ≡ node_of member))

hears_it : (before : List Noted) (node : Node) (at : Ref) (packet : Packet) → packet_for before node at ≡ Some packet
    → heard_at before node (events.Deliver node at) ≡ Some (heard_of packet)
unfolding packet_for
hears_it before node at packet some = rw (same_self node) (ap (λ o. option_map heard_of o) (packet-there node (packet_at before at) packet some))

-- ---- a faulty member hears a packet

deliver_of : (node : Node) (at : Ref) → IsOf (events.Deliver node at) node false
deliver_of node at = record { of = λ other. refl; start = refl }

part_hears : (setting : Setting) (before : List Noted) (node : Node) → runs_engine setting.setup node.member ≡ false → part_in setting before node ≡ Hears (heard_in before node)
unfolding part_in
part_hears setting before node e = rw e refl

-- what it sends is the rule's
pub network-says : (old : Network) (setting : Setting) (before : List Noted) (node : Node) (packet : Packet) (sent : List Sent) (packets : List Packet) → Keeps old setting before
    → runs_engine setting.setup node.member ≡ false
    → ((setup : Setup) (parts : Node → Part) (past : List Heard) → HostsStand setup old.hosts.list.items parts → parts node ≡ Hears past
    → sent ≡ heard_by setup node.member (kind_of setup node.member) past (heard_of packet))
    → packets ≡ map (sent_by old.setup node) sent
    → packets ≡ map (sent_by setting.setup node) (heard_by setting.setup node.member (kind_of setting.setup node.member) (heard_in before node) (heard_of packet))
network-says old setting before node packet sent packets s engine says made =
    rw s.given at made ∙ ap (λ (l : List Sent). map (sent_by setting.setup node) l) (says setting.setup (part_in setting before) (heard_in before node) (rw s.given at s.hosts) (part_hears setting before node engine))

pub network-heard : (old new : Network) (setting : Setting) (before : List Noted) (node : Node) (at : Ref) (packet : Packet) (packets : List Packet) (entry : Entry)
    → new.setup ≡ old.setup → new.genesis ≡ old.genesis → new.failed ≡ old.failed → new.clock ≡ old.clock → Keeps old setting before → node.member < members_of setting.setup → runs_engine setting.setup node.member ≡ false
    → packet_for before node at ≡ Some packet
    → packets ≡ (noted_hearing setting.setup before node at packet).entry.packets
    → ((setup : Setup) (parts : Node → Part) (past : List Heard) → HostsStand setup old.hosts.list.items parts → parts node ≡ Hears past
    → HostsStand setup new.hosts.list.items (changed node (Hears (heard_of packet ∷ past)) parts))
    → entry ≡ (noted_hearing setting.setup before node at packet).entry
    → ((setup : Setup) (before : List Noted) (noted : Noted) → noted.entry ≡ entry → is_start noted.event ≡ false → is_honest setup node.member ≡ false → AreFrom node packets
    → RecordsStand old.records setup before → RecordsStand new.records setup (noted ∷ before))
    → Keeps new setting (noted_hearing setting.setup before node at packet ∷ before)
unfolding clock_of
network-heard old new setting before node at packet packets entry same_setup same_genesis same_failed same_clock s below engine some made moves entry_is keeps =
    let noted = noted_hearing setting.setup before node at packet in
    record {
      given = same_setup ∙ s.given;
      genesis = same_genesis ∙ s.genesis;
      alive = same_failed ∙ s.alive;
      clock = same_clock ∙ s.clock;
      hosts = rw (same_setup, s.given) (hosts-like setting.setup new.hosts.list.items _ (part_in setting (noted ∷ before))
          (parts-hear setting before noted node (heard_of packet) (deliver_of node at) engine (hears_it before node at packet some))
          (moves setting.setup (part_in setting before) (heard_in before node) (rw s.given at s.hosts) (part_hears setting before node engine)));
      records = keeps setting.setup before noted (sym entry_is) refl (no_honest setting.setup node.member engine)
          (subst (λ (l : List Packet). AreFrom node l) (sym made) (all_from setting.setup node (heard_by setting.setup node.member (kind_of setting.setup node.member) (heard_in before node) (heard_of packet))))
          s.records;
      senders = senders-more setting.setup before noted node below (all_from setting.setup node (heard_by setting.setup node.member (kind_of setting.setup node.member) (heard_in before node) (heard_of packet))) s.senders;
    }

-- what an impersonator says is refused, and it goes on as before
pub network-unheard : (old new : Network) (setting : Setting) (before : List Noted) (node : Node) → new.setup ≡ old.setup → new.genesis ≡ old.genesis → new.failed ≡ old.failed → new.clock ≡ old.clock
    → new.records ≡ old.records → Keeps old setting before → runs_engine setting.setup node.member ≡ false → is_of_kind is_impersonator old.setup node.member ≡ true
    → ((setup : Setup) (parts : Node → Part) (past : List Heard) → is_of_kind is_impersonator setup node.member ≡ true → HostsStand setup old.hosts.list.items parts → parts node ≡ Hears past
    → HostsStand setup new.hosts.list.items parts)
    → Keeps new setting before
network-unheard old new setting before node same_setup same_genesis same_failed same_clock same_records s engine impersonates rests =
    record {
      given = same_setup ∙ s.given;
      genesis = same_genesis ∙ s.genesis;
      alive = same_failed ∙ s.alive;
      clock = same_clock ∙ s.clock;
      hosts = rw (same_setup, s.given) (rests setting.setup (part_in setting before) (heard_in before node) (rw s.given at impersonates) (rw s.given at s.hosts) (part_hears setting before node engine));
      records = rw same_records s.records;
      senders = s.senders;
    }

-- ---- bytes that are injected

pub network-spoke : (old new : Network) (setting : Setting) (before : List Noted) (member : ℕ) (channel : Channel) (to : List Node) (bytes : List ℕ) (packets : List Packet) (entry : Entry)
    → new.setup ≡ old.setup → new.genesis ≡ old.genesis → new.failed ≡ old.failed → new.clock ≡ old.clock → new.hosts ≡ old.hosts → Keeps old setting before → member < members_of setting.setup → is_honest setting.setup member ≡ false
    → packets ≡ (noted_bytes before member channel to bytes).entry.packets
    → entry ≡ (noted_bytes before member channel to bytes).entry
    → ((setup : Setup) (before : List Noted) (noted : Noted) → noted.entry ≡ entry → is_start noted.event ≡ false → is_honest setup member ≡ false → AreFrom (node_of member) packets
    → RecordsStand old.records setup before → RecordsStand new.records setup (noted ∷ before))
    → Keeps new setting (noted_bytes before member channel to bytes ∷ before)
unfolding clock_of
network-spoke old new setting before member channel to bytes packets entry same_setup same_genesis same_failed same_clock same_hosts s below faulty made entry_is keeps =
    let noted = noted_bytes before member channel to bytes in
    record {
      given = same_setup ∙ s.given;
      genesis = same_genesis ∙ s.genesis;
      alive = same_failed ∙ s.alive;
      clock = same_clock ∙ s.clock;
      hosts = rw (same_setup, s.given, same_hosts) (hosts-like setting.setup old.hosts.list.items (part_in setting before) (part_in setting (noted ∷ before))
          (parts-still setting before noted (λ other runs. refl) (λ other. refl)) (rw s.given at s.hosts));
      records = keeps setting.setup before noted (sym entry_is) refl faulty
          (subst (λ (l : List Packet). AreFrom (node_of member) l) (sym made) (one_from member channel to bytes)) s.records;
      senders = senders-more setting.setup before noted (node_of member) below (one_from member channel to bytes) s.senders;
    }
