-- Where all members are honest, nothing of the faulty ones shows.
use Rattle.std.proofs.Common.{◌≡◌, ℕ, zero, suc, ◌==◌, ◌&&◌, nat_lt, Bool, true, false, not, List, [], ◌∷◌, length, map, filter, flat_map, Option, Some, None, Result, Ok, Err, refl, ap, ◌∙◌, arith, if◌then◌else◌}
use Rattle.std.proofs.lemmas.Bool.Decides.{nat_tests}
use Rattle.std.specs.Prelude.{slice_get, unwrap_or}
use Rattle.std.specs.List.{list_all}
use Rattle.std.specs.Option.{option_map_or}
use Rattle.simplex_values.specs.declared.plan.Channel.{Channel}
use Rattle.simplex_values.specs.declared.plan.Recipients.{Recipients}
use Rattle.simplex_values.specs.declared.round.Round.{Round}
use Rattle.simplex_values.specs.declared.proposal.Subject.{Subject}
use Rattle.simplex_wire.specs.declared.attestation.Attestation.{Attestation}
use Rattle.simplex_types.specs.RoundRobin.{leader_of}
use Rattle.model_faults.specs.Wrapped as faults
use Rattle.simplex_transcript.specs.declared.entry.Entry.{Entry}
use Rattle.simplex_transcript.specs.declared.entry.Packet.{Packet}
use Rattle.simplex_transcript.specs.declared.event.Event.{Event}
use Rattle.simplex_transcript.specs.declared.node.Node.{Node}
use Rattle.simplex_transcript.specs.declared.refusal.RunError.{RunError}
use Rattle.simplex_transcript.specs.declared.refusal.RunError.TheVariants as refusals
use Rattle.simplex_transcript.specs.declared.setup.Setup.{Setup}
use Rattle.simplex_transcript.specs.declared.setup.MemberKind.{MemberKind}
use Rattle.simplex_transcript.specs.declared.setup.MemberKind.TheVariants as kinds
use Rattle.model_run.specs.Setting.{Setting}
use Rattle.model_run.specs.Kinds.{is_faulty, is_faulty_member, has_engine, has_halves, is_twin, halves_of, runs_engine, is_honest, are_honest, members_of, is_node, node_of, nodes_at}
use Rattle.model_run.specs.Twins.{round_at, elected}
use Rattle.model_run.specs.Members.{kind_of}
use Rattle.model_run.specs.Wrapped.{wrapped_attests, wrapped_recovers}
use Rattle.model_run.specs.Routing.{is_routed, packet_view, members_for, nodes_for}
use Rattle.model_run.specs.Life.{Noted}
use Rattle.model_run.specs.Forged.{Signed, first_forged, unless, unless_forged}
use Rattle.model_run.specs.Entries.{if_node, by_engine, made_of, entry_of}

both : (a b : Bool) → (a && b) ≡ true → (a ≡ true) × (b ≡ true)
both true b e = (refl, e)
both false b e = cc

-- ---- kinds

is_honest_kind : (kind : MemberKind) → not (is_faulty kind) ≡ true → kind ≡ kinds.Honest
is_honest_kind kinds.Honest e = refl
is_honest_kind kinds.Silent e = cc
is_honest_kind kinds.Conflicter e = cc
is_honest_kind kinds.Equivocator e = cc
is_honest_kind kinds.Impersonator e = cc
is_honest_kind kinds.Nuller e = cc
is_honest_kind kinds.NullifyOnly e = cc
is_honest_kind (kinds.Outdated delta) e = cc
is_honest_kind kinds.Reconfigurer e = cc
is_honest_kind kinds.Corrupt e = cc
is_honest_kind kinds.Unrecovering e = cc
is_honest_kind kinds.Twin e = cc

-- no member is of a kind that honest ones are not of
none_is : (test : MemberKind → Bool) (ms : List MemberKind) (m : ℕ) → test kinds.Honest ≡ false → list_all (λ kind. not (is_faulty kind)) ms ≡ true
    → option_map_or test (slice_get ms m) false ≡ false
none_is test [] m t h = refl
none_is test (k ∷ ms) zero t h = rw (is_honest_kind k (both _ _ h).0) t
none_is test (k ∷ ms) (suc m) t h = none_is test ms m t (both _ _ h).1

pub no_faulty : (setup : Setup) (m : ℕ) → are_honest setup ≡ true → is_faulty_member setup m ≡ false
no_faulty setup m h = none_is is_faulty setup.members m refl h

pub no_twin : (setup : Setup) (m : ℕ) → are_honest setup ≡ true → is_twin setup m ≡ false
no_twin setup m h = none_is has_halves setup.members m refl h

kind_is : (ms : List MemberKind) (m : ℕ) → list_all (λ kind. not (is_faulty kind)) ms ≡ true → unwrap_or (slice_get ms m) kinds.Honest ≡ kinds.Honest
kind_is [] m h = refl
kind_is (k ∷ ms) zero h = is_honest_kind k (both _ _ h).0
kind_is (k ∷ ms) (suc m) h = kind_is ms m (both _ _ h).1

pub kind_honest : (setup : Setup) (m : ℕ) → are_honest setup ≡ true → kind_of setup m ≡ kinds.Honest
kind_honest setup m h = kind_is setup.members m h

-- ---- nodes

one_half : (n : ℕ) → nat_lt n 1 ≡ (n == 0)
one_half zero = refl
one_half (suc n) = grind (arith, nat_tests)

-- the nodes are the first halves of the members
pub node_honest : (setup : Setup) (node : Node) → are_honest setup ≡ true → is_node setup node ≡ (nat_lt node.member (members_of setup) && node.half == 0)
node_honest setup node h = rw (no_twin setup node.member h) (ap (λ b. nat_lt node.member (members_of setup) && b) (one_half node.half))

all_run : (ms : List MemberKind) (m : ℕ) → nat_lt m (length ms) ≡ true → list_all (λ kind. not (is_faulty kind)) ms ≡ true
    → option_map_or has_engine (slice_get ms m) false ≡ true
all_run [] m i h = absurd (grind (arith, nat_tests, i))
all_run (k ∷ ms) zero i h = rw (is_honest_kind k (both _ _ h).0) refl
all_run (k ∷ ms) (suc m) i h = all_run ms m (grind (arith, nat_tests, i)) (both _ _ h).1

all_honest : (ms : List MemberKind) (m : ℕ) → nat_lt m (length ms) ≡ true → list_all (λ kind. not (is_faulty kind)) ms ≡ true
    → option_map_or (λ kind. not (is_faulty kind)) (slice_get ms m) false ≡ true
all_honest [] m i h = absurd (grind (arith, nat_tests, i))
all_honest (k ∷ ms) zero i h = (both _ _ h).0
all_honest (k ∷ ms) (suc m) i h = all_honest ms m (grind (arith, nat_tests, i)) (both _ _ h).1

pub honest_member : (setup : Setup) (m : ℕ) → are_honest setup ≡ true → nat_lt m (members_of setup) ≡ true → is_honest setup m ≡ true
honest_member setup m h i = all_honest setup.members m i h

-- each runs an engine
pub engine_honest : (setup : Setup) (node : Node) (with_engine without_engine : Result Noted RunError) → are_honest setup ≡ true
    → by_engine setup node with_engine without_engine ≡ if_node setup node with_engine
engine_honest setup node with_engine without_engine h =
    by (nat_lt node.member (members_of setup)) (nat_lt node.half (halves_of setup node.member)) (runs_engine setup node.member)
    (λ i. all_run setup.members node.member i h)
  where
    by : (a b c : Bool) → (a ≡ true → c ≡ true)
        → (if a && b then (if c then with_engine else without_engine) else Err refusals.NoMember) ≡ (if a && b then with_engine else Err refusals.NoMember)
    by true true true f = refl
    by true true false f = let e = f refl in cc
    by true false c f = refl
    by false b c f = refl

-- ---- schemes

pub attests_honest : (setup : Setup) (m : ℕ) (attests : Subject → Option Attestation) (verifies : Subject → Attestation → Bool) → are_honest setup ≡ true
    → wrapped_attests (kind_of setup m) attests verifies ≡ attests
unfolding faults.wrapped_attests
attests_honest setup m attests verifies h = rw (kind_honest setup m h) refl

pub recovers_honest : (setup : Setup) (m : ℕ) → are_honest setup ≡ true → wrapped_recovers (kind_of setup m) ≡ true
recovers_honest setup m h = rw (kind_honest setup m h) refl

-- ---- forgeries

none_by_faulty : (setup : Setup) (ps : List Packet) → are_honest setup ≡ true → filter (λ (p : Packet). is_faulty_member setup p.from.member) ps ≡ []
none_by_faulty setup [] h = refl
none_by_faulty setup (p ∷ ps) h = rw (no_faulty setup p.from.member h) (none_by_faulty setup ps h)

none_forged : (setup : Setup) (before : List Noted) (entry : Entry) → are_honest setup ≡ true → first_forged setup before entry ≡ None
unfolding first_forged
none_forged setup before entry h = rw (none_by_faulty setup entry.packets h) refl

pub no_forgery : (setup : Setup) (before : List Noted) (r : Result Noted RunError) → are_honest setup ≡ true → unless_forged setup before r ≡ r
unfolding unless_forged
no_forgery setup before (Err e) h = refl
no_forgery setup before (Ok noted) h = rw (none_forged setup before noted.entry h) refl

pub entry_made : (setting : Setting) (before : List Noted) (event : Event) → are_honest setting.setup ≡ true → entry_of setting before event ≡ made_of setting before event
unfolding entry_of
entry_made setting before event h = no_forgery setting.setup before (made_of setting before event) h

-- whatever the members are: what is not refused was made
by_first : (o : Option Signed) (n noted : Noted) (r : Result Noted RunError) → r ≡ Ok n → unless o n ≡ Ok noted → r ≡ Ok noted
by_first None n noted r e h = e ∙ h
by_first (Some s) n noted r e h = cc

made_at : (setup : Setup) (before : List Noted) (r : Result Noted RunError) (noted : Noted) → unless_forged setup before r ≡ Ok noted → r ≡ Ok noted
unfolding unless_forged
made_at setup before (Err e) noted h = h
made_at setup before (Ok n) noted h = by_first (first_forged setup before n.entry) n noted (Ok n) refl h

pub was_made : (setting : Setting) (before : List Noted) (event : Event) (noted : Noted) → entry_of setting before event ≡ Ok noted → made_of setting before event ≡ Ok noted
unfolding entry_of
was_made setting before event noted h = made_at setting.setup before (made_of setting before event) noted h

-- ---- routing

one_node : (setup : Setup) (m : ℕ) → are_honest setup ≡ true → nodes_at setup m ≡ node_of m ∷ []
one_node setup m h = rw (no_twin setup m h) refl

routed : (setup : Setup) (view : ℕ) (from to : Node) → are_honest setup ≡ true → is_routed setup view from to ≡ true
unfolding is_routed
routed setup view from to h = rw (no_twin setup from.member h) (rw (no_twin setup to.member h) refl)

one_each : (setup : Setup) (view : ℕ) (from : Node) (ms : List ℕ) → are_honest setup ≡ true
    → filter (is_routed setup view from) (flat_map (nodes_at setup) ms) ≡ map node_of ms
one_each setup view from [] h = refl
one_each setup view from (m ∷ ms) h =
    rw (one_node setup m h) (rw (routed setup view from (node_of m) h) (ap (λ ns. node_of m ∷ ns) (one_each setup view from ms h)))

pub nodes_honest : (setup : Setup) (from : Node) (channel : Channel) (to : Recipients) (bytes : List ℕ) → are_honest setup ≡ true
    → nodes_for setup from channel to bytes ≡ map node_of (members_for setup from.member to)
unfolding nodes_for
nodes_honest setup from channel to bytes h = one_each setup (packet_view channel bytes) from (members_for setup from.member to) h

-- ---- leaders

pub elects_in_turn : (setup : Setup) → setup.scenario ≡ [] → elected setup ≡ leader_of setup.term (members_of setup)
unfolding elected round_at
elects_in_turn setup e = rw e refl

pub elected_in_turn : (setup : Setup) (round : Round) → setup.scenario ≡ [] → elected setup round ≡ leader_of setup.term (members_of setup) round
unfolding elected round_at
elected_in_turn setup round e = rw e refl
