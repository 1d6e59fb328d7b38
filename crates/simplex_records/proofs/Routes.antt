-- Nodes of one member more, and packets whose view does not matter.
use Rattle.std.proofs.Common.{◌≡◌, ℕ, List, [], ◌∷◌, ◌++◌, Bool, true, false, arith, refl, sym, ap, ◌∙◌, length, get_or, take, ◌<◌, ◌+◌, ◌≢◌, if◌then◌else◌, zero, suc}
use Rattle.std.specs.Prelude.{◌==◌, ◌&&◌, ◌||◌, not, filter, flat_map, slice_get}
use Rattle.std.specs.List.{list_any, range_with_len}
use Rattle.std.specs.Option.{option_map_or}
use Rattle.std.proofs.lemmas.Grind.{common_steps}
use Rattle.std.proofs.lemmas.List.{append-nil, take_more}
use Rattle.std.proofs.lemmas.List.Concat.{flat_map-append}
use Rattle.std.proofs.lemmas.List.Elements.{filter-append}
use Rattle.simplex_values.specs.declared.plan.Channel.{Channel}
use Rattle.simplex_values.specs.declared.plan.Recipients.{Recipients}
use Rattle.simplex_transcript.specs.declared.entry.Packet.{Packet}
use Rattle.simplex_transcript.specs.declared.node.Node.{Node}
use Rattle.simplex_transcript.specs.declared.setup.MemberKind.{MemberKind}
use Rattle.simplex_transcript.specs.declared.setup.SetupRound.{SetupRound}
use Rattle.simplex_transcript.specs.declared.setup.Setup.{Setup}
use Rattle.model_run.specs.Kinds.{nodes_at, is_twin, has_halves}
use Rattle.model_run.specs.Twins.{round_at, is_in_part}
use Rattle.model_run.specs.Routing.{is_routed, packet_view, members_for, nodes_for, packet_for_send}
use Rattle.simplex_records.specs.Routes.{routed_nodes, has_routes}
use Rattle.simplex_records.proofs.Lists.{filter-range_more}

-- ---- one member more

pub routed-none : (setup : Setup) (view : ℕ) (from : Node) → [] ≡ routed_nodes setup view from []
unfolding routed_nodes
routed-none setup view from = refl

pub routed-more : (setup : Setup) (view : ℕ) (from : Node) (members : List ℕ) (member : ℕ) (nodes : List Node)
    → nodes ≡ routed_nodes setup view from members
    → nodes ++ filter (is_routed setup view from) (nodes_at setup member) ≡ routed_nodes setup view from (members ++ member ∷ [])
unfolding routed_nodes
routed-more setup view from members member nodes is =
    ap (λ (ns : List Node). ns ++ filter (is_routed setup view from) (nodes_at setup member)) is
    ∙ sym (filter-append (is_routed setup view from) (flat_map (nodes_at setup) members) (nodes_at setup member))
    ∙ ap (λ ns. filter (is_routed setup view from) (flat_map (nodes_at setup) members ++ ns)) (sym (append-nil (nodes_at setup member)))
    ∙ ap (λ ns. filter (is_routed setup view from) ns) (sym (flat_map-append (nodes_at setup) members (member ∷ [])))

-- a member more of a list, which is the next item
pub routed-item : (setup : Setup) (view : ℕ) (from : Node) (members : List ℕ) (i item which : ℕ) (nodes new : List Node)
    → i < length members → item ≡ get_or members i item → which ≡ item → nodes ≡ routed_nodes setup view from (take i members)
    → new ≡ nodes ++ filter (is_routed setup view from) (nodes_at setup which) → new ≡ routed_nodes setup view from (take (i + 1) members)
routed-item setup view from members i item which nodes new lt is same before adds =
    adds ∙ ap (λ m. nodes ++ filter (is_routed setup view from) (nodes_at setup m)) (same ∙ is)
    ∙ routed-more setup view from (take i members) (get_or members i item) nodes before
    ∙ ap (λ ms. routed_nodes setup view from ms) (sym (take_more members i item lt))

others_at : (from n : ℕ) (b : Bool) → (n == from) ≡ b
    → filter (λ m. not (m == from)) (range_with_len 0 (n + 1)) ≡ filter (λ m. not (m == from)) (range_with_len 0 n) ++ (if b then [] else n ∷ [])
others_at from n true e = filter-range_more (λ m. not (m == from)) n ∙ rw e refl
others_at from n false e = filter-range_more (λ m. not (m == from)) n ∙ rw e refl

-- the next number is a member but the sender
pub others-more : (setup : Setup) (view : ℕ) (from : Node) (n : ℕ) (nodes new : List Node) → n ≢ from.member
    → nodes ≡ routed_nodes setup view from (filter (λ m. not (m == from.member)) (range_with_len 0 n))
    → new ≡ nodes ++ filter (is_routed setup view from) (nodes_at setup n)
    → new ≡ routed_nodes setup view from (filter (λ m. not (m == from.member)) (range_with_len 0 (n + 1)))
others-more setup view from n nodes new apart before adds =
    adds ∙ routed-more setup view from (filter (λ m. not (m == from.member)) (range_with_len 0 n)) n nodes before
    ∙ ap (λ ms. routed_nodes setup view from ms) (sym (others_at from.member n false (grind (arith, common_steps))))

-- or the sender
pub others-but : (setup : Setup) (view : ℕ) (from : Node) (n : ℕ) (nodes : List Node) → n ≡ from.member
    → nodes ≡ routed_nodes setup view from (filter (λ m. not (m == from.member)) (range_with_len 0 n))
    → nodes ≡ routed_nodes setup view from (filter (λ m. not (m == from.member)) (range_with_len 0 (n + 1)))
others-but setup view from n nodes same before =
    before ∙ ap (λ ms. routed_nodes setup view from ms)
    (sym (others_at from.member n true (grind (arith, common_steps)) ∙ append-nil (filter (λ m. not (m == from.member)) (range_with_len 0 n))))

-- ---- where there is no twin or no script, all packets go everywhere

no_halves : (members : List MemberKind) (member : ℕ) → list_any has_halves members ≡ false → option_map_or has_halves (slice_get members member) false ≡ false
no_halves [] member e = refl
no_halves (kind ∷ members) zero e = first (has_halves kind) (list_any has_halves members) e
  where
    first : (a b : Bool) → (a || b) ≡ false → a ≡ false
    first true b e = e
    first false b e = refl
no_halves (kind ∷ members) (suc member) e = no_halves members member (second (has_halves kind) (list_any has_halves members) e)
  where
    second : (a b : Bool) → (a || b) ≡ false → b ≡ false
    second true b e = cc
    second false b e = e

no_rounds : (rounds : List SetupRound) → (length rounds == 0) ≡ true → rounds ≡ []
no_rounds [] e = refl
no_rounds (round ∷ rounds) e = absurd (grind (arith, common_steps, e))

in_part : (setup : Setup) (view half member : ℕ) → setup.scenario ≡ [] → is_in_part setup view half member ≡ true
unfolding is_in_part round_at
in_part setup view half member none = rw none refl

all_parts : (a b : Bool) → ((a || true) && (b || true)) ≡ true
all_parts true true = refl
all_parts true false = refl
all_parts false true = refl
all_parts false false = refl

routed_by : (setup : Setup) (view : ℕ) (from to : Node) (none some : Bool) → (length setup.scenario == 0) ≡ none → list_any has_halves setup.members ≡ some
    → (not none && some) ≡ false → is_routed setup view from to ≡ true
unfolding is_routed
routed_by setup view from to true some e f g =
    rw (in_part setup view from.half to.member (no_rounds setup.scenario e), in_part setup view to.half from.member (no_rounds setup.scenario e))
    (all_parts (not (is_twin setup from.member)) (not (is_twin setup to.member)))
routed_by setup view from to false true e f g = cc
routed_by setup view from to false false e f g =
    rw (no_halves setup.members from.member f, no_halves setup.members to.member f) refl

routed-everywhere : (setup : Setup) (view : ℕ) (from to : Node) → has_routes setup ≡ false → is_routed setup view from to ≡ true
routed-everywhere setup view from to e = routed_by setup view from to (length setup.scenario == 0) (list_any has_halves setup.members) refl refl e

all_pass : (setup : Setup) (view other : ℕ) (from : Node) (nodes : List Node) → has_routes setup ≡ false
    → filter (is_routed setup view from) nodes ≡ filter (is_routed setup other from) nodes
all_pass setup view other from [] e = refl
all_pass setup view other from (node ∷ nodes) e =
    rw (routed-everywhere setup view from node e, routed-everywhere setup other from node e) (ap (λ ns. node ∷ ns) (all_pass setup view other from nodes e))

viewed : (setup : Setup) (view : ℕ) (from : Node) (members : List ℕ) (b : Bool) → has_routes setup ≡ b
    → routed_nodes setup (if b then view else 0) from members ≡ routed_nodes setup view from members
unfolding routed_nodes
viewed setup view from members true e = refl
viewed setup view from members false e = all_pass setup 0 view from (flat_map (nodes_at setup) members) e

-- so the view need not be read there
pub unread-view : (setup : Setup) (view : ℕ) (from : Node) (members : List ℕ)
    → routed_nodes setup (if has_routes setup then view else 0) from members ≡ routed_nodes setup view from members
unread-view setup view from members = viewed setup view from members (has_routes setup) refl

-- ---- a send

pub sent-packet : (setup : Setup) (from : Node) (channel : Channel) (to : Recipients) (bytes : List ℕ) (view : ℕ) (nodes : List Node)
    → view ≡ (if has_routes setup then packet_view channel bytes else 0) → nodes ≡ routed_nodes setup view from (members_for setup from.member to)
    → ◌≡◌ {A = Packet} (record { from = from; channel = channel; to = nodes; bytes = bytes }) (packet_for_send setup from channel to bytes)
unfolding nodes_for routed_nodes
sent-packet setup from channel to bytes view nodes viewed is =
    with_nodes nodes (routed_nodes setup (packet_view channel bytes) from (members_for setup from.member to))
    (is ∙ ap (λ v. routed_nodes setup v from (members_for setup from.member to)) viewed
    ∙ unread-view setup (packet_view channel bytes) from (members_for setup from.member to))
  where
    with_nodes : (a b : List Node) → a ≡ b → ◌≡◌ {A = Packet} (record { from = from; channel = channel; to = a; bytes = bytes }) (record { from = from; channel = channel; to = b; bytes = bytes })
    with_nodes a b e = rw e refl
