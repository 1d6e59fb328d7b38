-- What tests say.
use Rattle.std.proofs.Common.{◌≡◌, ℕ, zero, suc, ◌-◌, ◌*◌, ◌<◌, ◌≤◌, ◌==◌, ◌&&◌, nat_lt, nat_le, not, Bool, true, false, List, [], ◌∷◌, length, All, Option, Some, None, Result, Err, is_ok, refl, arith, eqb-true, eq-eqb, if◌then◌else◌}
use Rattle.std.specs.List.{list_all, slice_get}
use Rattle.std.specs.Option.{option_map_or}
use Rattle.std.proofs.lemmas.List.Elements.{All-nil, All-cons, All-head, All-tail}
use Rattle.std.proofs.lemmas.Bool.Decides.{nat_tests}
use Rattle.simplex_values.specs.Terms.{greatest_view}
use Rattle.simplex_transcript.specs.declared.node.Node.{Node}
use Rattle.simplex_transcript.specs.declared.setup.Setup.{Setup}
use Rattle.simplex_transcript.specs.declared.setup.MemberKind.{MemberKind}
use Rattle.simplex_transcript.specs.declared.refusal.RunError.{RunError}
use Rattle.model_steps.specs.Engine.{EngineMade, Did}
use Rattle.model_run.specs.Life.{Noted}
use Rattle.model_run.specs.Kinds.{members_of, halves_of, is_faulty, is_honest, is_faulty_member, is_node, is_same_node}
use Rattle.model_run.specs.Entries.{is_at_end}
use Rattle.law_run.specs.Conditions.{IsNode, HasRoom, view_in}

pub both : (a b : Bool) → (a && b) ≡ true → (a ≡ true) × (b ≡ true)
both true b e = (refl, e)
both false b e = cc

pub and_true : (a b : Bool) → a ≡ true → b ≡ true → (a && b) ≡ true
and_true true b e f = f
and_true false b e f = cc

-- ---- answers behind a test

pub ok_if : (b : Bool) (r : Result Noted RunError) (e : RunError) → b ≡ true → is_ok r ≡ true → is_ok (if b then r else Err e) ≡ true
ok_if true r e t h = h
ok_if false r e t h = cc

pub ok_unless : (b : Bool) (r : Result Noted RunError) (e : RunError) → b ≡ false → is_ok r ≡ true → is_ok (if b then Err e else r) ≡ true
ok_unless true r e t h = cc
ok_unless false r e t h = h

pub if_ok : (b : Bool) (r : Result Noted RunError) (e : RunError) → is_ok (if b then r else Err e) ≡ true → (b ≡ true) × (is_ok r ≡ true)
if_ok true r e h = (refl, h)
if_ok false r e h = cc

pub unless_ok : (b : Bool) (r : Result Noted RunError) (e : RunError) → is_ok (if b then Err e else r) ≡ true → (b ≡ false) × (is_ok r ≡ true)
unless_ok true r e h = cc
unless_ok false r e h = (refl, h)

-- ---- numbers

pub below : (a b : ℕ) → nat_lt a b ≡ true → a < b
below a b e = grind (arith, nat_tests)

pub is_below : (a b : ℕ) → a < b → nat_lt a b ≡ true
is_below a b h = grind (arith, nat_tests)

not_below : (a b : ℕ) → nat_lt a b ≡ false → b ≤ a
not_below a b e = grind (arith, nat_tests)

is_not_below : (a b : ℕ) → b ≤ a → nat_lt a b ≡ false
is_not_below a b h = grind (arith, nat_tests)

pub within : (a b : ℕ) → nat_le a b ≡ true → a ≤ b
within a b e = grind (arith, nat_tests)

pub is_within : (a b : ℕ) → a ≤ b → nat_le a b ≡ true
is_within a b h = grind (arith, nat_tests)

pub number_is : (a b : ℕ) → a ≡ b → (a == b) ≡ true
number_is a b e = eq-eqb a b e

pub number_is_not : (a b : ℕ) → a < b → (b == a) ≡ false
number_is_not a b h = grind (arith, nat_tests)

-- ---- nodes

pub node_is : (setup : Setup) (node : Node) → IsNode setup node → is_node setup node ≡ true
node_is setup node n =
    and_true (nat_lt node.member (members_of setup)) (nat_lt node.half (halves_of setup node.member)) (is_below node.member (members_of setup) n.member)
    (is_below node.half (halves_of setup node.member) n.half)

pub is_there : (setup : Setup) (node : Node) → is_node setup node ≡ true → IsNode setup node
is_there setup node e =
    let parts = both (nat_lt node.member (members_of setup)) (nat_lt node.half (halves_of setup node.member)) e in
    record { member = below node.member (members_of setup) parts.0; half = below node.half (halves_of setup node.member) parts.1 }

pub nodes_are : (setup : Setup) (to : List Node) → All (IsNode setup) to → list_all (is_node setup) to ≡ true
nodes_are setup [] h = refl
nodes_are setup (node ∷ to) h =
    and_true (is_node setup node) (list_all (is_node setup) to) (node_is setup node (All-head (IsNode setup) node to h))
    (nodes_are setup to (All-tail (IsNode setup) node to h))

pub are_there : (setup : Setup) (to : List Node) → list_all (is_node setup) to ≡ true → All (IsNode setup) to
are_there setup [] e = All-nil (IsNode setup)
are_there setup (node ∷ to) e =
    let parts = both (is_node setup node) (list_all (is_node setup) to) e in
    All-cons (IsNode setup) node to (is_there setup node parts.0) (are_there setup to parts.1)

pub same_node : (a b : Node) → is_same_node a b ≡ true → a ≡ b
same_node a b e =
    let parts = both (a.member == b.member) (a.half == b.half) e in
    whole a.member b.member a.half b.half (eqb-true a.member b.member parts.0) (eqb-true a.half b.half parts.1)
  where
    whole : (m n g h : ℕ) → m ≡ n → g ≡ h → ◌≡◌ {A = Node} (record { member = m; half = g }) (record { member = n; half = h })
    whole m n g h i k = rw (i, k) refl

pub same_self : (a : Node) → is_same_node a a ≡ true
same_self a = and_true (a.member == a.member) (a.half == a.half) (number_is a.member a.member refl) (number_is a.half a.half refl)

-- ---- kinds

-- a member that exists is honest or faulty
pub not_honest : (setup : Setup) (member : ℕ) → is_faulty_member setup member ≡ true → is_honest setup member ≡ false
not_honest setup member e = by (slice_get setup.members member) e
  where
    by : (o : Option MemberKind) → option_map_or is_faulty o false ≡ true → option_map_or (λ kind. not (is_faulty kind)) o false ≡ false
    by None h = cc
    by (Some kind) h = rw h refl

faulty_at : (list : List MemberKind) (member : ℕ) → nat_lt member (length list) ≡ true → option_map_or (λ kind. not (is_faulty kind)) (slice_get list member) false ≡ false
    → option_map_or is_faulty (slice_get list member) false ≡ true
faulty_at [] member i e = absurd (grind (arith, nat_tests, i))
faulty_at (kind ∷ list) zero i e = by (is_faulty kind) e
  where
    by : (b : Bool) → not b ≡ false → b ≡ true
    by true h = refl
    by false h = cc
faulty_at (kind ∷ list) (suc member) i e = faulty_at list member (grind (arith, nat_tests, i)) e

pub not_faultless : (setup : Setup) (member : ℕ) → nat_lt member (members_of setup) ≡ true → is_honest setup member ≡ false → is_faulty_member setup member ≡ true
not_faultless setup member i e = faulty_at setup.members member i e

-- ---- room

pub room_is : (setup : Setup) (made : EngineMade) (past : List Did) → HasRoom setup made past → is_at_end setup made past ≡ false
room_is setup made past h = is_not_below (greatest_view - 2 * setup.term - setup.lookahead) (view_in made past) h

pub has_room : (setup : Setup) (made : EngineMade) (past : List Did) → is_at_end setup made past ≡ false → HasRoom setup made past
has_room setup made past e = not_below (greatest_view - 2 * setup.term - setup.lookahead) (view_in made past) e
