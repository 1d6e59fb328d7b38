-- What stands at a place of an entry.
use Rattle.std.proofs.Common.{◌≡◌, ℕ, ◌+◌, ◌<◌, ◌==◌, ◌&&◌, nat_lt, Bool, true, false, List, [], ◌∷◌, ◌++◌, length, All, Contains, Option, Some, None, refl, sym, ap, ◌∙◌, subst, arith, eqb-true, length-append, if◌then◌else◌}
use Rattle.std.specs.List.{slice_get, list_any}
use Rattle.std.specs.Option.{option_and_then}
use Rattle.std.proofs.lemmas.List.Elements.{All-nil, All-cons, All-head, All-tail}
use Rattle.std.proofs.lemmas.List.Folds.{Any-from_list_any, list_any-from_Any}
use Rattle.simplex_transcript.specs.declared.entry.Packet.{Packet}
use Rattle.simplex_transcript.specs.declared.node.Node.{Node}
use Rattle.simplex_transcript.specs.declared.node.Ref.{Ref}
use Rattle.model_run.specs.Life.{Noted, is_of}
use Rattle.model_run.specs.Members.{is_same_node}
use Rattle.model_run.specs.Requests.{is_start, first_number, request_number, packet_at, if_for, packet_for}
use Rattle.law_run.specs.Earlier.{IsEntry, IsSentTo, IsNoStart, IsAsked}
use Rattle.law_run.proofs.Tests.{both, and_true, number_is, number_is_not, below, is_below, same_node, same_self}

pick : {A : Type 0} (b : Bool) (x y : A) → b ≡ true → (if b then x else y) ≡ x
pick true x y e = refl
pick false x y e = cc

skip : {A : Type 0} (b : Bool) (x y : A) → b ≡ false → (if b then x else y) ≡ y
skip true x y e = cc
skip false x y e = refl

-- the entry behind these later ones has a lower number than the next
lower : (later : List Noted) (noted : Noted) (earlier : List Noted) (number : ℕ) → number ≡ length earlier + 1 → number < length (later ++ noted ∷ earlier) + 1
lower later noted earlier number e = omega (arith, length-append later (noted ∷ earlier))

-- one more entry on top
abbrev on_top : (before : List Noted) (number : ℕ) (noted : Noted) (earlier later : List Noted) (x : Noted) → IsEntry before number noted earlier later
    → IsEntry (x ∷ before) number noted earlier (x ∷ later)
on_top before number noted earlier later x e = record { stands = ap (λ list. x ∷ list) e.stands; place = e.place }

-- ---- packets

packet_behind : (later : List Noted) (noted : Noted) (earlier : List Noted) (at : Ref) → at.event ≡ length earlier + 1
    → packet_at (later ++ noted ∷ earlier) at ≡ slice_get noted.entry.packets at.place
unfolding packet_at
packet_behind [] noted earlier at e =
    pick (length earlier + 1 == at.event) (slice_get noted.entry.packets at.place) (packet_at earlier at) (number_is (length earlier + 1) at.event (sym e))
packet_behind (x ∷ later) noted earlier at e =
    let rest = later ++ noted ∷ earlier in
    skip (length rest + 1 == at.event) (slice_get x.entry.packets at.place) (packet_at rest at)
    (number_is_not at.event (length rest + 1) (lower later noted earlier at.event e)) ∙ packet_behind later noted earlier at e

goes_to : (node : Node) (packet : Packet) → Contains packet.to node → if_for node packet ≡ Some packet
goes_to node packet c =
    pick (list_any (is_same_node node) packet.to) (Some packet) None (list_any-from_Any (is_same_node node) packet.to (c.0, node, c.1, c.2, same_self node))

pub packet_sent : (before : List Noted) (node : Node) (at : Ref) (packet : Packet) → IsSentTo before at node packet → packet_for before node at ≡ Some packet
unfolding packet_for
packet_sent before node at packet s =
    let found : packet_at before at ≡ Some packet =
    ap (λ list. packet_at list at) s.entry.stands ∙ packet_behind s.later s.noted s.earlier at s.entry.place ∙ s.holds in
    ap (λ o. option_and_then (if_for node) o) found ∙ goes_to node packet s.to

-- a packet that stands in an entry
record Stands (before : List Noted) (at : Ref) (packet : Packet) : Type 0 where
  noted : Noted
  earlier : List Noted
  later : List Noted
  entry : IsEntry before at.event noted earlier later
  holds : slice_get noted.entry.packets at.place ≡ Some packet

packet_stands : (before : List Noted) (at : Ref) (packet : Packet) → packet_at before at ≡ Some packet → Stands before at packet
unfolding packet_at
packet_stands [] at packet e = cc
packet_stands (x ∷ before) at packet e = by (length before + 1 == at.event) refl e (packet_stands before at packet)
  where
    by : (b : Bool) → (length before + 1 == at.event) ≡ b → (if b then slice_get x.entry.packets at.place else packet_at before at) ≡ Some packet
        → (packet_at before at ≡ Some packet → Stands before at packet) → Stands (x ∷ before) at packet
    by true t h old = record {
      noted = x;
      earlier = before;
      later = [];
      entry = record { stands = refl; place = sym (eqb-true (length before + 1) at.event t) };
      holds = h;
    }
    by false t h old =
        let s = old h in
        record { noted = s.noted; earlier = s.earlier; later = x ∷ s.later; entry = on_top before at.event s.noted s.earlier s.later x s.entry; holds = s.holds }

went_to : (node : Node) (p packet : Packet) → if_for node p ≡ Some packet → (p ≡ packet) × Contains packet.to node
went_to node p packet e = by (list_any (is_same_node node) p.to) refl e
  where
    to_it : (list : List Node) → list_any (is_same_node node) list ≡ true → Contains list node
    to_it list h =
        let found = Any-from_list_any (is_same_node node) list h in
        subst (Contains list) (sym (same_node node found.1 found.4)) (found.0, found.2, found.3)

    by : (b : Bool) → list_any (is_same_node node) p.to ≡ b → (if b then Some p else None) ≡ Some packet → (p ≡ packet) × Contains packet.to node
    by true t h = let same : p ≡ packet = cc in (same, subst (λ (q : Packet). Contains q.to node) same (to_it p.to t))
    by false t h = cc

pub sent_packet : (before : List Noted) (node : Node) (at : Ref) (packet : Packet) → packet_for before node at ≡ Some packet → IsSentTo before at node packet
unfolding packet_for
sent_packet before node at packet e = by (packet_at before at) refl e
  where
    by : (o : Option Packet) → packet_at before at ≡ o → option_and_then (if_for node) o ≡ Some packet → IsSentTo before at node packet
    by None t h = cc
    by (Some p) t h =
        let went = went_to node p packet h in
        let s = packet_stands before at packet (t ∙ ap (λ q. Some q) went.0) in
        record { noted = s.noted; earlier = s.earlier; later = s.later; entry = s.entry; holds = s.holds; to = went.1 }

-- ---- requests

no_start : (node : Node) (x : Noted) → IsNoStart node x → (is_of node x.event && is_start x.event) ≡ false
no_start node x h = by (is_of node x.event) h
  where
    by : (b : Bool) → (b ≡ true → is_start x.event ≡ false) → (b && is_start x.event) ≡ false
    by true k = k refl
    by false k = refl

is_no_start : (node : Node) (x : Noted) → (is_of node x.event && is_start x.event) ≡ false → IsNoStart node x
is_no_start node x e of = by (is_of node x.event) of e
  where
    by : (b : Bool) → b ≡ true → (b && is_start x.event) ≡ false → is_start x.event ≡ false
    by true t h = h
    by false t h = cc

number_behind : (later : List Noted) (noted : Noted) (earlier : List Noted) (node : Node) (at : Ref) → at.event ≡ length earlier + 1
    → is_of node noted.event ≡ true → at.place < length noted.entry.asked → All (IsNoStart node) later
    → request_number (later ++ noted ∷ earlier) node at ≡ Some (first_number noted earlier node + at.place)
unfolding request_number
number_behind [] noted earlier node at e of lt since =
    pick (length earlier + 1 == at.event) (if is_of node noted.event && nat_lt at.place (length noted.entry.asked) then Some (first_number noted earlier node + at.place) else None) _
    (number_is (length earlier + 1) at.event (sym e))
    ∙ pick (is_of node noted.event && nat_lt at.place (length noted.entry.asked)) (Some (first_number noted earlier node + at.place)) None
    (and_true (is_of node noted.event) (nat_lt at.place (length noted.entry.asked)) of (is_below at.place (length noted.entry.asked) lt))
number_behind (x ∷ later) noted earlier node at e of lt since =
    let rest = later ++ noted ∷ earlier in
    skip (length rest + 1 == at.event) _ (if is_of node x.event && is_start x.event then None else request_number rest node at)
    (number_is_not at.event (length rest + 1) (lower later noted earlier at.event e))
    ∙ skip (is_of node x.event && is_start x.event) None (request_number rest node at) (no_start node x (All-head (IsNoStart node) x later since))
    ∙ number_behind later noted earlier node at e of lt (All-tail (IsNoStart node) x later since)

pub number_asked : (before : List Noted) (node : Node) (at : Ref) (number : ℕ) → IsAsked before at node number → request_number before node at ≡ Some number
number_asked before node at number a =
    ap (λ list. request_number list node at) a.entry.stands ∙ number_behind a.later a.noted a.earlier node at a.entry.place a.of a.place a.since
    ∙ ap (λ n. Some n) (sym a.counted)

pub asked_number : (before : List Noted) (node : Node) (at : Ref) (number : ℕ) → request_number before node at ≡ Some number → IsAsked before at node number
unfolding request_number
asked_number [] node at number e = cc
asked_number (x ∷ before) node at number e = by (length before + 1 == at.event) refl e (asked_number before node at number)
  where
    here : at.event ≡ length before + 1 → (b : Bool) → (is_of node x.event && nat_lt at.place (length x.entry.asked)) ≡ b
        → (if b then Some (first_number x before node + at.place) else None) ≡ Some number → IsAsked (x ∷ before) at node number
    here t true u h =
        let parts = both (is_of node x.event) (nat_lt at.place (length x.entry.asked)) u in
        record {
          noted = x;
          earlier = before;
          later = [];
          entry = record { stands = refl; place = t };
          of = parts.0;
          place = below at.place (length x.entry.asked) parts.1;
          since = All-nil (IsNoStart node);
          counted = cc;
        }
    here t false u h = cc

    there : (b : Bool) → (is_of node x.event && is_start x.event) ≡ b → (if b then None else request_number before node at) ≡ Some number
        → (request_number before node at ≡ Some number → IsAsked before at node number) → IsAsked (x ∷ before) at node number
    there true u h old = cc
    there false u h old =
        let a = old h in
        record {
          noted = a.noted;
          earlier = a.earlier;
          later = x ∷ a.later;
          entry = on_top before at.event a.noted a.earlier a.later x a.entry;
          of = a.of;
          place = a.place;
          since = All-cons (IsNoStart node) x a.later (is_no_start node x u) a.since;
          counted = a.counted;
        }

    by : (b : Bool) → (length before + 1 == at.event) ≡ b
        → (if b then (if is_of node x.event && nat_lt at.place (length x.entry.asked) then Some (first_number x before node + at.place) else None)
        else if is_of node x.event && is_start x.event then None else request_number before node at)
        ≡ Some number
        → (request_number before node at ≡ Some number → IsAsked before at node number) → IsAsked (x ∷ before) at node number
    by true t h old = here (sym (eqb-true (length before + 1) at.event t)) (is_of node x.event && nat_lt at.place (length x.entry.asked)) refl h
    by false t h old = there (is_of node x.event && is_start x.event) refl h old
