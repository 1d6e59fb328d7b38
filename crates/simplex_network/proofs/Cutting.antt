-- The cut of a group.
use Rattle.std.proofs.Common.{◌≡◌, ℕ, ◌+◌, ◌<◌, ◌==◌, ◌&&◌, ◌||◌, not, Bool, true, false, All, List, [], ◌∷◌, ◌++◌, length, take, drop, get_or, refl, sym, ap, ◌∙◌, subst, arith, append_assoc, append-nil}
use Rattle.std.specs.Prelude.{Some, None}
use Rattle.std.specs.BTreeSet.{BTreeSet}
use Rattle.std.proofs.lemmas.List.{take_more, drop_more, drop_all}
use Rattle.std.proofs.lemmas.List.Elements.{All-nil, All-cons, All-append}
use Rattle.simplex_values.specs.Maps.{has}
use Rattle.simplex_transcript.specs.declared.event.Event.{Event}
use Rattle.simplex_transcript.specs.declared.node.Node.{Node}
use Rattle.simplex_transcript.specs.declared.setup.Setup.{Setup}
use Rattle.model_run.specs.Kinds.{is_node, is_honest, is_same_node}
use Rattle.model_run.specs.Life.{Noted}
use Rattle.model_run.specs.Groups.{node_stepped, is_named, has_packet, joins_as, joins, with_named, joined}
use Rattle.model_run.proofs.Beside.{pick, skip}
use Rattle.simplex_records.specs.Seats.{seat_of, node_at}
use Rattle.simplex_records.specs.declared.records.Records.{Records}
use Rattle.simplex_records.specs.Stands.{RecordsStand}
use Rattle.simplex_records.proofs.Seating.{same-seat, seated}
use Rattle.simplex_network.specs.Cuts.{IsLendableAt, IsLendable, AreSeats, IsCutAt}

-- ---- seats

pub seats-none : (seats : BTreeSet ℕ) → ((at : ℕ) → has seats at ≡ false) → AreSeats seats []
seats-none seats none = λ at. none at

pub seats-more : (olds news : BTreeSet ℕ) (nodes : List Node) (node : Node) (seat : ℕ) → node.half < 2 → seat ≡ seat_of node
    → ((at : ℕ) → has news at ≡ (seat == at || has olds at)) → AreSeats olds nodes → AreSeats news (node ∷ nodes)
seats-more olds news nodes node seat half is adds named = λ at.
    adds at ∙ ap (λ (s : ℕ). s == at || has olds at) is ∙ ap (λ b. b || has olds at) (sym (same-seat node at half)) ∙ ap (λ b. is_same_node node (node_at at) || b) (named at)

pub seat-named : (seats : BTreeSet ℕ) (nodes : List Node) (node : Node) (seat : ℕ) → node.half < 2 → seat ≡ seat_of node → AreSeats seats nodes → has seats seat ≡ is_named nodes node
seat-named seats nodes node seat half is named = ap (has seats) is ∙ named (seat_of node) ∙ ap (is_named nodes) (seated node half)

-- ---- one event

pub joins-node : (setup : Setup) (before : List Noted) (nodes : List Node) (event : Event) (node : Node) → node_stepped event ≡ Some node
    → joins setup before nodes event ≡ (is_node setup node && is_honest setup node.member && not (is_named nodes node) && has_packet before event)
joins-node setup before nodes event node is = ap (joins_as setup before nodes event) is

pub joins-none : (setup : Setup) (before : List Noted) (nodes : List Node) (event : Event) → node_stepped event ≡ None → joins setup before nodes event ≡ false
joins-none setup before nodes event is = ap (joins_as setup before nodes event) is

-- the tests one after another
joined_by : (setup : Setup) (before : List Noted) (nodes : List Node) (event : Event) (node : Node) (a b c d : Bool) → node_stepped event ≡ Some node → is_node setup node ≡ a
    → is_honest setup node.member ≡ b → is_named nodes node ≡ c → has_packet before event ≡ d → joins setup before nodes event ≡ (a && b && not c && d)
joined_by setup before nodes event node a b c d steps na nb nc nd = joins-node setup before nodes event node steps ∙ rw (na, nb, nc, nd) refl

pub no-node : (setup : Setup) (before : List Noted) (nodes : List Node) (event : Event) (node : Node) → node_stepped event ≡ Some node → is_node setup node ≡ false
    → false ≡ joins setup before nodes event
no-node setup before nodes event node steps na = sym (joined_by setup before nodes event node false _ _ _ steps na refl refl refl)

pub no-honest : (setup : Setup) (before : List Noted) (nodes : List Node) (event : Event) (node : Node) → node_stepped event ≡ Some node → is_node setup node ≡ true
    → is_honest setup node.member ≡ false → false ≡ joins setup before nodes event
no-honest setup before nodes event node steps na nb = sym (joined_by setup before nodes event node true false _ _ steps na nb refl refl)

pub no-fresh : (setup : Setup) (before : List Noted) (nodes : List Node) (event : Event) (node : Node) → node_stepped event ≡ Some node → is_node setup node ≡ true
    → is_honest setup node.member ≡ true → is_named nodes node ≡ true → false ≡ joins setup before nodes event
no-fresh setup before nodes event node steps na nb nc = sym (joined_by setup before nodes event node true true true _ steps na nb nc refl)

pub no-packet : (setup : Setup) (before : List Noted) (nodes : List Node) (event : Event) (node : Node) → node_stepped event ≡ Some node → is_node setup node ≡ true
    → is_honest setup node.member ≡ true → is_named nodes node ≡ false → has_packet before event ≡ false → false ≡ joins setup before nodes event
no-packet setup before nodes event node steps na nb nc nd = sym (joined_by setup before nodes event node true true false false steps na nb nc nd)

pub all-join : (setup : Setup) (before : List Noted) (nodes : List Node) (event : Event) (node : Node) → node_stepped event ≡ Some node → is_node setup node ≡ true
    → is_honest setup node.member ≡ true → is_named nodes node ≡ false → has_packet before event ≡ true → true ≡ joins setup before nodes event
all-join setup before nodes event node steps na nb nc nd = sym (joined_by setup before nodes event node true true false true steps na nb nc nd)

-- ---- all events

pub cut-none : (setup : Setup) (records : Records) (seats : BTreeSet ℕ) (events : List Event) → ((at : ℕ) → has seats at ≡ false) → IsCutAt setup records seats events 0
cut-none setup records seats events none =
    record { nodes = []; named = seats-none seats none; each = All-nil (IsLendable setup); rest = λ before stands. refl }

next_of : (events : List Event) (i : ℕ) (event : Event) → i < length events → event ≡ get_or events i event → drop i events ≡ event ∷ drop (i + 1) events
next_of events i event lt is = drop_more events i event lt ∙ ap (λ e. e ∷ drop (i + 1) events) (sym is)

taken_more : (events : List Event) (i : ℕ) (event : Event) → i < length events → event ≡ get_or events i event → take (i + 1) events ≡ take i events ++ event ∷ []
taken_more events i event lt is = take_more events i event lt ∙ ap (λ e. take i events ++ e ∷ []) (sym is)

joined_one : (setup : Setup) (before : List Noted) (nodes : List Node) (event : Event) (node : Node) (rest : List Event) → node_stepped event ≡ Some node
    → joins setup before nodes event ≡ true → joined setup before nodes (event ∷ rest) ≡ event ∷ joined setup before (node ∷ nodes) rest
unfolding joined
joined_one setup before nodes event node rest is joins_it =
    pick (joins setup before nodes event) (event ∷ joined setup before (with_named nodes (node_stepped event)) rest) [] joins_it
    ∙ ap (λ o. event ∷ joined setup before (with_named nodes o) rest) is

joined_end : (setup : Setup) (before : List Noted) (nodes : List Node) (event : Event) (rest : List Event) → joins setup before nodes event ≡ false
    → joined setup before nodes (event ∷ rest) ≡ []
unfolding joined
joined_end setup before nodes event rest stays =
    skip (joins setup before nodes event) (event ∷ joined setup before (with_named nodes (node_stepped event)) rest) [] stays

pub cut-more : (setup : Setup) (records : Records) (olds news : BTreeSet ℕ) (events : List Event) (i : ℕ) (event : Event) (node : Node) (seat : ℕ) → i < length events
    → event ≡ get_or events i event → node.half < 2 → seat ≡ seat_of node → IsLendableAt setup event node
    → ((before : List Noted) (nodes : List Node) → RecordsStand records setup before → AreSeats olds nodes → true ≡ joins setup before nodes event)
    → ((at : ℕ) → has news at ≡ (seat == at || has olds at)) → IsCutAt setup records olds events i → IsCutAt setup records news events (i + 1)
cut-more setup records olds news events i event node seat lt is half sits lendable joining adds cut =
    record {
      nodes = node ∷ cut.nodes;
      named = seats-more olds news cut.nodes node seat half sits adds cut.named;
      each = subst (All (IsLendable setup)) (sym (taken_more events i event lt is))
          (All-append (IsLendable setup) (take i events) (event ∷ []) cut.each (All-cons (IsLendable setup) event [] (node, lendable) (All-nil (IsLendable setup))));
      rest = λ before stands.
          cut.rest before stands
          ∙ ap (λ list. take i events ++ joined setup before cut.nodes list) (next_of events i event lt is)
          ∙ ap (λ list. take i events ++ list) (joined_one setup before cut.nodes event node (drop (i + 1) events) lendable.steps (sym (joining before cut.nodes stands cut.named)))
          ∙ sym (append_assoc (take i events) (event ∷ []) (joined setup before (node ∷ cut.nodes) (drop (i + 1) events)))
          ∙ ap (λ list. list ++ joined setup before (node ∷ cut.nodes) (drop (i + 1) events)) (sym (taken_more events i event lt is));
    }

-- the next event joins no more
pub cut-ends : (setup : Setup) (records : Records) (seats : BTreeSet ℕ) (events : List Event) (i : ℕ) (event : Event) → i < length events → event ≡ get_or events i event
    → ((before : List Noted) (nodes : List Node) → RecordsStand records setup before → AreSeats seats nodes → false ≡ joins setup before nodes event)
    → IsCutAt setup records seats events i → (before : List Noted) → RecordsStand records setup before → take i events ≡ joined setup before [] events
cut-ends setup records seats events i event lt is stays cut before stands =
    sym (
    cut.rest before stands
    ∙ ap (λ list. take i events ++ joined setup before cut.nodes list) (next_of events i event lt is)
    ∙ ap (λ list. take i events ++ list) (joined_end setup before cut.nodes event (drop (i + 1) events) (sym (stays before cut.nodes stands cut.named)))
    ∙ append-nil (take i events)
    )

-- or there is none
pub cut-all : (setup : Setup) (records : Records) (seats : BTreeSet ℕ) (events : List Event) (i : ℕ) → i ≡ length events
    → IsCutAt setup records seats events i → (before : List Noted) → RecordsStand records setup before → take i events ≡ joined setup before [] events
unfolding joined
cut-all setup records seats events i all cut before stands =
    sym (cut.rest before stands ∙ ap (λ list. take i events ++ joined setup before cut.nodes list) (drop_all i events (omega (arith, all))) ∙ append-nil (take i events))
