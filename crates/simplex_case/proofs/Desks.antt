-- What is kept of a node, of one event more.
use Rattle.std.proofs.Common.{◌≡◌, ℕ, ◌+◌, ◌*◌, ◌<◌, ◌≤◌, List, [], ◌∷◌, ◌++◌, ◌≢◌, Bool, true, false, arith, refl, sym, ap, ◌∙◌, length, get_or, set, subst, if◌then◌else◌, Option, Some, None, ltb-true, le-leb, eqb-true}
use Rattle.std.specs.Prelude.{◌==◌, ◌&&◌, ◌||◌, nat_lt, nat_le, not, IfSome, slice_get}
use Rattle.std.specs.List.{list_any}
use Rattle.std.specs.Option.{option_map_or}
use Rattle.std.proofs.lemmas.Grind.{common_steps}
use Rattle.std.proofs.lemmas.Bool.{and_parts}
use Rattle.std.proofs.lemmas.Option.{slice_get-get_or}
use Rattle.simplex_values.specs.Maps.{found}
use Rattle.simplex_transcript.specs.declared.event.Event.{Event}
use Rattle.simplex_transcript.specs.declared.event.Event.TheVariants as events
use Rattle.simplex_transcript.specs.declared.node.Node.{Node}
use Rattle.simplex_transcript.specs.declared.node.Ref.{Ref}
use Rattle.simplex_transcript.specs.declared.setup.Setup.{Setup}
use Rattle.model_run.specs.Kinds.{is_node, is_same_node, members_of, is_twin, halves_of}
use Rattle.model_run.specs.Life.{Noted, is_of}
use Rattle.std.specs.BTreeMap.{BTreeMap}
use Rattle.simplex_records.specs.declared.requests.Requests.{Requests}
use Rattle.simplex_records.specs.Requests.{RequestsStand, number_in}
use Rattle.law_run.proofs.Tests.{same_self}
use Rattle.simplex_records.specs.Seats.{seat_of, node_at}
use Rattle.simplex_records.proofs.Asked.{desk-other as requests-other, desk-new as requests-new}
use Rattle.simplex_records.proofs.Lists.{slice_get-set, slice_get-set_other, slice_get-push}
use Rattle.simplex_records.proofs.Seating.{seated, same-seat}
use Rattle.model_audit.specs.Conditions.{was_dropped}
use Rattle.model_audit.specs.Running.{runs_at}
use Rattle.simplex_case.specs.declared.desk.Desk.{Desk}
use Rattle.simplex_case.specs.Desk.{DeskStands, drops_since, runs_behind}
use Rattle.simplex_case.specs.Stands.{DesksStand, IsOfNode}
use Rattle.simplex_case.specs.Taking.{own_node}

-- ---- whether it runs

pub runs-own : (before : List Noted) (noted : Noted) (node : Node) → is_of node noted.event ≡ true
    → runs_at (noted ∷ before) node ≡ runs_behind (runs_at before node) noted.event noted.entry.outcome
unfolding runs_at
runs-own before noted node mine = rw mine refl

pub runs-other : (before : List Noted) (noted : Noted) (node : Node) → is_of node noted.event ≡ false → runs_at (noted ∷ before) node ≡ runs_at before node
unfolding runs_at
runs-other before noted node other = rw other refl

-- ---- what was dropped

too_late : (last : Option ℕ) (most event : ℕ) → ((l : ℕ) → last ≡ Some l → l ≤ most) → most < event → option_map_or (λ l. nat_le event l) last false ≡ false
too_late None most event bound lt = refl
too_late (Some l) most event bound lt = let le : l ≤ most = bound l refl in grind (arith, common_steps)

kept_at : (desk : Desk) (before : List Noted) (node : Node) (event number : ℕ) (b : Bool) → (length before + 1 == event) ≡ b → 0 < event → event ≤ length before + 1
    → DeskStands desk before node → drops_since desk event number ≡ (not b && was_dropped before node event number)
unfolding drops_since
kept_at desk before node event number true e pos le stand =
    too_late (found desk.dropped number) (length before) event (stand.bound number) (grind (arith, common_steps))
kept_at desk before node event number false e pos le stand =
    let earlier : event ≤ length before = grind (arith, common_steps) in
    dropped_is desk before node event number stand pos earlier
  where
    dropped_is : (desk : Desk) (before : List Noted) (node : Node) (event number : ℕ) → DeskStands desk before node → 0 < event → event ≤ length before
        → option_map_or (λ last. nat_le event last) (found desk.dropped number) false ≡ was_dropped before node event number
    dropped_is desk before node event number stand pos earlier = stand.dropped event number pos earlier

dropped_now : (desk new : Desk) (before : List Noted) (node : Node) (event number : ℕ) (hit : Bool) → 0 < event → event ≤ length before + 1 → DeskStands desk before node
    → found new.dropped number ≡ (if hit then Some (length before + 1) else found desk.dropped number)
    → drops_since new event number ≡ (hit || (not (length before + 1 == event) && was_dropped before node event number))
unfolding drops_since
dropped_now desk new before node event number true pos le stand is =
    ap (λ o. option_map_or (λ last. nat_le event last) o false) is ∙ le-leb event (length before + 1) le
dropped_now desk new before node event number false pos le stand is =
    ap (λ o. option_map_or (λ last. nat_le event last) o false) is ∙ now desk before node event number pos le stand
  where
    now : (desk : Desk) (before : List Noted) (node : Node) (event number : ℕ) → 0 < event → event ≤ length before + 1 → DeskStands desk before node
        → option_map_or (λ last. nat_le event last) (found desk.dropped number) false ≡ (not (length before + 1 == event) && was_dropped before node event number)
    now desk before node event number pos le stand = kept_at desk before node event number (length before + 1 == event) refl pos le stand

bound_now : (desk new : Desk) (before : List Noted) (node : Node) (number last : ℕ) (hit : Bool) → DeskStands desk before node
    → found new.dropped number ≡ (if hit then Some (length before + 1) else found desk.dropped number) → found new.dropped number ≡ Some last → last ≤ length before + 1
bound_now desk new before node number last true stand is e = let same : last ≡ length before + 1 = cc in omega (arith, same)
bound_now desk new before node number last false stand is e =
    let le : last ≤ length before = stand.bound number last (sym is ∙ e) in omega (arith, le)

-- ---- one event more

-- of another node
pub desk-other : (desk : Desk) (before : List Noted) (noted : Noted) (node : Node) → is_of node noted.event ≡ false
    → DeskStands desk before node → DeskStands desk (noted ∷ before) node
unfolding was_dropped
desk-other desk before noted node other stand =
    record {
      requests = requests-other desk.requests before noted node other stand.requests;
      runs = stand.runs ∙ sym (runs-other before noted node other);
      dropped = λ event number pos le. kept_at desk before node event number (length before + 1 == event) refl pos (omega (arith, le)) stand
          ∙ ap (λ b. b && list_any (λ n. n == number) noted.entry.dropped || (not (length before + 1 == event) && was_dropped before node event number)) (sym other);
      bound = λ number last e. let le : last ≤ length before = stand.bound number last e in omega (arith, le);
    }

-- of the node itself
pub desk-own : (desk new : Desk) (before : List Noted) (noted : Noted) (node : Node) → is_of node noted.event ≡ true
    → DeskStands desk before node → RequestsStand new.requests (noted ∷ before) node
    → new.runs ≡ runs_behind desk.runs noted.event noted.entry.outcome
    → ((q : ℕ) → found new.dropped q ≡ (if list_any (λ n. n == q) noted.entry.dropped then Some (length before + 1) else found desk.dropped q))
    → DeskStands new (noted ∷ before) node
unfolding was_dropped
desk-own desk new before noted node mine stand requests runs dropped =
    record {
      requests = requests;
      runs = runs ∙ ap (λ r. runs_behind r noted.event noted.entry.outcome) stand.runs ∙ sym (runs-own before noted node mine);
      dropped = λ event number pos le. dropped_now desk new before node event number (list_any (λ n. n == number) noted.entry.dropped) pos (omega (arith, le)) stand (dropped number)
          ∙ ap (λ b. b && list_any (λ n. n == number) noted.entry.dropped || (not (length before + 1 == event) && was_dropped before node event number)) (sym mine);
      bound = λ number last e. let le : last ≤ length before + 1 = bound_now desk new before node number last (list_any (λ n. n == number) noted.entry.dropped) stand (dropped number) e in omega (arith, le);
    }

-- ---- all desks

-- the event is one of the node that is named alone
pub is-own : (event : Event) (node other : Node) → own_node event ≡ Some node → is_of other event ≡ is_same_node node other
is-own (events.Start at floor stop) node other e = let same : at ≡ node = cc in rw same refl
is-own (events.Tick ms) node other e = absurd (cc)
is-own (events.Deliver at packet) node other e = let same : at ≡ node = cc in rw same refl
is-own (events.Step at source stop) node other e = let same : at ≡ node = cc in rw same refl
is-own (events.Answer at request answer) node other e = let same : at ≡ node = cc in rw same refl
is-own (events.Crash at) node other e = let same : at ≡ node = cc in rw same refl
is-own (events.Inject member channel to bytes) node other e = absurd (cc)

pub is-none : (event : Event) (other : Node) → own_node event ≡ None → is_of other event ≡ false
is-none (events.Start at floor stop) other e = absurd (cc)
is-none (events.Tick ms) other e = refl
is-none (events.Deliver at packet) other e = absurd (cc)
is-none (events.Step at source stop) other e = absurd (cc)
is-none (events.Answer at request answer) other e = absurd (cc)
is-none (events.Crash at) other e = absurd (cc)
is-none (events.Inject member channel to bytes) other e = refl

halves_few : (twin : Bool) (half : ℕ) → nat_lt half (if twin then 2 else 1) ≡ true → half < 2
halves_few true half e = ltb-true half 2 e
halves_few false half e = let lt : half < 1 = ltb-true half 1 e in omega (arith, lt)

-- where a node sits
pub node-half : (setup : Setup) (node : Node) → is_node setup node ≡ true → node.half < 2
node-half setup node e =
    halves_few (is_twin setup node.member) node.half (and_parts (nat_lt node.member (members_of setup)) (nat_lt node.half (halves_of setup node.member)) e).1

pub node-member : (setup : Setup) (node : Node) → is_node setup node ≡ true → node.member < members_of setup
node-member setup node e =
    ltb-true node.member (members_of setup) (and_parts (nat_lt node.member (members_of setup)) (nat_lt node.half (halves_of setup node.member)) e).0

pub node-seat : (setup : Setup) (node : Node) → is_node setup node ≡ true → seat_of node < 2 * members_of setup
node-seat setup node e =
    let half = node-half setup node e in
    let member = node-member setup node e in
    grind arith

-- the desk of a node that exists
pub desk-of : (desks : List Desk) (before : List Noted) (setup : Setup) (node : Node) (desk : Desk) → DesksStand desks before → is_node setup node ≡ true
    → slice_get desks (seat_of node) ≡ Some desk → DeskStands desk before node
unfolding DesksStand
desk-of desks before setup node desk stand exists is =
    subst (λ n. DeskStands desk before n) (seated node (node-half setup node exists)) (stand (seat_of node) desk is)

desk_at : (desks : List Desk) (before : List Noted) (noted : Noted) (node : Node) (new : Desk) → node.half < 2 → own_node noted.event ≡ Some node
    → DesksStand desks before → DeskStands new (noted ∷ before) node
    → (at : ℕ) (other : Desk) → slice_get (set desks (seat_of node) new) at ≡ Some other → (b : Bool) → (seat_of node == at) ≡ b → DeskStands other (noted ∷ before) (node_at at)
unfolding DesksStand
desk_at desks before noted node new half of stand here at other is true e =
    let there : seat_of node ≡ at = eqb-true (seat_of node) at e in
    let same : other ≡ new = slice_get-set desks (seat_of node) at new other is there in
    rw same (subst (λ n. DeskStands new (noted ∷ before) n) (sym (seated node half) ∙ ap node_at there) here)
desk_at desks before noted node new half of stand here at other is false e =
    let apart : seat_of node ≢ at = grind (arith, common_steps) in
    desk-other other before noted (node_at at) (is-own noted.event node (node_at at) of ∙ same-seat node at half ∙ e)
    (stand at other (sym (slice_get-set_other desks (seat_of node) at new apart) ∙ is))

pub desks-own : (desks : List Desk) (before : List Noted) (noted : Noted) (node : Node) (new : Desk) → node.half < 2 → own_node noted.event ≡ Some node
    → DesksStand desks before → DeskStands new (noted ∷ before) node → DesksStand (set desks (seat_of node) new) (noted ∷ before)
unfolding DesksStand
desks-own desks before noted node new half of stand here =
    λ at other is. desk_at desks before noted node new half of stand here at other is (seat_of node == at) refl

pub desks-none : (desks : List Desk) (before : List Noted) (noted : Noted) → own_node noted.event ≡ None → DesksStand desks before → DesksStand desks (noted ∷ before)
unfolding DesksStand
desks-none desks before noted none stand = λ at desk is. desk-other desk before noted (node_at at) (is-none noted.event (node_at at) none) (stand at desk is)

-- ---- blank desks

unfoldable pub AreNew : List Desk → Type 0
AreNew desks = (at : ℕ) (desk : Desk) → slice_get desks at ≡ Some desk → (node : Node) → DeskStands desk [] node

pub no-desks : AreNew []
unfolding AreNew
no-desks = λ at desk is node. absurd (cc)

grown_at : (desks : List Desk) (one : Desk) → AreNew desks → ((node : Node) → DeskStands one [] node) → (at : ℕ) (desk : Desk) (b : Bool) → (length desks == at) ≡ b
    → (if b then Some one else slice_get desks at) ≡ Some desk → (node : Node) → DeskStands desk [] node
unfolding AreNew
grown_at desks one all new at desk true e is = let same : desk ≡ one = cc in rw same new
grown_at desks one all new at desk false e is = all at desk is

pub desks-grown : (desks new : List Desk) (one : Desk) → new ≡ desks ++ one ∷ [] → AreNew desks → ((node : Node) → DeskStands one [] node) → AreNew new
unfolding AreNew
desks-grown desks new one is all blank =
    λ at desk here. grown_at desks one all blank at desk (length desks == at) refl (sym (slice_get-push desks one at) ∙ ap (λ ds. slice_get ds at) (sym is) ∙ here)

pub desks-new : (desks : List Desk) → AreNew desks → DesksStand desks []
unfolding AreNew DesksStand
desks-new desks all = λ at desk is. all at desk is (node_at at)

-- ---- a node of which there is no event

pub desk-new : (requests : Requests) (dropped : BTreeMap ℕ ℕ) (node : Node) → requests.places.items ≡ [] → ((at : Ref) → number_in requests at ≡ None)
    → ((q : ℕ) → found dropped q ≡ None) → DeskStands (record { requests = requests; runs = false; dropped = dropped }) [] node
unfolding runs_at
desk-new requests dropped node places numbers none =
    record {
      requests = requests-new requests node places numbers;
      runs = refl;
      dropped = λ event number pos le. absurd (omega (arith, pos, le));
      bound = λ number last e. absurd (cc (none number));
    }

-- ---- the desk that is taken at

pub desk-seated : (desks : List Desk) (before : List Noted) (setup : Setup) (node : Node) (seat : ℕ) (desk : Desk) → seat ≡ seat_of node → DesksStand desks before → is_node setup node ≡ true
    → seat < length desks → desk ≡ get_or desks seat desk → DeskStands desk before node
desk-seated desks before setup node seat desk at stand exists lt is =
    desk-of desks before setup node desk stand exists (ap (λ n. slice_get desks n) (sym at) ∙ slice_get-get_or desks seat desk lt ∙ ap (λ d. Some d) (sym is))

pub owner-exists : (setup : Setup) (event : Event) (node : Node) → IsOfNode setup event → own_node event ≡ Some node → is_node setup node ≡ true
unfolding IsOfNode
owner-exists setup event node exists is = by (own_node event) exists is
  where
    by : (o : Option Node) → IfSome o (λ n. is_node setup n ≡ true) → o ≡ Some node → is_node setup node ≡ true
    by None exists is = absurd (cc)
    by (Some n) exists is = let same : n ≡ node = cc in subst (λ m. is_node setup m ≡ true) same exists

pub owned : (event : Event) (node : Node) → own_node event ≡ Some node → is_of node event ≡ true
owned event node is = is-own event node node is ∙ same_self node
