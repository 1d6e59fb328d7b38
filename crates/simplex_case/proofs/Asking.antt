-- Requests of nodes, and whether they were answered.
use Rattle.std.proofs.Common.{◌≡◌, ℕ, ◌+◌, ◌<◌, ◌≤◌, List, [], ◌∷◌, Bool, true, false, arith, refl, sym, ap, ◌∙◌, length, Option, Some, None, if◌then◌else◌, eqb-true}
use Rattle.std.specs.Prelude.{◌==◌, ◌&&◌, ◌||◌, nat_lt, IfSome}
use Rattle.std.specs.Option.{is_some}
use Rattle.std.specs.BTreeSet.{BTreeSet}
use Rattle.std.proofs.lemmas.Grind.{common_steps}
use Rattle.std.proofs.lemmas.Bool.{and_parts}
use Rattle.std.proofs.lemmas.List.Elements.{All-head, All-tail}
use Rattle.simplex_transcript.specs.declared.event.Event.{Event}
use Rattle.simplex_transcript.specs.declared.event.Event.TheVariants as events
use Rattle.simplex_transcript.specs.declared.node.Node.{Node}
use Rattle.simplex_transcript.specs.declared.node.Ref.{Ref}
use Rattle.simplex_transcript.specs.declared.setup.Setup.{Setup}
use Rattle.law_run.proofs.Tests.{same_node, same_self}
use Rattle.model_run.specs.Kinds.{is_node, is_same_node}
use Rattle.model_run.specs.Life.{Noted, is_of}
use Rattle.model_run.specs.Requests.{is_start, first_number, request_number}
use Rattle.simplex_records.proofs.Asked.{none-ahead}
use Rattle.model_audit.specs.Conditions.{answers_it, was_answered}
use Rattle.model_audit.specs.declared.record.AuditEntry.{AuditEntry}
use Rattle.model_audit.specs.Rebuilt.{rebuilt}
use Rattle.model_audit.specs.Running.{is_same_ref}
use Rattle.simplex_case.specs.Answered.{is_marked, AnswersStand, IsOfRequest}
use Rattle.simplex_case.specs.Stands.{AreOfNodes, IsOfNode}
use Rattle.simplex_case.specs.Taking.{answer_place, own_node}
use Rattle.simplex_case.proofs.Desks.{is-own, is-none}

-- ---- a node that does not exist asks nothing

other_by : (setup : Setup) (event : Event) (owner : Option Node) (node : Node) → own_node event ≡ owner → IfSome owner (λ n. is_node setup n ≡ true)
    → is_node setup node ≡ false → is_of node event ≡ false
other_by setup event None node e exists strange = is-none event node e
other_by setup event (Some owner) node e exists strange = is-own event owner node e ∙ apart (is_same_node owner node) refl
  where
    apart : (b : Bool) → is_same_node owner node ≡ b → b ≡ false
    apart false i = refl
    apart true i = let same : owner ≡ node = same_node owner node i in absurd (cc)

pub strange-event : (setup : Setup) (event : Event) (node : Node) → IsOfNode setup event → is_node setup node ≡ false → is_of node event ≡ false
unfolding IsOfNode
strange-event setup event node exists strange = other_by setup event (own_node event) node refl exists strange

not_asked : (b : Bool) (place : ℕ) (asked : ℕ) (first : ℕ) → b ≡ false → (if b && nat_lt place asked then Some (first + place) else None) ≡ None
not_asked true place asked first e = absurd (cc)
not_asked false place asked first e = refl

passed_by : (b start here : Bool) (found rest : Option ℕ) → b ≡ false → found ≡ None → rest ≡ None → (if here then found else if b && start then None else rest) ≡ None
passed_by true start here found rest e f r = absurd (cc)
passed_by false start true found rest e f r = f
passed_by false start false found rest e f r = r

pub strangers-ask-nothing : (setup : Setup) (before : List Noted) (node : Node) (at : Ref) → AreOfNodes setup before → is_node setup node ≡ false
    → request_number before node at ≡ None
unfolding AreOfNodes request_number
strangers-ask-nothing setup [] node at all strange = refl
strangers-ask-nothing setup (noted ∷ before) node at all strange =
    let other : is_of node noted.event ≡ false = strange-event setup noted.event node (All-head (λ (n : Noted). IsOfNode setup n.event) noted before all) strange in
    passed_by (is_of node noted.event) (is_start noted.event) (length before + 1 == at.event) _ _ other
    (not_asked (is_of node noted.event) at.place (length noted.entry.asked) (first_number noted before node) other)
    (strangers-ask-nothing setup before node at (All-tail (λ (n : Noted). IsOfNode setup n.event) noted before all) strange)

-- ---- a request is one node's

both_of : (event : Event) (owner : Option Node) (a b : Node) → own_node event ≡ owner → is_of a event ≡ true → is_of b event ≡ true → a ≡ b
both_of event None a b e i j = absurd (cc (is-none event a e))
both_of event (Some owner) a b e i j =
    let first : owner ≡ a = same_node owner a (sym (is-own event owner a e) ∙ i) in
    let second : owner ≡ b = same_node owner b (sym (is-own event owner b e) ∙ j) in
    sym first ∙ second

pub one-owner : (event : Event) (a b : Node) → is_of a event ≡ true → is_of b event ≡ true → a ≡ b
one-owner event a b i j = both_of event (own_node event) a b refl i j

some_here : (b : Bool) (place asked first : ℕ) → is_some (if b && nat_lt place asked then Some (first + place) else None) ≡ true → b ≡ true
some_here true place asked first e = refl
some_here false place asked first e = absurd (cc)

some_later : (b start : Bool) (rest : Option ℕ) → is_some (if b && start then None else rest) ≡ true → is_some rest ≡ true
some_later true true rest e = absurd (cc)
some_later true false rest e = e
some_later false start rest e = e

pub asked-by-one : (before : List Noted) (a b : Node) (at : Ref) → is_some (request_number before a at) ≡ true → is_some (request_number before b at) ≡ true → a ≡ b
unfolding request_number
asked-by-one [] a b at i j = absurd (cc)
asked-by-one (noted ∷ before) a b at i j = by (asked-by-one before a b at) (length before + 1 == at.event) i j
  where
    by : (is_some (request_number before a at) ≡ true → is_some (request_number before b at) ≡ true → a ≡ b) → (here : Bool)
        → is_some (if here then (if is_of a noted.event && nat_lt at.place (length noted.entry.asked) then Some (first_number noted before a + at.place) else None) else if is_of a noted.event && is_start noted.event then None else request_number before a at) ≡ true
        → is_some (if here then (if is_of b noted.event && nat_lt at.place (length noted.entry.asked) then Some (first_number noted before b + at.place) else None) else if is_of b noted.event && is_start noted.event then None else request_number before b at) ≡ true
        → a ≡ b
    by later true i j =
        one-owner noted.event a b (some_here (is_of a noted.event) at.place (length noted.entry.asked) (first_number noted before a) i)
        (some_here (is_of b noted.event) at.place (length noted.entry.asked) (first_number noted before b) j)
    by later false i j =
        later (some_later (is_of a noted.event) (is_start noted.event) (request_number before a at) i)
        (some_later (is_of b noted.event) (is_start noted.event) (request_number before b at) j)

-- ---- where a request stands

within : (before : List Noted) (node : Node) (at : Ref) (b : Bool) → nat_lt (length before) at.event ≡ b → is_some (request_number before node at) ≡ true → at.event ≤ length before
within before node at true e some = let lt : length before < at.event = grind (arith, common_steps) in absurd (cc (none-ahead before node at lt))
within before node at false e some = grind (arith, common_steps)

pub asked-within : (before : List Noted) (node : Node) (at : Ref) → is_some (request_number before node at) ≡ true → at.event ≤ length before
asked-within before node at some = within before node at (nat_lt (length before) at.event) refl some

pub asked-counted : (before : List Noted) (node : Node) (at : Ref) → is_some (request_number before node at) ≡ true → 0 < at.event
unfolding request_number
asked-counted [] node at some = absurd (cc)
asked-counted (noted ∷ before) node at some = by (asked-counted before node at) (length before + 1 == at.event) refl some
  where
    by : (is_some (request_number before node at) ≡ true → 0 < at.event) → (here : Bool) → (length before + 1 == at.event) ≡ here
        → is_some (if here then (if is_of node noted.event && nat_lt at.place (length noted.entry.asked) then Some (first_number noted before node + at.place) else None) else if is_of node noted.event && is_start noted.event then None else request_number before node at) ≡ true
        → 0 < at.event
    by later true e some = let is : length before + 1 ≡ at.event = eqb-true (length before + 1) at.event e in omega (arith, is)
    by later false e some = later (some_later (is_of node noted.event) (is_start noted.event) (request_number before node at) some)

earlier_of : (before : List Noted) (noted : Noted) (node : Node) (at : Ref) → is_some (request_number (noted ∷ before) node at) ≡ true
    → (length before + 1 == at.event) ≡ false → is_some (request_number before node at) ≡ true
unfolding request_number
earlier_of before noted node at some later =
    some_later (is_of node noted.event) (is_start noted.event) (request_number before node at)
    (sym (ap (λ b. is_some (if b then (if is_of node noted.event && nat_lt at.place (length noted.entry.asked) then Some (first_number noted before node + at.place) else None) else if is_of node noted.event && is_start noted.event then None else request_number before node at)) later) ∙ some)

-- ---- what is marked

or_false : (b c : Bool) → b ≡ false → c ≡ false → (b || c) ≡ false
or_false true c i j = absurd (cc)
or_false false c i j = j

-- an event that answers nothing
pub answered-none : (old new : List (BTreeSet ℕ)) (before : List Noted) (noted : Noted) → ((node : Node) (at : Ref) → answers_it node at noted.event ≡ false)
    → length new ≡ length old + 1 → ((at : Ref) → is_marked new at ≡ (if length old + 1 == at.event then false else is_marked old at))
    → AnswersStand old before → AnswersStand new (noted ∷ before)
answered-none old new before noted none count marks stand =
    record {
      count = let all : length new ≡ length before + 1 = count ∙ ap (λ n. n + 1) stand.count in omega (arith, all);
      marked = λ node at some. marks at ∙ by node at (length before + 1 == at.event) refl some;
      ahead = λ node at lt. or_false (answers_it node at noted.event) (was_answered before node at) (none node at) (stand.ahead node at (omega (arith, lt)));
    }
  where
    by : (node : Node) (at : Ref) (here : Bool) → (length before + 1 == at.event) ≡ here → is_some (request_number (noted ∷ before) node at) ≡ true
        → (if length old + 1 == at.event then false else is_marked old at) ≡ (answers_it node at noted.event || was_answered before node at)
    by node at true e some =
        let is : length before + 1 ≡ at.event = eqb-true (length before + 1) at.event e in
        ap (λ b. if b then false else is_marked old at) (ap (λ n. n + 1 == at.event) stand.count ∙ e)
        ∙ sym (or_false (answers_it node at noted.event) (was_answered before node at) (none node at) (stand.ahead node at (omega (arith, is))))
    by node at false e some =
        ap (λ b. if b then false else is_marked old at) (ap (λ n. n + 1 == at.event) stand.count ∙ e)
        ∙ stand.marked node at (earlier_of before noted node at some e) ∙ ap (λ b. b || was_answered before node at) (sym (none node at))

never : (b : Bool) → (b && false) ≡ false
never true = refl
never false = refl

whole : (m n g h : ℕ) → m ≡ n → g ≡ h → ◌≡◌ {A = Ref} (record { event = m; place = g }) (record { event = n; place = h })
whole m n g h i k = rw (i, k) refl

same_ref : (a b : Ref) → is_same_ref a b ≡ true → a ≡ b
same_ref a b e =
    let parts = and_parts (a.event == b.event) (a.place == b.place) e in
    whole a.event b.event a.place b.place (eqb-true a.event b.event parts.0) (eqb-true a.place b.place parts.1)

self : (a : Ref) → is_same_ref a a ≡ true
self a = grind (arith, common_steps)

swap : (a b : Ref) → is_same_ref a b ≡ is_same_ref b a
swap a b = grind (arith, common_steps)

-- an event that answers a request
pub answered-one : (old marked new : List (BTreeSet ℕ)) (before : List Noted) (noted : Noted) (owner : Node) (request : Ref)
    → ((node : Node) (at : Ref) → answers_it node at noted.event ≡ (is_same_node node owner && is_same_ref at request))
    → is_some (request_number before owner request) ≡ true
    → length marked ≡ length old → length new ≡ length marked + 1
    → (0 < request.event → request.event ≤ length old → (at : Ref) → is_marked marked at ≡ (is_same_ref request at || is_marked old at))
    → ((at : Ref) → is_marked new at ≡ (if length marked + 1 == at.event then false else is_marked marked at))
    → AnswersStand old before → AnswersStand new (noted ∷ before)
answered-one old marked new before noted owner request answers some kept count marks pushes stand =
    record {
      count = let all : length new ≡ length before + 1 = count ∙ ap (λ n. n + 1) (kept ∙ stand.count) in omega (arith, all);
      marked = λ node at asked. pushes at ∙ by node at (length before + 1 == at.event) refl asked;
      ahead = λ node at lt. or_false (answers_it node at noted.event) (was_answered before node at)
          (answers node at ∙ not_later node at (is_same_ref at request) refl (omega (arith, lt))) (stand.ahead node at (omega (arith, lt)));
    }
  where
    not_later : (node : Node) (at : Ref) (b : Bool) → is_same_ref at request ≡ b → length before < at.event → (is_same_node node owner && b) ≡ false
    not_later node at true e lt =
        let is : at.event ≡ request.event = eqb-true at.event request.event (and_parts (at.event == request.event) (at.place == request.place) e).0 in
        let le : request.event ≤ length before = asked-within before owner request some in
        absurd (omega (arith, is, le, lt))
    not_later node at false e lt = never (is_same_node node owner)

    hit : (node : Node) (at : Ref) (b : Bool) → is_same_ref at request ≡ b → is_some (request_number before node at) ≡ true
        → (is_same_ref request at || is_marked old at) ≡ (is_same_node node owner && is_same_ref at request || was_answered before node at)
    hit node at true e earlier =
        let same : at ≡ request = same_ref at request e in
        let one : node ≡ owner = asked-by-one before node owner request (rw (← same) earlier) some in
        ap (λ b. b || is_marked old at) (ap (λ r. is_same_ref request r) same ∙ self request)
        ∙ ap (λ b. b || was_answered before node at) (sym (ap (λ n. is_same_node n owner && is_same_ref at request) one ∙ ap (λ b. b && is_same_ref at request) (same_self owner) ∙ e))
    hit node at false e earlier =
        ap (λ b. b || is_marked old at) (swap request at ∙ e) ∙ stand.marked node at earlier
        ∙ ap (λ b. b || was_answered before node at) (sym (ap (λ b. is_same_node node owner && b) e ∙ never (is_same_node node owner)))

    by : (node : Node) (at : Ref) (here : Bool) → (length before + 1 == at.event) ≡ here → is_some (request_number (noted ∷ before) node at) ≡ true
        → (if length marked + 1 == at.event then false else is_marked marked at) ≡ (answers_it node at noted.event || was_answered before node at)
    by node at true e asked =
        let is : length before + 1 ≡ at.event = eqb-true (length before + 1) at.event e in
        ap (λ b. if b then false else is_marked marked at) (ap (λ n. n + 1 == at.event) (kept ∙ stand.count) ∙ e)
        ∙ sym (or_false (answers_it node at noted.event) (was_answered before node at)
        (answers node at ∙ not_later node at (is_same_ref at request) refl (omega (arith, is))) (stand.ahead node at (omega (arith, is))))
    by node at false e asked =
        let earlier = earlier_of before noted node at asked e in
        ap (λ b. if b then false else is_marked marked at) (ap (λ n. n + 1 == at.event) (kept ∙ stand.count) ∙ e)
        ∙ marks (asked-counted before owner request some) (let le : request.event ≤ length before = asked-within before owner request some in omega (arith, le, stand.count)) at
        ∙ hit node at (is_same_ref at request) refl earlier
        ∙ ap (λ b. b || was_answered before node at) (sym (answers node at))

-- what becomes of the marks at an event, by whether it answers a request
pub answered-at : (old marked new : List (BTreeSet ℕ)) (before : List Noted) (event : Event) (e : AuditEntry) (request : Ref) → answer_place event ≡ Some request → IsOfRequest before event
    → length marked ≡ length old → length new ≡ length marked + 1
    → (0 < request.event → request.event ≤ length old → (at : Ref) → is_marked marked at ≡ (is_same_ref request at || is_marked old at))
    → ((at : Ref) → is_marked new at ≡ (if length marked + 1 == at.event then false else is_marked marked at))
    → AnswersStand old before → AnswersStand new (rebuilt event e ∷ before)
unfolding IsOfRequest
answered-at old marked new before (events.Start n floor stop) e request is some = absurd (cc)
answered-at old marked new before (events.Tick ms) e request is some = absurd (cc)
answered-at old marked new before (events.Deliver n packet) e request is some = absurd (cc)
answered-at old marked new before (events.Step n source stop) e request is some = absurd (cc)
answered-at old marked new before (events.Answer owner at answer) e request is some =
    let same : at ≡ request = cc in
    λ kept count marks pushes stand. answered-one old marked new before (rebuilt (events.Answer owner at answer) e) owner request
    (λ node other. ap (λ r. is_same_node node owner && is_same_ref other r) same ∙ turned node owner other request)
    (ap (λ r. is_some (request_number before owner r)) (sym same) ∙ some) kept count marks pushes stand
  where
    turned : (node owner : Node) (other at : Ref) → (is_same_node node owner && is_same_ref other at) ≡ (is_same_node node owner && is_same_ref other at)
    turned node owner other at = refl
answered-at old marked new before (events.Crash n) e request is some = absurd (cc)
answered-at old marked new before (events.Inject member channel to bytes) e request is some = absurd (cc)

answers_nothing : (event : Event) (node : Node) (at : Ref) → answer_place event ≡ None → answers_it node at event ≡ false
answers_nothing (events.Start n floor stop) node at e = refl
answers_nothing (events.Tick ms) node at e = refl
answers_nothing (events.Deliver n packet) node at e = refl
answers_nothing (events.Step n source stop) node at e = refl
answers_nothing (events.Answer n r a) node at e = absurd (cc)
answers_nothing (events.Crash n) node at e = refl
answers_nothing (events.Inject member channel to bytes) node at e = refl

pub answered-not : (old new : List (BTreeSet ℕ)) (before : List Noted) (event : Event) (e : AuditEntry) → answer_place event ≡ None
    → length new ≡ length old + 1 → ((at : Ref) → is_marked new at ≡ (if length old + 1 == at.event then false else is_marked old at))
    → AnswersStand old before → AnswersStand new (rebuilt event e ∷ before)
answered-not old new before event e none count marks stand = answered-none old new before (rebuilt event e) (λ node at. answers_nothing event node at none) count marks stand
