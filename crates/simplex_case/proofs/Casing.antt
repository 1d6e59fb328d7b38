-- What the case keeps, and what is looked up in it.
use Rattle.std.proofs.Common.{◌≡◌, ℕ, ◌+◌, ◌-◌, ◌*◌, ◌<◌, ◌≤◌, ◌^◌, List, [], ◌∷◌, ◌++◌, Bool, true, false, arith, refl, sym, ap, ◌∙◌, length, Option, Some, None, if◌then◌else◌, subst, leb-true, zero, suc}
use Rattle.std.specs.Prelude.{◌==◌, ◌&&◌, ◌||◌, nat_le, nat_lt, not, slice_get, filter_map}
use Rattle.std.specs.List.{list_any, list_all, cons_option}
use Rattle.std.specs.Option.{option_and_then, option_map_or, option_eq, is_some}
use Rattle.std.proofs.lemmas.Grind.{common_steps}
use Rattle.std.proofs.lemmas.List.{length_push}
use Rattle.std.proofs.lemmas.List.Elements.{All-nil, All-cons}
use Rattle.simplex_values.specs.declared.answer.Answer.{Answer}
use Rattle.simplex_values.specs.declared.plan.Channel.{Channel}
use Rattle.simplex_wire.specs.declared.certificate.Finalization.{Finalization}
use Rattle.simplex_messages.specs.declared.call.Call.{Call}
use Rattle.simplex_messages.specs.declared.step.Stop.{Stop}
use Rattle.simplex_transcript.specs.declared.event.StepSource.{StepSource}
use Rattle.simplex_transcript.specs.declared.event.Event.{Event}
use Rattle.simplex_transcript.specs.declared.event.Event.TheVariants as events
use Rattle.simplex_transcript.specs.declared.node.Node.{Node}
use Rattle.simplex_transcript.specs.declared.node.Ref.{Ref}
use Rattle.simplex_transcript.specs.declared.setup.Setup.{Setup}
use Rattle.law_run.specs.Complete.{node_named}
use Rattle.model_run.specs.Entries.{is_of_honest, is_own_floor, reports, was_reported}
use Rattle.model_run.specs.Kinds.{is_faulty_member, is_node, is_same_node, members_of, runs_engine}
use Rattle.model_run.specs.Life.{Noted, clock_of}
use Rattle.model_run.specs.Requests.{packet_at, packet_for, if_for, request_number}
use Rattle.model_run.specs.Setting.{Setting}
use Rattle.simplex_records.specs.declared.reported.Reported.{Reported}
use Rattle.simplex_records.specs.Reported.{has_reported}
use Rattle.simplex_records.specs.Requests.{number_in}
use Rattle.simplex_records.specs.Seats.{seat_of}
use Rattle.simplex_records.specs.Votes.{VotesStand}
use Rattle.simplex_records.proofs.Lists.{slice_get-push}
use Rattle.simplex_records.proofs.Told.{told-entry}
use Rattle.model_audit.specs.declared.record.AuditCall.{AuditCall}
use Rattle.model_audit.specs.declared.record.AuditEntry.{AuditEntry}
use Rattle.model_audit.specs.Answers.{answer_fits}
use Rattle.model_audit.specs.Conditions.{is_allowed, is_at_end, is_pending, was_answered, was_dropped}
use Rattle.model_audit.specs.Fitting.{fits, outcome_fits, took_or_idle, lists_fit}
use Rattle.model_audit.specs.Rebuilt.{call_for, rebuilt, rebuilt_entry}
use Rattle.law_run.specs.Asked.{asked_at}
use Rattle.model_audit.specs.Running.{runs_at}
use Rattle.simplex_case.specs.declared.case.Case.{Case}
use Rattle.simplex_case.specs.declared.desk.Desk.{Desk}
use Rattle.simplex_case.specs.Answered.{is_marked, AnswersStand, IsOfRequest}
use Rattle.simplex_case.specs.Desk.{DeskStands}
use Rattle.simplex_case.specs.Items.{listed_at, AreItems}
use Rattle.simplex_case.specs.Stands.{AreOfNodes, CaseStands, DesksStand, IsOfNode, IsEndOf}
use Rattle.simplex_case.specs.Taking.{clock_behind, tells}
use Rattle.simplex_case.proofs.Asking.{asked-counted, asked-within, strangers-ask-nothing}
use Rattle.simplex_case.proofs.Desks.{desk-of, node-seat}

-- ---- what stands at a place, of one entry more

push_at : {A : Type 0} (list : AuditEntry → List A) (prior : List AuditEntry) (e : AuditEntry) (at : Ref) (b : Bool) → (at.event == 0) ≡ b
    → (if b then None else option_and_then (λ x. slice_get (list x) at.place) (slice_get (prior ++ e ∷ []) (at.event - 1)))
    ≡ (if length prior + 1 == at.event then slice_get (list e) at.place else (if b then None else option_and_then (λ x. slice_get (list x) at.place) (slice_get prior (at.event - 1))))
push_at list prior e at true i = grind (arith, common_steps)
push_at list prior e at false i = grind (arith, common_steps, slice_get-push prior e (at.event - 1))

listed-push : {A : Type 0} (list : AuditEntry → List A) (prior : List AuditEntry) (e : AuditEntry) (at : Ref)
    → listed_at list (prior ++ e ∷ []) at ≡ (if length prior + 1 == at.event then slice_get (list e) at.place else listed_at list prior at)
unfolding listed_at
listed-push list prior e at = push_at list prior e at (at.event == 0) refl

alike : {A : Type 0} (b c : Bool) (x z w : A) → b ≡ c → z ≡ w → (if b then x else z) ≡ (if c then x else w)
alike true true x z w e g = refl
alike true false x z w e g = absurd (cc)
alike false true x z w e g = absurd (cc)
alike false false x z w e g = g

none_listed : {A : Type 0} (list : AuditEntry → List A) (b : Bool) (at : Ref) → (if b then None else option_and_then (λ x. slice_get (list x) at.place) (slice_get [] (at.event - 1))) ≡ None
none_listed list true at = refl
none_listed list false at = refl

pub no-items : AreItems [] []
unfolding listed_at packet_at asked_at
no-items = record { count = refl; packets = λ at. none_listed (λ e. e.packets) (at.event == 0) at; asked = λ at. none_listed (λ e. e.asked) (at.event == 0) at }

pub items-more : (prior : List AuditEntry) (before : List Noted) (event : Event) (e : AuditEntry) → AreItems prior before → AreItems (prior ++ e ∷ []) (rebuilt event e ∷ before)
unfolding packet_at asked_at rebuilt_entry
items-more prior before event e items =
    record {
      count = let all : length (prior ++ e ∷ []) ≡ length before + 1 = length_push prior e ∙ ap (λ n. n + 1) items.count in omega (arith, all);
      packets = λ at. listed-push (λ x. x.packets) prior e at
          ∙ alike (length prior + 1 == at.event) (length before + 1 == at.event) (slice_get e.packets at.place) _ _ (ap (λ n. n + 1 == at.event) items.count) (items.packets at);
      asked = λ at. listed-push (λ x. x.asked) prior e at
          ∙ alike (length prior + 1 == at.event) (length before + 1 == at.event) (slice_get e.asked at.place) _ _ (ap (λ n. n + 1 == at.event) items.count) (items.asked at);
    }

pub packet-is : (prior : List AuditEntry) (before : List Noted) (node : Node) (at : Ref) → AreItems prior before
    → is_some (option_and_then (if_for node) (listed_at (λ e. e.packets) prior at)) ≡ is_some (packet_for before node at)
unfolding packet_for
packet-is prior before node at items = ap (λ p. is_some (option_and_then (if_for node) p)) (items.packets at)

-- ---- the clock

pub clock-more : (before : List Noted) (event : Event) (e : AuditEntry) → clock_of (rebuilt event e ∷ before) ≡ clock_behind (clock_of before) event
unfolding clock_of
clock-more before (events.Start node floor stop) e = refl
clock-more before (events.Tick ms) e = refl
clock-more before (events.Deliver node at) e = refl
clock-more before (events.Step node source stop) e = refl
clock-more before (events.Answer node at answer) e = refl
clock-more before (events.Crash node) e = refl
clock-more before (events.Inject member channel to bytes) e = refl

-- ---- what is said of an event that could be taken

lead : (a b : Bool) → (a && b) ≡ true → a ≡ true
lead true b e = refl
lead false b e = absurd (cc)

rest : (a b : Bool) → (a && b) ≡ true → b ≡ true
rest true b e = e
rest false b e = absurd (cc)

pub allowed-node : (setting : Setting) (before : List Noted) (event : Event) → is_allowed setting before event ≡ true → IsOfNode setting.setup event
unfolding is_allowed IsOfNode
allowed-node setting before (events.Start node floor stop) e = lead _ _ (lead _ _ e)
allowed-node setting before (events.Tick ms) e = tt
allowed-node setting before (events.Deliver node at) e = lead _ _ (lead _ _ (lead _ _ e))
allowed-node setting before (events.Step node source stop) e = lead _ _ (lead _ _ e)
allowed-node setting before (events.Answer node at answer) e = lead _ _ (lead _ _ (lead _ _ e))
allowed-node setting before (events.Crash node) e = lead _ _ e
allowed-node setting before (events.Inject member channel to bytes) e = tt

some_of : (o : Option ℕ) (test : ℕ → Bool) → option_map_or test o false ≡ true → is_some o ≡ true
some_of None test e = absurd (cc)
some_of (Some n) test e = refl

pub allowed-request : (setting : Setting) (before : List Noted) (event : Event) → is_allowed setting before event ≡ true → IsOfRequest before event
unfolding is_allowed is_pending IsOfRequest
allowed-request setting before (events.Start node floor stop) e = tt
allowed-request setting before (events.Tick ms) e = tt
allowed-request setting before (events.Deliver node at) e = tt
allowed-request setting before (events.Step node source stop) e = tt
allowed-request setting before (events.Answer node at answer) e =
    some_of (request_number before node at) _ (lead _ _ (lead _ _ (rest _ _ e)))
allowed-request setting before (events.Crash node) e = tt
allowed-request setting before (events.Inject member channel to bytes) e = tt

pub allowed-clock : (setting : Setting) (before : List Noted) (event : Event) (clock : ℕ) → clock ≡ clock_of before → clock ≤ 2 ^ 63 - 1 → is_allowed setting before event ≡ true
    → clock_behind clock event ≤ 2 ^ 63 - 1
unfolding is_allowed
allowed-clock setting before (events.Start node floor stop) clock is small e = small
allowed-clock setting before (events.Tick ms) clock is small e =
    let le : clock_of before + ms ≤ 2 ^ 63 - 1 = leb-true (clock_of before + ms) (2 ^ 63 - 1) e in
    rw is le
allowed-clock setting before (events.Deliver node at) clock is small e = small
allowed-clock setting before (events.Step node source stop) clock is small e = small
allowed-clock setting before (events.Answer node at answer) clock is small e = small
allowed-clock setting before (events.Crash node) clock is small e = small
allowed-clock setting before (events.Inject member channel to bytes) clock is small e = small

pub nodes-more : (setup : Setup) (before : List Noted) (event : Event) (e : AuditEntry) → IsOfNode setup event → AreOfNodes setup before → AreOfNodes setup (rebuilt event e ∷ before)
unfolding AreOfNodes
nodes-more setup before event e here all = All-cons (λ (n : Noted). IsOfNode setup n.event) (rebuilt event e) before here all

pub no-nodes : (setup : Setup) → AreOfNodes setup []
unfolding AreOfNodes
no-nodes setup = All-nil (λ (n : Noted). IsOfNode setup n.event)

-- ---- what is looked up of a node

no_desk : (desks : List Desk) (seat : ℕ) → seat < length desks → slice_get desks seat ≡ None → ⊥
no_desk [] seat lt e = omega (arith, lt)
no_desk (d ∷ desks) zero lt e = cc
no_desk (d ∷ desks) (suc seat) lt e = no_desk desks seat (omega (arith, lt)) e

pub desk-there : (case : Case) (setup : Setup) (prior : List AuditEntry) (before : List Noted) (node : Node) → CaseStands case setup prior before → is_node setup node ≡ true
    → None ≡ (if is_node setup node then slice_get case.desks.items (seat_of node) else None) → ⊥
desk-there case setup prior before node stand exists is =
    no_desk case.desks.items (seat_of node) (let lt = node-seat setup node exists in omega (arith, lt, stand.seats))
    (sym (is ∙ ap (λ b. if b then slice_get case.desks.items (seat_of node) else None) exists))

pub desk-found : (case : Case) (setup : Setup) (prior : List AuditEntry) (before : List Noted) (node : Node) (desk : Desk) → CaseStands case setup prior before → is_node setup node ≡ true
    → Some desk ≡ (if is_node setup node then slice_get case.desks.items (seat_of node) else None) → DeskStands desk before node
desk-found case setup prior before node desk stand exists is =
    desk-of case.desks.items before setup node desk stand.desks exists (sym (is ∙ ap (λ b. if b then slice_get case.desks.items (seat_of node) else None) exists))

pub number-none : (case : Case) (setup : Setup) (prior : List AuditEntry) (before : List Noted) (node : Node) (at : Ref) → CaseStands case setup prior before
    → None ≡ (if is_node setup node then slice_get case.desks.items (seat_of node) else None) → None ≡ request_number before node at
number-none case setup prior before node at stand is = by (is_node setup node) refl
  where
    by : (b : Bool) → is_node setup node ≡ b → None ≡ request_number before node at
    by true e = absurd (desk-there case setup prior before node stand e is)
    by false e = sym (strangers-ask-nothing setup before node at stand.nodes e)

pub number-some : (case : Case) (setup : Setup) (prior : List AuditEntry) (before : List Noted) (node : Node) (at : Ref) (desk : Desk) → CaseStands case setup prior before
    → Some desk ≡ (if is_node setup node then slice_get case.desks.items (seat_of node) else None) → number_in desk.requests at ≡ request_number before node at
number-some case setup prior before node at desk stand is = by (is_node setup node) refl
  where
    by : (b : Bool) → is_node setup node ≡ b → number_in desk.requests at ≡ request_number before node at
    by true e = (desk-found case setup prior before node desk stand e is).requests.number at
    by false e = absurd (cc (is ∙ ap (λ b. if b then slice_get case.desks.items (seat_of node) else None) e))

-- ---- reports

pub tells-all : (f : Finalization) (calls : List AuditCall) → list_any (reports f) (filter_map call_for calls) ≡ list_any (tells f) calls
tells-all f [] = refl
tells-all f (call ∷ calls) = one (call_for call) ∙ ap (λ b. tells f call || b) (tells-all f calls)
  where
    one : (o : Option Call) → list_any (reports f) (cons_option o (filter_map call_for calls)) ≡ (option_map_or (reports f) o false || list_any (reports f) (filter_map call_for calls))
    one None = refl
    one (Some c) = refl

-- ---- which events could be taken

guarded : (a b c d : Bool) → (a ≡ true → b ≡ c) → (a && b && d) ≡ (a && c && d)
guarded true b c d e = ap (λ x. x && d) (e refl)
guarded false b c d e = refl

guarded_two : (a b c : Bool) → (a ≡ true → b ≡ c) → (a && b) ≡ (a && c)
guarded_two true b c e = e refl
guarded_two false b c e = refl

-- a node that exists runs, or has no engine
abbrev Goes : Setup → List Noted → Node → Bool → Type 0
Goes setup before node b = is_node setup node ≡ true → b ≡ (not (runs_engine setup node.member) || runs_at before node)

pub allow-tick : (setting : Setting) (before : List Noted) (clock ms left : ℕ) (event : Event) → event ≡ events.Tick ms → clock ≡ clock_of before → clock ≤ 2 ^ 63 - 1
    → left ≡ 2 ^ 63 - 1 - clock → nat_le ms left ≡ is_allowed setting before event
unfolding is_allowed
allow-tick setting before clock ms left event is now small rest = rw (is, rest, now) (by (clock_of before) ms (rw now at small))
  where
    by : (clock ms : ℕ) → clock ≤ 2 ^ 63 - 1 → nat_le ms (2 ^ 63 - 1 - clock) ≡ nat_le (clock + ms) (2 ^ 63 - 1)
    by clock ms small = grind (arith, common_steps)

pub allow-inject : (setting : Setting) (setup : Setup) (before : List Noted) (member : ℕ) (channel : Channel) (to : List Node) (bytes : List ℕ) (a b r : Bool) (event : Event)
    → setting.setup ≡ setup → event ≡ events.Inject member channel to bytes → r ≡ (a && b)
    → a ≡ (nat_lt member (members_of setup) && list_all (is_node setup) to) → b ≡ is_faulty_member setup member → r ≡ is_allowed setting before event
unfolding is_allowed
allow-inject setting setup before member channel to bytes a b r event same is all there faulty =
    all ∙ ap (λ x. x && b) there ∙ ap (λ x. nat_lt member (members_of setup) && list_all (is_node setup) to && x) faulty
    ∙ ap (λ s. nat_lt member (members_of s) && list_all (is_node s) to && is_faulty_member s member) (sym same)
    ∙ ap (λ (e : Event). is_allowed setting before e) (sym is)

pub allow-start : (setting : Setting) (setup : Setup) (before : List Noted) (node : Node) (floor : Option Finalization) (stop : Stop) (a b c r : Bool) (event : Event)
    → setting.setup ≡ setup → event ≡ events.Start node floor stop → r ≡ (a && not b && c)
    → a ≡ is_node setup node → Goes setup before node b → c ≡ is_own_floor setup before floor → r ≡ is_allowed setting before event
unfolding is_allowed
allow-start setting setup before node floor stop a b c r event same is all there goes own =
    all ∙ ap (λ x. x && not b && c) there
    ∙ guarded (is_node setup node) (not b) (not (not (runs_engine setup node.member) || runs_at before node)) c (λ exists. ap not (goes exists))
    ∙ ap (λ x. is_node setup node && not (not (runs_engine setup node.member) || runs_at before node) && x) own
    ∙ ap (λ s. is_node s node && not (not (runs_engine s node.member) || runs_at before node) && is_own_floor s before floor) (sym same)
    ∙ ap (λ (e : Event). is_allowed setting before e) (sym is)

ended : (n e r x y : Bool) → (n ≡ true → e ≡ true → r ≡ true → x ≡ y) → (n && (not e || r) && (not e || not x)) ≡ (n && (not e || r) && (not e || not y))
ended false e r x y same = refl
ended true false r x y same = refl
ended true true false x y same = refl
ended true true true x y same = ap not (same refl refl refl)

ended-of : (n e r p x y : Bool) → (n ≡ true → e ≡ true → r ≡ true → x ≡ y) → (n && (not e || r) && p && (not e || not x)) ≡ (n && (not e || r) && p && (not e || not y))
ended-of false e r p x y same = refl
ended-of true false r p x y same = refl
ended-of true true false p x y same = refl
ended-of true true true p x y same = ap (λ z. p && not z) (same refl refl refl)

pub allow-deliver : (setting : Setting) (setup : Setup) (before : List Noted) (node : Node) (at : Ref) (at_end a b c d r : Bool) (event : Event)
    → setting.setup ≡ setup → event ≡ events.Deliver node at → IsEndOf setting before at_end (node_named event) → r ≡ (a && b && c && d)
    → a ≡ is_node setup node → Goes setup before node b → c ≡ is_some (packet_for before node at)
    → d ≡ (not (runs_engine setup node.member) || not at_end) → r ≡ is_allowed setting before event
unfolding is_allowed
allow-deliver setting setup before node at at_end a b c d r event same is ends all there goes packet on =
    all ∙ ap (λ x. x && b && c && d) there
    ∙ ap (λ x. x && d) (guarded (is_node setup node) b (not (runs_engine setup node.member) || runs_at before node) c goes)
    ∙ ap (λ x. is_node setup node && (not (runs_engine setup node.member) || runs_at before node) && x && d) packet
    ∙ ap (λ x. is_node setup node && (not (runs_engine setup node.member) || runs_at before node) && is_some (packet_for before node at) && x) on
    ∙ ap (λ s. is_node s node && (not (runs_engine s node.member) || runs_at before node) && is_some (packet_for before node at) && (not (runs_engine s node.member) || not at_end)) (sym same)
    ∙ ended-of (is_node setting.setup node) (runs_engine setting.setup node.member) (runs_at before node) (is_some (packet_for before node at)) at_end (is_at_end setting before node)
    (subst (λ (e : Event). IsEndOf setting before at_end (node_named e)) is ends)
    ∙ ap (λ (e : Event). is_allowed setting before e) (sym is)

pub allow-step : (setting : Setting) (setup : Setup) (before : List Noted) (node : Node) (source : StepSource) (stop : Stop) (at_end a b d r : Bool) (event : Event)
    → setting.setup ≡ setup → event ≡ events.Step node source stop → IsEndOf setting before at_end (node_named event) → r ≡ (a && b && d)
    → a ≡ is_node setup node → Goes setup before node b
    → d ≡ (not (runs_engine setup node.member) || not at_end) → r ≡ is_allowed setting before event
unfolding is_allowed
allow-step setting setup before node source stop at_end a b d r event same is ends all there goes on =
    all ∙ ap (λ x. x && b && d) there
    ∙ guarded (is_node setup node) b (not (runs_engine setup node.member) || runs_at before node) d goes
    ∙ ap (λ x. is_node setup node && (not (runs_engine setup node.member) || runs_at before node) && x) on
    ∙ ap (λ s. is_node s node && (not (runs_engine s node.member) || runs_at before node) && (not (runs_engine s node.member) || not at_end)) (sym same)
    ∙ ended (is_node setting.setup node) (runs_engine setting.setup node.member) (runs_at before node) at_end (is_at_end setting before node)
    (subst (λ (e : Event). IsEndOf setting before at_end (node_named e)) is ends)
    ∙ ap (λ (e : Event). is_allowed setting before e) (sym is)

pub allow-answer : (setting : Setting) (setup : Setup) (before : List Noted) (node : Node) (at : Ref) (answer : Answer) (a b c d r : Bool) (event : Event)
    → setting.setup ≡ setup → event ≡ events.Answer node at answer → r ≡ (a && b && c && d)
    → a ≡ is_node setup node → b ≡ runs_engine setup node.member → (is_node setup node ≡ true → c ≡ runs_at before node)
    → (is_node setup node ≡ true → d ≡ is_pending before node at answer) → r ≡ is_allowed setting before event
unfolding is_allowed
allow-answer setting setup before node at answer a b c d r event same is all there engine runs pending =
    all ∙ ap (λ x. x && b && c && d) there ∙ by (is_node setup node) runs pending
    ∙ ap (λ x. is_node setup node && x && runs_at before node && is_pending before node at answer) engine
    ∙ ap (λ s. is_node s node && runs_engine s node.member && runs_at before node && is_pending before node at answer) (sym same)
    ∙ ap (λ (e : Event). is_allowed setting before e) (sym is)
  where
    by : (t : Bool) → (t ≡ true → c ≡ runs_at before node) → (t ≡ true → d ≡ is_pending before node at answer)
        → (t && b && c && d) ≡ (t && b && runs_at before node && is_pending before node at answer)
    by true f g = ap (λ x. b && x && d) (f refl) ∙ ap (λ x. b && runs_at before node && x) (g refl)
    by false f g = refl

pub allow-crash : (setting : Setting) (setup : Setup) (before : List Noted) (node : Node) (a b r : Bool) (event : Event)
    → setting.setup ≡ setup → event ≡ events.Crash node → r ≡ (a && b) → a ≡ is_node setup node → Goes setup before node b → r ≡ is_allowed setting before event
unfolding is_allowed
allow-crash setting setup before node a b r event same is all there goes =
    all ∙ ap (λ x. x && b) there
    ∙ guarded_two (is_node setup node) b (not (runs_engine setup node.member) || runs_at before node) goes
    ∙ ap (λ s. is_node s node && (not (runs_engine s node.member) || runs_at before node)) (sym same)
    ∙ ap (λ (e : Event). is_allowed setting before e) (sym is)

-- ---- requests that are open

pub open-is : (case : Case) (setup : Setup) (prior : List AuditEntry) (before : List Noted) (node : Node) (at : Ref) (number : ℕ) (answer : Answer) (a b c r : Bool)
    → CaseStands case setup prior before → request_number before node at ≡ Some number → r ≡ (not a && not b && c)
    → (0 < at.event → at.event ≤ length before → a ≡ was_dropped before node at.event number)
    → b ≡ is_marked case.answered.marks.items at
    → c ≡ option_map_or (λ request. answer_fits request answer) (listed_at (λ e. e.asked) prior at) false
    → r ≡ (not (was_dropped before node at.event number) && not (was_answered before node at) && option_map_or (λ asked. answer_fits asked answer) (asked_at before at) false)
open-is case setup prior before node at number answer a b c r stand asks all dropped marked fits =
    let some : is_some (request_number before node at) ≡ true = rw asks refl in
    all ∙ ap (λ x. not x && not b && c) (dropped (asked-counted before node at some) (asked-within before node at some))
    ∙ ap (λ x. not (was_dropped before node at.event number) && not x && c) (marked ∙ stand.answers.marked node at some)
    ∙ ap (λ x. not (was_dropped before node at.event number) && not (was_answered before node at) && x) (fits ∙ ap (λ o. option_map_or (λ request. answer_fits request answer) o false) (stand.items.asked at))

pub pending-none : (before : List Noted) (node : Node) (at : Ref) (answer : Answer) → None ≡ request_number before node at → false ≡ is_pending before node at answer
unfolding is_pending
pending-none before node at answer none = rw (← none) refl

pub pending-some : (before : List Noted) (node : Node) (at : Ref) (answer : Answer) (number : ℕ) (r : Bool) → Some number ≡ request_number before node at
    → r ≡ (not (was_dropped before node at.event number) && not (was_answered before node at) && option_map_or (λ asked. answer_fits asked answer) (asked_at before at) false)
    → r ≡ is_pending before node at answer
unfolding is_pending
pending-some before node at answer number r some is = rw (← some) is

-- ---- an entry that fits

pub fits-is : (prior : List AuditEntry) (before : List Noted) (event : Event) (e : AuditEntry) (number : ℕ) (b c d l r : Bool) → AreItems prior before → number ≡ length prior + 1
    → r ≡ (e.event == number && b && c && d && l)
    → b ≡ option_eq is_same_node e.who (node_named event) → c ≡ outcome_fits event e.outcome → d ≡ took_or_idle before event e.outcome e.took
    → l ≡ lists_fit e.outcome e
    → r ≡ fits before event e
unfolding fits
fits-is prior before event e number b c d l r items counted all named ends took lists =
    all ∙ ap (λ n. e.event == n && b && c && d && l) (counted ∙ ap (λ n. n + 1) items.count)
    ∙ ap (λ x. e.event == length before + 1 && x && c && d && l) named
    ∙ ap (λ x. e.event == length before + 1 && option_eq is_same_node e.who (node_named event) && x && d && l) ends
    ∙ ap (λ x. e.event == length before + 1 && option_eq is_same_node e.who (node_named event) && outcome_fits event e.outcome && x && l) took
    ∙ ap (λ x. e.event == length before + 1 && option_eq is_same_node e.who (node_named event) && outcome_fits event e.outcome && took_or_idle before event e.outcome e.took && x) lists

-- ---- one entry more

pub reports-more : (setup : Setup) (old new : Reported) (before : List Noted) (event : Event) (e : AuditEntry)
    → ((f : Finalization) → has_reported old f ≡ was_reported setup before f)
    → ((f : Finalization) → has_reported new f ≡ (is_of_honest setup e.who && list_any (tells f) e.calls || has_reported old f))
    → (f : Finalization) → has_reported new f ≡ was_reported setup (rebuilt event e ∷ before) f
unfolding rebuilt_entry
reports-more setup old new before event e stand adds =
    told-entry setup old new before (rebuilt event e) stand
    (λ f. adds f ∙ ap (λ b. is_of_honest setup e.who && b || has_reported old f) (sym (tells-all f e.calls)))

pub packets-of : (event : Event) (e : AuditEntry) → (rebuilt event e).entry.packets ≡ e.packets
unfolding rebuilt_entry
packets-of event e = refl

-- of an event that could be taken
pub case-more : (old new : Case) (setting : Setting) (setup : Setup) (prior : List AuditEntry) (before : List Noted) (event : Event) (e : AuditEntry)
    → setting.setup ≡ setup → is_allowed setting before event ≡ true → CaseStands old setup prior before
    → (clock_behind old.clock event ≤ 2 ^ 63 - 1 → new.clock ≡ clock_behind old.clock event)
    → length new.desks.items ≡ length old.desks.items
    → (IsOfNode setup event → DesksStand new.desks.items (rebuilt event e ∷ before))
    → (IsOfRequest before event → AnswersStand new.answered.marks.items (rebuilt event e ∷ before))
    → ((f : Finalization) → has_reported new.reported f ≡ (is_of_honest setup e.who && list_any (tells f) e.calls || has_reported old.reported f))
    → VotesStand new.votes setup (rebuilt event e ∷ before)
    → CaseStands new setup (prior ++ e ∷ []) (rebuilt event e ∷ before)
case-more old new setting setup prior before event e same allowed stand clock count desks answers reported votes =
    let early : clock_behind old.clock event ≤ 2 ^ 63 - 1 = allowed-clock setting before event old.clock stand.clock stand.early allowed in
    let node : IsOfNode setup event = subst (λ s. IsOfNode s event) same (allowed-node setting before event allowed) in
    record {
      items = items-more prior before event e stand.items;
      clock = clock early ∙ ap (λ c. clock_behind c event) stand.clock ∙ sym (clock-more before event e);
      early = rw (clock early) early;
      seats = count ∙ stand.seats;
      desks = desks node;
      nodes = nodes-more setup before event e node stand.nodes;
      answers = answers (allowed-request setting before event allowed);
      reported = reports-more setup old.reported new.reported before event e stand.reported reported;
      votes = votes;
    }

-- of no entry
pub case-new : (case : Case) (setup : Setup) → case.clock ≡ 0 → length case.desks.items ≡ 2 * members_of setup → DesksStand case.desks.items []
    → AnswersStand case.answered.marks.items [] → ((f : Finalization) → has_reported case.reported f ≡ false) → VotesStand case.votes setup []
    → CaseStands case setup [] []
unfolding was_reported clock_of
case-new case setup clock seats desks answers reported votes =
    record {
      items = no-items;
      clock = clock;
      early = omega (arith, clock);
      seats = seats;
      desks = desks;
      nodes = no-nodes setup;
      answers = answers;
      reported = reported;
      votes = votes;
    }
