-- What is followed of all nodes, by where they sit.
use Rattle.std.proofs.Common.{◌≡◌, ◌≢◌, ℕ, ◌*◌, ◌<◌, ◌≤◌, List, [], ◌∷◌, ◌++◌, ◌/◌, Bool, true, false, refl, sym, ap, subst, ◌∙◌, if◌then◌else◌, Option, Some, None, length, set, get_or, arith, eqb-true}
use Rattle.std.specs.Prelude.{◌==◌, ◌&&◌, ◌||◌, not, slice_get, is_some}
use Rattle.std.specs.Option.{option_and_then, option_map_or}
use Rattle.std.proofs.lemmas.Grind.{common_steps}
use Rattle.std.proofs.lemmas.Bool.{and_parts}
use Rattle.std.proofs.lemmas.List.{length-set, set-get_or}
use Rattle.std.proofs.lemmas.Option.{slice_get-get_or, slice_get_read}
use Rattle.simplex_transcript.specs.declared.event.Event.{Event}
use Rattle.simplex_transcript.specs.declared.event.Event.TheVariants as events
use Rattle.simplex_transcript.specs.declared.node.Node.{Node}
use Rattle.simplex_transcript.specs.declared.setup.Setup.{Setup}
use Rattle.simplex_transcript.specs.declared.setup.MemberKind.{MemberKind}
use Rattle.simplex_transcript.specs.declared.setup.MemberKind.TheVariants as kinds
use Rattle.simplex_values.specs.declared.plan.Channel.{Channel}
use Rattle.model_run.specs.Kinds.{has_engine, is_faulty, is_faulty_member, is_honest, is_node, members_of, node_of, runs_engine}
use Rattle.model_run.specs.Life.{Noted, is_of}
use Rattle.model_run.specs.Setting.{Setting}
use Rattle.law_run.specs.Complete.{node_named}
use Rattle.model_audit.specs.declared.record.AuditEntry.{AuditEntry}
use Rattle.model_audit.specs.Audit.{if_honest, stores_first}
use Rattle.model_audit.specs.Conditions.{is_allowed, is_at_end}
use Rattle.model_audit.specs.Rebuilt.{rebuilt, rebuilt_entry}
use Rattle.model_audit.specs.Running.{runs_at}
use Rattle.model_audit.specs.VotesDue.{sends_due}
use Rattle.simplex_records.specs.Seats.{node_at, seat_of}
use Rattle.simplex_records.proofs.Lists.{slice_get-push, slice_get-set, slice_get-set_other}
use Rattle.simplex_records.proofs.Seating.{seated, same-seat}
use Rattle.simplex_case.specs.Stands.{IsEndOf}
use Rattle.simplex_case.specs.Taking.{own_node}
use Rattle.simplex_case.proofs.Casing.{allowed-node}
use Rattle.simplex_case.proofs.Desks.{is-none, is-own, node-half, node-seat, owner-exists}
use Rattle.simplex_reader.specs.Follows.{Follows}
use Rattle.simplex_judge.specs.declared.follower.Follower.{Follower}
use Rattle.simplex_judge.specs.Followed.{IsFollowed, IsNext, IsTaken, GoesOn}
use Rattle.simplex_judge.specs.Followers.{AreSeats, Follow, FollowAt, FollowersStand, FollowOn, IsSeatOf, at_seat, same}
use Rattle.simplex_judge.proofs.Following.{followed-other}

-- ---- a node that exists

abbrev pub Seated : List (Option Follower) → Setting → List Noted → Node → Option Follower → Type 0
Seated seats setting before node None = runs_engine setting.setup node.member ≡ false
Seated seats setting before node (Some follower) = (runs_engine setting.setup node.member ≡ true) × IsFollowed follower setting before node

-- what stands at its seat
pub seat-is : (seats : List (Option Follower)) (setting : Setting) (before : List Noted) (node : Node) (seat : Option Follower) → is_node setting.setup node ≡ true
    → FollowersStand seats setting before → slice_get seats (seat_of node) ≡ Some seat → Seated seats setting before node seat
seat-is seats setting before node seat exists stand is =
    subst (λ (n : Node). Seated seats setting before n seat) (seated node (node-half setting.setup node exists)) (at-it seat is)
  where
    at-it : (s : Option Follower) → slice_get seats (seat_of node) ≡ Some s → Seated seats setting before (node_at (seat_of node)) s
    at-it None there = sym (stand.engines (seat_of node) None there)
    at-it (Some follower) there = (sym (stand.engines (seat_of node) (Some follower) there), stand.each (seat_of node) follower there)

seat-there : (seats : List (Option Follower)) (setting : Setting) (before : List Noted) (node : Node) → is_node setting.setup node ≡ true → FollowersStand seats setting before
    → (seat : Option Follower) × (slice_get seats (seat_of node) ≡ Some seat)
seat-there seats setting before node exists stand =
    let low : seat_of node < length seats = subst (λ n. seat_of node < n) (sym stand.count) (node-seat setting.setup node exists) in
    (get_or seats (seat_of node) None, slice_get-get_or seats (seat_of node) None low)

pub at-seat : (seats : List (Option Follower)) (setting : Setting) (before : List Noted) (node : Node) → is_node setting.setup node ≡ true → FollowersStand seats setting before
    → Seated seats setting before node (at_seat seats setting.setup node)
unfolding at_seat
at-seat seats setting before node exists stand =
    let there = seat-there seats setting before node exists stand in
    let is : (if is_node setting.setup node then option_and_then same (slice_get seats (seat_of node)) else None) ≡ there.0 = rw exists (rw there.1 refl) in
    subst (Seated seats setting before node) (sym is) (seat-is seats setting before node there.0 exists stand there.1)

-- ---- the end

pub end-none : (setting : Setting) (before : List Noted) (event : Event) → node_named event ≡ None → IsEndOf setting before false (node_named event)
end-none setting before event none = subst (IsEndOf setting before false) (sym none) tt

pub end-unfollowed : (seats : List (Option Follower)) (setup : Setup) (event : Event) (node : Node) → node_named event ≡ Some node → at_seat seats setup node ≡ None
    → (setting : Setting) (before : List Noted) → setting.setup ≡ setup → FollowersStand seats setting before → IsEndOf setting before false (node_named event)
end-unfollowed seats setup event node named none setting before alike stand =
    subst (IsEndOf setting before false) (sym named)
    (λ exists engine runs.
    let unfollowed : at_seat seats setting.setup node ≡ None = ap (λ s. at_seat seats s node) alike ∙ none in
    let no_engine : runs_engine setting.setup node.member ≡ false = subst (Seated seats setting before node) unfollowed (at-seat seats setting before node exists stand) in
    absurd cc)

pub end-followed : (seats : List (Option Follower)) (setup : Setup) (event : Event) (node : Node) (follower : Follower) (result : Bool) → node_named event ≡ Some node → at_seat seats setup node ≡ Some follower
    → ((setting : Setting) (before : List Noted) → IsFollowed follower setting before node → runs_at before node ≡ true → result ≡ is_at_end setting before node)
    → (setting : Setting) (before : List Noted) → setting.setup ≡ setup → FollowersStand seats setting before → IsEndOf setting before result (node_named event)
end-followed seats setup event node follower result named there ends setting before alike stand =
    subst (IsEndOf setting before result) (sym named)
    (λ exists engine runs.
    let followed : (runs_engine setting.setup node.member ≡ true) × IsFollowed follower setting before node =
    subst (Seated seats setting before node) (ap (λ s. at_seat seats s node) alike ∙ there) (at-seat seats setting before node exists stand) in
    ends setting before followed.1 runs)

-- ---- honest members

honest-engine : (kind : MemberKind) → not (is_faulty kind) ≡ true → has_engine kind ≡ true
honest-engine kinds.Honest e = refl
honest-engine kinds.Silent e = absurd cc
honest-engine kinds.Conflicter e = absurd cc
honest-engine kinds.Equivocator e = absurd cc
honest-engine kinds.Impersonator e = absurd cc
honest-engine kinds.Nuller e = absurd cc
honest-engine kinds.NullifyOnly e = absurd cc
honest-engine (kinds.Outdated delta) e = absurd cc
honest-engine kinds.Reconfigurer e = absurd cc
honest-engine kinds.Corrupt e = refl
honest-engine kinds.Unrecovering e = refl
honest-engine kinds.Twin e = refl

pub honest-runs : (setup : Setup) (member : ℕ) → is_honest setup member ≡ true → runs_engine setup member ≡ true
honest-runs setup member honest = at-kind (slice_get setup.members member) honest
  where
    at-kind : (kind : Option MemberKind) → option_map_or (λ k. not (is_faulty k)) kind false ≡ true → option_map_or has_engine kind false ≡ true
    at-kind None h = absurd cc
    at-kind (Some kind) h = honest-engine kind h

never-both : (setup : Setup) (member : ℕ) → is_honest setup member ≡ true → is_faulty_member setup member ≡ true → ⊥
never-both setup member honest faulty = at-kind (slice_get setup.members member) honest faulty
  where
    clash : (b : Bool) → not b ≡ true → b ≡ true → ⊥
    clash true h k = cc
    clash false h k = cc

    at-kind : (kind : Option MemberKind) → option_map_or (λ k. not (is_faulty k)) kind false ≡ true → option_map_or is_faulty kind false ≡ true → ⊥
    at-kind None h k = cc
    at-kind (Some kind) h k = clash (is_faulty kind) h k

injected-faulty : (setting : Setting) (before : List Noted) (member : ℕ) (channel : Channel) (to : List Node) (bytes : List ℕ) → is_allowed setting before (events.Inject member channel to bytes) ≡ true
    → is_faulty_member setting.setup member ≡ true
unfolding is_allowed
injected-faulty setting before member channel to bytes may = (and_parts _ (is_faulty_member setting.setup member) may).1

-- the node that an event names exists, if it is an honest member's
named-exists : (setting : Setting) (before : List Noted) (event : Event) (node : Node) → is_allowed setting before event ≡ true → node_named event ≡ Some node
    → is_honest setting.setup node.member ≡ true → is_node setting.setup node ≡ true
named-exists setting before (events.Start at floor stop) node allowed named honest = owner-exists setting.setup (events.Start at floor stop) node (allowed-node setting before (events.Start at floor stop) allowed) named
named-exists setting before (events.Tick ms) node allowed named honest = absurd cc
named-exists setting before (events.Deliver at packet) node allowed named honest = owner-exists setting.setup (events.Deliver at packet) node (allowed-node setting before (events.Deliver at packet) allowed) named
named-exists setting before (events.Step at source stop) node allowed named honest = owner-exists setting.setup (events.Step at source stop) node (allowed-node setting before (events.Step at source stop) allowed) named
named-exists setting before (events.Answer at request answer) node allowed named honest = owner-exists setting.setup (events.Answer at request answer) node (allowed-node setting before (events.Answer at request answer) allowed) named
named-exists setting before (events.Crash at) node allowed named honest = owner-exists setting.setup (events.Crash at) node (allowed-node setting before (events.Crash at) allowed) named
named-exists setting before (events.Inject member channel to bytes) node allowed named honest =
    let one : node_of member ≡ node = cc in
    absurd (never-both setting.setup node.member honest
    (subst (λ (n : Node). is_faulty_member setting.setup n.member ≡ true) one (injected-faulty setting before member channel to bytes allowed)))

-- ---- votes that are stored first

abbrev pub StoredBy : List (Option Follower) → Setup → Event → AuditEntry → Bool → Type 0
StoredBy seats setup event e stored =
    (setting : Setting) (before : List Noted) → setting.setup ≡ setup → FollowersStand seats setting before → is_allowed setting before event ≡ true
    → stored ≡ if_honest setting (node_named event) (stores_first setting before (rebuilt_entry e))

pub stored-none : (seats : List (Option Follower)) (setup : Setup) (event : Event) (e : AuditEntry) → node_named event ≡ None → StoredBy seats setup event e true
stored-none seats setup event e none = λ setting before same stand allowed. ap (λ o. if_honest setting o (stores_first setting before (rebuilt_entry e))) (sym none)

pub stored-unhonest : (seats : List (Option Follower)) (setup : Setup) (event : Event) (e : AuditEntry) (node : Node) → node_named event ≡ Some node → is_honest setup node.member ≡ false
    → StoredBy seats setup event e true
stored-unhonest seats setup event e node named unhonest = λ setting before same stand allowed.
    let not_here : is_honest setting.setup node.member ≡ false = ap (λ s. is_honest s node.member) same ∙ unhonest in
    let untested : if_honest setting (Some node) (stores_first setting before (rebuilt_entry e)) ≡ true = rw not_here refl in
    sym (ap (λ o. if_honest setting o (stores_first setting before (rebuilt_entry e))) named ∙ untested)

pub stored-unfollowed : (seats : List (Option Follower)) (setup : Setup) (event : Event) (e : AuditEntry) (node : Node) → node_named event ≡ Some node → is_honest setup node.member ≡ true
    → at_seat seats setup node ≡ None → StoredBy seats setup event e true
stored-unfollowed seats setup event e node named honest none = λ setting before same stand allowed.
    let here : is_honest setting.setup node.member ≡ true = ap (λ s. is_honest s node.member) same ∙ honest in
    let exists = named-exists setting before event node allowed named here in
    let no_engine : runs_engine setting.setup node.member ≡ false =
    subst (Seated seats setting before node) (ap (λ s. at_seat seats s node) same ∙ none) (at-seat seats setting before node exists stand) in
    let engine = honest-runs setting.setup node.member here in
    absurd cc

pub stored-followed : (seats : List (Option Follower)) (setup : Setup) (event : Event) (e : AuditEntry) (node : Node) (follower : Follower) (stored : Bool) → node_named event ≡ Some node
    → is_honest setup node.member ≡ true → at_seat seats setup node ≡ Some follower
    → ((setting : Setting) (before : List Noted) (n : Node) → Follows follower.reader setting before n → stored ≡ stores_first setting before (rebuilt_entry e) n) → StoredBy seats setup event e stored
stored-followed seats setup event e node follower stored named honest there tells = λ setting before same stand allowed.
    let here : is_honest setting.setup node.member ≡ true = ap (λ s. is_honest s node.member) same ∙ honest in
    let exists = named-exists setting before event node allowed named here in
    let followed : (runs_engine setting.setup node.member ≡ true) × IsFollowed follower setting before node =
    subst (Seated seats setting before node) (ap (λ s. at_seat seats s node) same ∙ there) (at-seat seats setting before node exists stand) in
    let tested : if_honest setting (Some node) (stores_first setting before (rebuilt_entry e)) ≡ stores_first setting before (rebuilt_entry e) node = rw here refl in
    tells setting before node followed.1.follows
    ∙ sym (ap (λ o. if_honest setting o (stores_first setting before (rebuilt_entry e))) named ∙ tested)

-- ---- one entry more

-- all seats stay, of which none is the node's
all-other : (seats : List (Option Follower)) (setting : Setting) (before : List Noted) (noted : Noted)
    → ((at : ℕ) (follower : Follower) → slice_get seats at ≡ Some (Some follower) → is_of (node_at at) noted.event ≡ false) → FollowersStand seats setting before
    → FollowersStand seats setting (noted ∷ before)
all-other seats setting before noted other stand =
    record {
      count = stand.count;
      engines = stand.engines;
      each = λ at follower is. followed-other follower setting before noted (node_at at) (other at follower is) (stand.each at follower is);
    }

never-votes : (setting : Setting) (before : List Noted) (event : Event) (e : AuditEntry) → own_node event ≡ None
    → true ≡ if_honest setting (node_named event) (λ node. sends_due setting before (rebuilt_entry e) node event)
unfolding sends_due
never-votes setting before (events.Start at floor stop) e none = absurd cc
never-votes setting before (events.Tick ms) e none = refl
never-votes setting before (events.Deliver at packet) e none = absurd cc
never-votes setting before (events.Step at source stop) e none = absurd cc
never-votes setting before (events.Answer at request answer) e none = absurd cc
never-votes setting before (events.Crash at) e none = absurd cc
never-votes setting before (events.Inject member channel to bytes) e none = either (is_honest setting.setup member)
  where
    either : (b : Bool) → true ≡ (if b then true else true)
    either true = refl
    either false = refl

pub follow-none : (seats : List (Option Follower)) (setup : Setup) (prior : List AuditEntry) (event : Event) (e : AuditEntry) → own_node event ≡ None
    → FollowOn seats seats setup prior event e true
follow-none seats setup prior event e none =
    record {
      follows = λ setting before same stand next. all-other seats setting before (rebuilt event e) (λ at follower is. is-none event (node_at at) none) stand;
      sends = λ setting before same stand next. never-votes setting before event e none;
    }

own-named : (event : Event) (node : Node) → own_node event ≡ Some node → node_named event ≡ Some node
own-named (events.Start at floor stop) node e = e
own-named (events.Tick ms) node e = absurd cc
own-named (events.Deliver at packet) node e = e
own-named (events.Step at source stop) node e = e
own-named (events.Answer at request answer) node e = e
own-named (events.Crash at) node e = e
own-named (events.Inject member channel to bytes) node e = absurd cc

or-nothing : (b : Bool) → (b || false) ≡ b
or-nothing true = refl
or-nothing false = refl

or-all : (b : Bool) → (b || true) ≡ true
or-all true = refl
or-all false = refl

sent-if : (honest here due sends result : Bool) → result ≡ (due || not honest) → honest ≡ here → (here ≡ true → due ≡ sends) → result ≡ (if here then sends else true)
sent-if honest true due sends result all alike tells = all ∙ ap (λ h. due || not h) alike ∙ or-nothing due ∙ tells refl
sent-if honest false due sends result all alike tells = all ∙ ap (λ h. due || not h) alike ∙ or-all due

-- of all nodes, by one
pub follow-own : (old new : List (Option Follower)) (setup : Setup) (node : Node) (prior : List AuditEntry) (event : Event) (e : AuditEntry) (due honest result : Bool) → own_node event ≡ Some node
    → honest ≡ is_honest setup node.member → result ≡ (due || not honest) → FollowAt old new setup node prior event e due → FollowOn old new setup prior event e result
follow-own old new setup node prior event e due honest result of is all at =
    record {
      follows = at.follows of;
      sends = λ setting before same stand next.
          let sent : result ≡ if_honest setting (Some node) (λ n. sends_due setting before (rebuilt_entry e) n event) =
          sent-if honest (is_honest setting.setup node.member) due (sends_due setting before (rebuilt_entry e) node event) result all (is ∙ ap (λ s. is_honest s node.member) (sym same))
          (λ here. at.sends of setting before same stand next (ap (λ s. runs_engine s node.member) (sym same) ∙ honest-runs setting.setup node.member here)) in
          sent ∙ ap (λ o. if_honest setting o (λ n. sends_due setting before (rebuilt_entry e) n event)) (sym (own-named event node of));
    }

-- a node that cannot be: it does not exist, or has no seat
pub at-nowhere : (seats : List (Option Follower)) (setup : Setup) (node : Node) (prior : List AuditEntry) (event : Event) (e : AuditEntry) → is_node setup node ≡ false
    → FollowAt seats seats setup node prior event e true
at-nowhere seats setup node prior event e missing =
    record {
      follows = λ of setting before same stand next. absurd (clash of setting before same next);
      sends = λ of setting before same stand next engine. absurd (clash of setting before same next);
    }
  where
    clash : own_node event ≡ Some node → (setting : Setting) (before : List Noted) → setting.setup ≡ setup → IsNext setting prior before event e → ⊥
    clash of setting before same next =
        let exists : is_node setting.setup node ≡ true = owner-exists setting.setup event node (allowed-node setting before event next.allowed) of in
        let not_here : is_node setting.setup node ≡ false = ap (λ s. is_node s node) same ∙ missing in
        absurd cc

pub at-no_seat : (seats : List (Option Follower)) (setup : Setup) (node : Node) (prior : List AuditEntry) (event : Event) (e : AuditEntry) (place : ℕ) → is_node setup node ≡ true
    → place ≡ seat_of node → length seats ≤ place → FollowAt seats seats setup node prior event e true
at-no_seat seats setup node prior event e place exists is over =
    record {
      follows = λ of setting before same stand next. absurd (clash setting before same stand);
      sends = λ of setting before same stand next engine. absurd (clash setting before same stand);
    }
  where
    clash : (setting : Setting) (before : List Noted) → setting.setup ≡ setup → FollowersStand seats setting before → ⊥
    clash setting before same stand =
        let low : seat_of node < 2 * members_of setup = node-seat setup node exists in
        let count : length seats ≡ 2 * members_of setup = stand.count ∙ ap (λ s. 2 * members_of s) same in
        omega (arith, low, count, over, is)

-- the event of a node at another seat
other-seat : (event : Event) (node : Node) (at : ℕ) → node.half < 2 → own_node event ≡ Some node → (seat_of node ≡ at → ⊥) → is_of (node_at at) event ≡ false
other-seat event node at half of apart = is-own event node (node_at at) of ∙ same-seat node at half ∙ by (seat_of node == at) refl
  where
    by : (t : Bool) → (seat_of node == at) ≡ t → (seat_of node == at) ≡ false
    by true e = absurd (apart (eqb-true (seat_of node) at e))
    by false e = e

pub at-empty : (seats : List (Option Follower)) (setup : Setup) (node : Node) (prior : List AuditEntry) (event : Event) (e : AuditEntry) (place : ℕ) → is_node setup node ≡ true
    → place ≡ seat_of node → slice_get seats place ≡ Some None → FollowAt seats seats setup node prior event e true
at-empty seats setup node prior event e place exists is empty =
    record {
      follows = λ of setting before same stand next. all-other seats setting before (rebuilt event e)
          (λ at follower there. other-seat event node at (node-half setup node exists) of (λ here. clash at follower here there)) stand;
      sends = λ of setting before same stand next engine.
          let no_engine : runs_engine setting.setup node.member ≡ false =
          seat-is seats setting before node None (ap (λ s. is_node s node) same ∙ exists) stand (ap (slice_get seats) (sym is) ∙ empty) in
          let alike : runs_engine setting.setup node.member ≡ true = ap (λ s. runs_engine s node.member) same ∙ engine in
          absurd cc;
    }
  where
    clash : (at : ℕ) (follower : Follower) → seat_of node ≡ at → slice_get seats at ≡ Some (Some follower) → ⊥
    clash at follower here there =
        let both : Some None ≡ Some (Some follower) = sym (ap (slice_get seats) (sym here ∙ sym is) ∙ empty) ∙ there in
        cc

pub at-followed : (seats : List (Option Follower)) (setup : Setup) (node : Node) (prior : List AuditEntry) (event : Event) (e : AuditEntry) (place : ℕ) (old new : Follower) (due : Bool) → is_node setup node ≡ true
    → place ≡ seat_of node → slice_get seats place ≡ Some (Some old) → GoesOn old new prior event e due → FollowAt seats (set seats place (Some new)) setup node prior event e due
at-followed seats setup node prior event e place old new due exists is there goes =
    record {
      follows = λ of setting before same stand next.
          record {
            count = length-set seats place (Some new) ∙ stand.count;
            engines = λ at seat found. engines-at setting before stand at seat found (place == at) refl;
            each = λ at follower found. each-at of setting before same stand next at follower found (place == at) refl;
          };
      sends = λ of setting before same stand next engine.
          let here : (runs_engine setting.setup node.member ≡ true) × IsFollowed old setting before node = seated-old setting before same stand in
          goes.sends setting before node here.1 (record { next = next; named = of; engine = here.0 });
    }
  where
    seated-old : (setting : Setting) (before : List Noted) → setting.setup ≡ setup → FollowersStand seats setting before → Seated seats setting before node (Some old)
    seated-old setting before same stand = seat-is seats setting before node (Some old) (ap (λ s. is_node s node) same ∙ exists) stand (ap (slice_get seats) (sym is) ∙ there)

    engines-at : (setting : Setting) (before : List Noted) → FollowersStand seats setting before → (at : ℕ) (seat : Option Follower) → slice_get (set seats place (Some new)) at ≡ Some seat → (b : Bool) → (place == at) ≡ b
        → is_some seat ≡ runs_engine setting.setup (node_at at).member
    engines-at setting before stand at seat found true b =
        let one : place ≡ at = eqb-true place at b in
        let alike : seat ≡ Some new = slice_get-set seats place at (Some new) seat found one in
        ap is_some alike ∙ stand.engines at (Some old) (ap (slice_get seats) (sym one) ∙ there)
    engines-at setting before stand at seat found false b =
        let apart : place ≢ at = grind (arith, common_steps) in
        stand.engines at seat (sym (slice_get-set_other seats place at (Some new) apart) ∙ found)

    each-at : own_node event ≡ Some node → (setting : Setting) (before : List Noted) → setting.setup ≡ setup → FollowersStand seats setting before → IsNext setting prior before event e
        → (at : ℕ) (follower : Follower) → slice_get (set seats place (Some new)) at ≡ Some (Some follower) → (b : Bool) → (place == at) ≡ b → IsFollowed follower setting (rebuilt event e ∷ before) (node_at at)
    each-at of setting before same stand next at follower found true b =
        let one : place ≡ at = eqb-true place at b in
        let here : (runs_engine setting.setup node.member ≡ true) × IsFollowed old setting before node = seated-old setting before same stand in
        let alike : Some follower ≡ Some new = slice_get-set seats place at (Some new) (Some follower) found one in
        let mine : follower ≡ new = cc in
        subst (λ (f : Follower). IsFollowed f setting (rebuilt event e ∷ before) (node_at at)) (sym mine)
        (subst (λ (n : Node). IsFollowed new setting (rebuilt event e ∷ before) n) (sym (seated node (node-half setup node exists)) ∙ ap node_at (sym is ∙ one))
        (goes.follows setting before node here.1 (record { next = next; named = of; engine = here.0 })))
    each-at of setting before same stand next at follower found false b =
        let apart : place ≢ at = grind (arith, common_steps) in
        followed-other follower setting before (rebuilt event e) (node_at at)
        (other-seat event node at (node-half setup node exists) of (λ here. apart (is ∙ here)))
        (stand.each at follower (sym (slice_get-set_other seats place at (Some new) apart) ∙ found))

-- ---- before any entry

pub no-seats : (setup : Setup) → AreSeats [] setup
unfolding AreSeats
no-seats setup = λ at seat is. absurd cc

pub seats-grown : (seats new : List (Option Follower)) (setup : Setup) (one : Option Follower) (member : ℕ) → new ≡ seats ++ one ∷ [] → AreSeats seats setup → IsSeatOf one setup member
    → (node_at (length seats)).member ≡ member → AreSeats new setup
unfolding AreSeats
seats-grown seats new setup one member is all blank here =
    λ at seat found. grown at seat (length seats == at) refl (sym (slice_get-push seats one at) ∙ ap (λ ss. slice_get ss at) (sym is) ∙ found)
  where
    grown : (at : ℕ) (seat : Option Follower) (b : Bool) → (length seats == at) ≡ b → (if b then Some one else slice_get seats at) ≡ Some seat → IsSeatOf seat setup (node_at at).member
    grown at seat true e found =
        let same : one ≡ seat = cc in
        subst (λ s. IsSeatOf s setup (node_at at).member) same
        (subst (IsSeatOf one setup) (sym here ∙ ap (λ n. (node_at n).member) (eqb-true (length seats) at e)) blank)
    grown at seat false e found = all at seat found

pub seats-new : (seats : List (Option Follower)) (setting : Setting) (setup : Setup) → setting.setup ≡ setup → length seats ≡ 2 * members_of setup → AreSeats seats setup
    → FollowersStand seats setting []
unfolding AreSeats
seats-new seats setting setup same count all =
    record {
      count = count ∙ ap (λ s. 2 * members_of s) (sym same);
      engines = λ at seat is. (all at seat is).engine ∙ ap (λ s. runs_engine s (node_at at).member) (sym same);
      each = λ at follower is. (all at (Some follower) is).followed setting (node_at at) follower refl same refl;
    }

pub seat-member : (at : ℕ) → (node_at at).member ≡ at / 2
unfolding node_at
seat-member at = refl

pub seat-some : (one : Follower) (setup : Setup) (member : ℕ) → runs_engine setup member ≡ true
    → ((setting : Setting) (node : Node) → setting.setup ≡ setup → node.member ≡ member → IsFollowed one setting [] node) → IsSeatOf (Some one) setup member
seat-some one setup member engine followed =
    record {
      engine = sym engine;
      followed = λ setting node follower is same of.
          let alike : one ≡ follower = cc in
          subst (λ (f : Follower). IsFollowed f setting [] node) alike (followed setting node same of);
    }

pub none-of : {A : Type 0} (o : Option A) → ((x : A) → o ≡ Some x → ⊥) → o ≡ None
none-of None no_one = refl
none-of (Some x) no_one = absurd (no_one x refl)

-- ---- a seat that is found

pub at-seat_found : (seats : List (Option Follower)) (place many : ℕ) (seat other : Option Follower) → many ≡ length seats → place < many → seat ≡ get_or seats place seat → seat ≡ other
    → slice_get seats place ≡ Some other
at-seat_found seats place many seat other count low at is = slice_get_read seats many place seat count low at ∙ ap (λ s. Some s) is

pub at-kept : (seats : List (Option Follower)) (setup : Setup) (node : Node) (prior : List AuditEntry) (event : Event) (e : AuditEntry) (place many : ℕ) (seat : Option Follower) → is_node setup node ≡ true
    → place ≡ seat_of node → many ≡ length seats → place < many → seat ≡ get_or seats place seat → seat ≡ None → FollowAt seats (set seats place seat) setup node prior event e true
at-kept seats setup node prior event e place many seat exists is count low at none =
    let alike : set seats place seat ≡ seats = ap (set seats place) at ∙ set-get_or seats place seat in
    subst (λ (ss : List (Option Follower)). FollowAt seats ss setup node prior event e true) (sym alike)
    (at-empty seats setup node prior event e place exists is (at-seat_found seats place many seat None count low at none))
