-- A run in groups gives what the run one by one gives.
use Rattle.std.proofs.Common.{◌≡◌, ◌+◌, ◌≤◌, ◌&&◌, ◌||◌, not, Bool, true, false, List, [], ◌∷◌, ◌++◌, length, drop, All, Option, Some, None, Result, Ok, Err, IfOk, refl, sym, ap, ◌∙◌, subst, arith, if◌then◌else◌}
use Rattle.std.specs.Option.{is_some}
use Rattle.std.proofs.lemmas.List.Elements.{All-nil, All-cons}
use Rattle.std.proofs.lemmas.List.{length-drop}
use Rattle.simplex_transcript.specs.declared.event.Event.{Event}
use Rattle.simplex_transcript.specs.declared.event.Event.TheVariants as events
use Rattle.simplex_transcript.specs.declared.node.Node.{Node}
use Rattle.simplex_transcript.specs.declared.setup.Setup.{Setup}
use Rattle.simplex_transcript.specs.declared.refusal.RunError.{RunError}
use Rattle.simplex_transcript.specs.declared.refusal.Refusal.{Refusal}
use Rattle.model_run.specs.Setting.{Setting}
use Rattle.model_run.specs.Kinds.{is_honest, is_node, is_same_node}
use Rattle.model_run.specs.Life.{Noted, is_of}
use Rattle.model_run.specs.Entries.{entry_of}
use Rattle.model_run.specs.Run.{unless_refused, run}
use Rattle.model_run.specs.Groups.{node_stepped, has_packet, is_named, joins_as, joins, with_named, joined, AllJoin, at_least, put_at, numbered, apart, in_order, and_on, in_groups, run_in_groups, IsBeside}
use Rattle.model_run.proofs.Apart.{IsMade, stands_apart, makes, keeps_number}

-- ---- one event of a group

-- it steps a node of an honest member that is not named yet, and its packet stands before the group
pub record Joins (setup : Setup) (before : List Noted) (named : List Node) (event : Event) : Type 0 where
  pub node : Node
  pub steps : node_stepped event ≡ Some node
  pub exists : is_node setup node ≡ true
  pub honest : is_honest setup node.member ≡ true
  pub new : is_named named node ≡ false
  pub packet : has_packet before event ≡ true

pub joins_so : (setup : Setup) (before : List Noted) (named : List Node) (event : Event) → joins setup before named event ≡ true → Joins setup before named event
joins_so setup before named event e = by (node_stepped event) refl e
  where
    parts : (a h b c : Bool) → (a && h && not b && c) ≡ true → (a ≡ true) × (h ≡ true) × (b ≡ false) × (c ≡ true)
    parts true true false true e = (refl, refl, refl, refl)
    parts true true false false e = cc
    parts true true true c e = cc
    parts true false b c e = cc
    parts false h b c e = cc

    by : (o : Option Node) → node_stepped event ≡ o → joins_as setup before named event o ≡ true → Joins setup before named event
    by None is h = cc
    by (Some node) is h =
        let p = parts (is_node setup node) (is_honest setup node.member) (is_named named node) (has_packet before event) h in
        record { node = node; steps = is; exists = p.0; honest = p.1; new = p.2; packet = p.3 }

-- the entries of the group so far are beside each node that is not named
abbrev pub AllBeside : List Node → List Noted → Type 0
AllBeside named made = (node : Node) → is_named named node ≡ false → All (IsBeside node) made

-- an event that steps another node is not of this one
of_other : (node at : Node) (event : Event) → node_stepped event ≡ Some at → is_same_node at node ≡ false → is_of node event ≡ false
of_other node at (events.Deliver n ref) is h = let e : n ≡ at = cc in rw e h
of_other node at (events.Step n source stop) is h = let e : n ≡ at = cc in rw e h
of_other node at (events.Answer n ref answer) is h = let e : n ≡ at = cc in rw e h
of_other node at event is h = cc

pub one_more : (named : List Node) (made : List Noted) (event : Event) (at : Node) (noted : Noted) → AllBeside named made → node_stepped event ≡ Some at
    → noted.event ≡ event → AllBeside (with_named named (node_stepped event)) (noted ∷ made)
one_more named made event at noted all steps is node new =
    let apart = parts (is_same_node at node) (is_named named node) (subst (λ o. is_named (with_named named o) node ≡ false) steps new) in
    All-cons (IsBeside node) noted made (record { other = ap (λ e. is_of node e) is ∙ of_other node at event steps apart.0; stepped = ap (λ e. is_some (node_stepped e)) is ∙ ap is_some steps })
    (all node apart.1)
  where
    parts : (a b : Bool) → (a || b) ≡ false → (a ≡ false) × (b ≡ false)
    parts false b h = (refl, h)
    parts true b h = cc

-- ---- a group

group_goes : (setting : Setting) (before made : List Noted) (named : List Node) (events : List Event) → AllBeside named made
    → run setting (made ++ before) events
    ≡ and_on (in_order (made ++ before) (apart setting before (joined setting.setup before named events)))
    (λ behind. run setting behind (drop (length (joined setting.setup before named events)) events))
unfolding run joined in_order unless_refused
group_goes setting before made named [] all = refl
group_goes setting before made named (event ∷ events) all =
    by (joins setting.setup before named event) refl
    (λ noted all. group_goes setting before (noted ∷ made) (with_named named (node_stepped event)) events all)
  where
    here : List Noted
    here = made ++ before

    next : List Event
    next = joined setting.setup before (with_named named (node_stepped event)) events

    Goes : Type 0
    Goes = (noted : Noted) → AllBeside (with_named named (node_stepped event)) (noted ∷ made)
        → run setting (noted ∷ here) events
        ≡ and_on (in_order (noted ∷ here) (apart setting before next)) (λ behind. run setting behind (drop (length next) events))

    went : (j : Joins setting.setup before named event) → Goes → (r : Result Noted RunError) → IfOk r (IsMade (length before + 1) event)
        → unless_refused (length here + 1) (put_at (length here + 1) r) (λ noted. run setting (noted ∷ here) events)
        ≡ and_on (unless_refused (length here + 1) (put_at (length here + 1) r) (λ noted. in_order (noted ∷ here) (apart setting before next)))
        (λ behind. run setting behind (drop (length next) events))
    went j old (Err error) is = refl
    went j old (Ok noted) is =
        old (numbered (length here + 1) noted)
        (one_more named made event j.node (numbered (length here + 1) noted) all j.steps is.event_is)

    by : (b : Bool) → joins setting.setup before named event ≡ b → Goes
        → unless_refused (length here + 1) (entry_of setting here event) (λ noted. run setting (noted ∷ here) events)
        ≡ and_on (in_order here (apart setting before (if b then event ∷ next else [])))
        (λ behind. run setting behind (drop (length (if b then event ∷ next else [])) (event ∷ events)))
    by false t old = refl
    by true t old =
        let j = joins_so setting.setup before named event t in
        ap (λ r. unless_refused (length here + 1) r (λ noted. run setting (noted ∷ here) events))
        (stands_apart setting before made event (record { node = j.node; steps = j.steps; honest = j.honest; beside = all j.node j.new }) j.packet)
        ∙ went j old (entry_of setting before event) (makes setting before event)

-- what joins joins one after another
pub joined_join : (setup : Setup) (before : List Noted) (named : List Node) (events : List Event) → AllJoin setup before named (joined setup before named events)
unfolding AllJoin joined
joined_join setup before named [] = tt
joined_join setup before named (event ∷ events) = by (joins setup before named event) refl (joined_join setup before (with_named named (node_stepped event)) events)
  where
    next : List Event
    next = joined setup before (with_named named (node_stepped event)) events

    by : (b : Bool) → joins setup before named event ≡ b → AllJoin setup before (with_named named (node_stepped event)) next
        → AllJoin setup before named (if b then event ∷ next else [])
    by true e old = (e, old)
    by false e old = tt

-- ---- all groups

all_go : (limit : List Event) (setting : Setting) (before : List Noted) (events : List Event) → length events ≤ length limit
    → in_groups limit setting before events ≡ run setting before events
unfolding in_groups run in_order unless_refused
all_go limit setting before [] few = refl
all_go [] setting before (event ∷ events) few = absurd (omega (arith, few))
all_go (one ∷ limit) setting before (event ∷ events) few =
    by (joined setting.setup before [] (event ∷ events)) (group_goes setting before [] [] (event ∷ events) (λ node new. All-nil (IsBeside node)))
    (λ behind list short. all_go limit setting behind list short)
  where
    Goes : Type 0
    Goes = (behind : List Noted) (list : List Event) → length list ≤ length limit → in_groups limit setting behind list ≡ run setting behind list

    -- the rest goes on behind what was made
    rest : Goes → (list : List Event) → length list ≤ length limit → (r : Result (List Noted) Refusal)
        → and_on r (λ behind. in_groups limit setting behind list) ≡ and_on r (λ behind. run setting behind list)
    rest old list short (Err refusal) = refl
    rest old list short (Ok behind) = old behind list short

    single : Goes → (r : Result Noted RunError) → r ≡ put_at (length before + 1) r
        → and_on (unless_refused (length before + 1) (put_at (length before + 1) r) (λ noted. Ok (noted ∷ before))) (λ behind. in_groups limit setting behind events)
        ≡ unless_refused (length before + 1) r (λ noted. run setting (noted ∷ before) events)
    single old (Err error) e = refl
    single old (Ok noted) e =
        let same : noted ≡ numbered (length before + 1) noted = cc in
        ap (λ n. in_groups limit setting (n ∷ before) events) (sym same) ∙ old (noted ∷ before) events (omega (arith, few))

    by : (group : List Event) → run setting ([] ++ before) (event ∷ events)
        ≡ and_on (in_order ([] ++ before) (apart setting before group)) (λ behind. run setting behind (drop (length group) (event ∷ events)))
        → Goes
        → and_on (in_order before (apart setting before (at_least event group))) (λ behind. in_groups limit setting behind (drop (length (at_least event group)) (event ∷ events)))
        ≡ run setting before (event ∷ events)
    by [] goes old = single old (entry_of setting before event) (keeps_number (length before + 1) event (entry_of setting before event) (makes setting before event))
    by (first ∷ group) goes old =
        rest old (drop (length (first ∷ group)) (event ∷ events)) (omega (arith, few, length-drop (length (first ∷ group)) (event ∷ events)))
        (in_order before (apart setting before (first ∷ group))) ∙ sym goes

pub groups_same : (setting : Setting) (before : List Noted) (events : List Event) → run_in_groups setting before events ≡ run setting before events
unfolding run_in_groups
groups_same setting before events = all_go events setting before events (omega arith)
