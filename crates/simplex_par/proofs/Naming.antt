-- The nodes of a group.
use Rattle.std.proofs.Common.{◌≡◌, ◌||◌, Bool, true, false, List, [], ◌∷◌, refl, sym, ap, subst, ◌∙◌}
use Rattle.std.specs.Prelude.{Some}
use Rattle.simplex_transcript.specs.declared.event.Event.{Event}
use Rattle.simplex_transcript.specs.declared.node.Node.{Node}
use Rattle.simplex_transcript.specs.declared.setup.Setup.{Setup}
use Rattle.model_run.specs.Kinds.{is_same_node}
use Rattle.model_run.specs.Life.{Noted}
use Rattle.law_run.proofs.Further.{same_node, same_self}
use Rattle.model_run.specs.Groups.{node_stepped, is_named, with_named, AllJoin}
use Rattle.model_run.proofs.Whole.{joins_so}
use Rattle.simplex_par.specs.Steps.{names_of}

-- the first of them is named by itself, or by what is named besides
pub named-first : (event : Event) (events : List Event) (node : Node) → node_stepped event ≡ Some node → names_of (event ∷ events) ≡ node ∷ names_of events
named-first event events node steps = ap (with_named (names_of events)) steps

pub named-more : (named : List Node) (event : Event) (node : Node) → node_stepped event ≡ Some node → with_named named (node_stepped event) ≡ node ∷ named
named-more named event node steps = ap (with_named named) steps

-- a node that is named before does not join behind it
apart : (named : List Node) (node other : Node) → is_named named node ≡ true → is_named named other ≡ false → is_same_node other node ≡ false
apart named node other here new = by (is_same_node other node) refl
  where
    by : (b : Bool) → is_same_node other node ≡ b → b ≡ false
    by true e =
        let same = same_node other node e in
        let never : true ≡ false = sym here ∙ subst (λ (n : Node). is_named named n ≡ false) same new in
        cc
    by false e = refl

still_named : (named : List Node) (other node : Node) → is_named named node ≡ true → is_named (other ∷ named) node ≡ true
still_named named other node here = by (is_same_node other node)
  where
    by : (b : Bool) → (b || is_named named node) ≡ true
    by true = refl
    by false = here

neither : (a b : Bool) → a ≡ false → b ≡ false → (a || b) ≡ false
neither true b e f = cc
neither false b e f = f

pub join-new : (setup : Setup) (before : List Noted) (named : List Node) (events : List Event) (node : Node) → AllJoin setup before named events → is_named named node ≡ true
    → is_named (names_of events) node ≡ false
unfolding AllJoin
join-new setup before named [] node all here = refl
join-new setup before named (event ∷ events) node all here =
    let j = joins_so setup before named event all.0 in
    let rest = join-new setup before (with_named named (node_stepped event)) events node all.1
    (ap (λ list. is_named list node) (named-more named event j.node j.steps) ∙ still_named named j.node node here) in
    ap (λ list. is_named list node) (named-first event events j.node j.steps)
    ∙ neither (is_same_node j.node node) (is_named (names_of events) node) (apart named node j.node here j.new) rest

-- the first of them is named by none of the others
pub first-new : (setup : Setup) (before : List Noted) (named : List Node) (event : Event) (events : List Event) (node : Node) → AllJoin setup before named (event ∷ events)
    → node_stepped event ≡ Some node → is_named (names_of events) node ≡ false
unfolding AllJoin
first-new setup before named event events node all steps =
    join-new setup before (with_named named (node_stepped event)) events node all.1
    (ap (λ list. is_named list node) (named-more named event node steps) ∙ own (is_same_node node node) (same_self node))
  where
    own : (b : Bool) → b ≡ true → (b || is_named named node) ≡ true
    own true e = refl
    own false e = cc
