-- What the engines that a network shows say of its nodes.
use Rattle.std.proofs.Common.{◌≡◌, ◌≤◌, ◌++◌, ◌∷◌, ◌&&◌, [], ℕ, Bool, true, false, not, List, length, refl, sym, ap, subst, ◌∙◌, arith, if◌then◌else◌}
use Rattle.std.specs.Prelude.{Option, Some, None}
use Rattle.std.specs.List.{flat_map, list_all, list_any, slice_get}
use Rattle.std.specs.Option.{is_some, option_map}
use Rattle.simplex_transcript.specs.declared.event.Event.{Event}
use Rattle.simplex_transcript.specs.declared.node.Node.{Node}
use Rattle.simplex_transcript.specs.declared.setup.Setup.{Setup}
use Rattle.model_steps.specs.Engine.{Did, EngineMade, runs}
use Rattle.model_run.specs.Hearing.{heard_in}
use Rattle.model_run.specs.Kinds.{is_node, is_of_kind, is_same_node, runs_engine}
use Rattle.model_run.specs.Life.{Life, Noted, Running, Stopped, clock_of, life_in}
use Rattle.model_run.specs.Setting.{Setting}
use Rattle.law_run.specs.Histories.{IsRun}
use Rattle.law_run.proofs.OneSet.{run_set}
use Rattle.simplex_network.specs.declared.network.Network.{Network}
use Rattle.simplex_network.specs.NodeEngine.{EngineStands, NodeEngine}
use Rattle.simplex_network.specs.Parts.{Hears, Lives, Part, goes_on, part_in}
use Rattle.simplex_network.specs.Stands.{EngineOf, ShowsEngine, StandsFor}
use Rattle.simplex_network.proofs.Found.{part-goes}
use Rattle.simplex_generator.specs.declared.source.Held.{Held}
use Rattle.simplex_generator.specs.Drawing.{step}
use Rattle.simplex_generator.specs.Generated as generated
use Rattle.simplex_generator.specs.Generated.{held_at}
use Rattle.simplex_scripts.specs.Coming.{hears, held_among, is_among, is_silent, next_step, nodes_of}
use Rattle.simplex_scripts.proofs.Members.{nodes_exist}

-- ---- the nodes that are named

pub among_some : (nodes : List Node) (node : Node) (answer : Bool) → 1 ≤ length nodes → answer ≡ list_any (is_same_node node) nodes
    → answer ≡ is_among nodes node
among_some [] node answer some is = absurd (omega (arith, some))
among_some (one ∷ others) node answer some is = is

-- ---- the part of a node

part_lives : (setting : Setting) (before : List Noted) (node : Node) → runs_engine setting.setup node.member ≡ true
    → part_in setting before node ≡ Lives (life_in setting before node)
unfolding part_in
part_lives setting before node engine = rw engine refl

part_hears : (setting : Setting) (before : List Noted) (node : Node) → runs_engine setting.setup node.member ≡ false
    → part_in setting before node ≡ Hears (heard_in before node)
unfolding part_in
part_hears setting before node none = rw none refl

-- the engine that is shown is that of its part
shown : (network : Network) (setting : Setting) (before : List Noted) (node : Node) (engine : Option NodeEngine) → ShowsEngine network node engine
    → is_node setting.setup node ≡ true → StandsFor network setting before → EngineOf (part_in setting before node) engine
shown network setting before node engine shows is stands =
    subst (λ (b : Bool). EngineOf (if b then part_in setting before node else Lives (Stopped [])) engine) is (shows setting before stands)

goes : (setting : Setting) (before : List Noted) (node : Node) (life : Life) → runs_engine setting.setup node.member ≡ true
    → life_in setting before node ≡ life → goes_on (Lives life) ≡ true
goes setting before node life engine is =
    subst (λ (part : Part). goes_on part ≡ true) (part_lives setting before node engine ∙ ap Lives is) (part-goes setting before node)

-- ---- what a node holds

-- where there is no engine, nothing is held
engineless : (setting : Setting) (before : List Noted) (node : Node) (now : ℕ) → IsRun setting before → runs_engine setting.setup node.member ≡ false
    → held_at (life_in setting before node) now node ≡ []
engineless setting before node now ran none = by (life_in setting before node) refl
  where
    never : (b : Bool) → b ≡ true → b ≡ false → ⊥
    never true e f = cc
    never false e f = cc

    by : (life : Life) → life_in setting before node ≡ life → held_at life now node ≡ []
    by (Stopped sections) is = refl
    by (Running made past) is =
        let lives = rw is at (run_set setting before node ran) in
        absurd (never (runs_engine setting.setup node.member) lives.runs none)

-- where none is shown neither
held_none : (network : Network) (setting : Setting) (before : List Noted) (node : Node) (now : ℕ) → ShowsEngine network node None
    → is_node setting.setup node ≡ true → StandsFor network setting before → held_at (life_in setting before node) now node ≡ []
held_none network setting before node now shows is stands =
    by (runs_engine setting.setup node.member) refl (shown network setting before node None shows is stands)
  where
    lives : (life : Life) → EngineOf (Lives life) None → held_at life now node ≡ []
    lives (Running made past) of_it = absurd of_it
    lives (Stopped sections) of_it = refl

    by : (b : Bool) → runs_engine setting.setup node.member ≡ b → EngineOf (part_in setting before node) None
        → held_at (life_in setting before node) now node ≡ []
    by true engine of_it =
        lives (life_in setting before node) (subst (λ (part : Part). EngineOf part None) (part_lives setting before node engine) of_it)
    by false none of_it = engineless setting before node now stands.ran none

-- what an engine that is shown holds
held_some : (network : Network) (setting : Setting) (before : List Noted) (node : Node) (engine : NodeEngine) (now : ℕ) (found : Option Held)
    → ShowsEngine network node (Some engine) → is_node setting.setup node ≡ true → StandsFor network setting before
    → ((made : EngineMade) (past : List Did) → EngineStands engine made past → runs past ≡ true → found ≡ slice_get (held_at (Running made past) now node) 0)
    → found ≡ slice_get (held_at (life_in setting before node) now node) 0
unfolding goes_on
held_some network setting before node engine now found shows is stands holds =
    by (runs_engine setting.setup node.member) refl (shown network setting before node (Some engine) shows is stands)
  where
    lives : (life : Life) → life_in setting before node ≡ life → runs_engine setting.setup node.member ≡ true → EngineOf (Lives life) (Some engine)
        → found ≡ slice_get (held_at life now node) 0
    lives (Stopped sections) e engine_runs of_it = absurd of_it
    lives (Running made past) e engine_runs of_it = holds made past of_it (goes setting before node (Running made past) engine_runs e)

    by : (b : Bool) → runs_engine setting.setup node.member ≡ b → EngineOf (part_in setting before node) (Some engine)
        → found ≡ slice_get (held_at (life_in setting before node) now node) 0
    by true engine_runs of_it =
        lives (life_in setting before node) refl engine_runs
        (subst (λ (part : Part). EngineOf part (Some engine)) (part_lives setting before node engine_runs) of_it)
    by false none of_it = absurd (subst (λ (part : Part). EngineOf part (Some engine)) (part_hears setting before node none) of_it)

-- ---- where it is among some

-- the first that a node holds, at this clock
abbrev pub FirstHeld : Network → Node → ℕ → List Node → Option Held → Type 0
FirstHeld network node now among found =
    (setting : Setting) (before : List Noted) → StandsFor network setting before → clock_of before ≡ now → is_node setting.setup node ≡ true
    → found ≡ slice_get (held_among setting before among node) 0

among_is : (setting : Setting) (before : List Noted) (node : Node) (among : List Node) → is_among among node ≡ true
    → held_at (life_in setting before node) (clock_of before) node ≡ held_among setting before among node
among_is setting before node among is = rw is refl

pub first_out : (network : Network) (node : Node) (now : ℕ) (among : List Node) → is_among among node ≡ false → FirstHeld network node now among None
first_out network node now among out setting before stands clock there = rw out refl

pub first_none : (network : Network) (node : Node) (now : ℕ) (among : List Node) → is_among among node ≡ true → ShowsEngine network node None
    → FirstHeld network node now among None
first_none network node now among is shows setting before stands clock there =
    sym (ap (λ (all : List Held). slice_get all 0)
    (sym (among_is setting before node among is) ∙ held_none network setting before node (clock_of before) shows there stands))

pub first_some : (network : Network) (node : Node) (now : ℕ) (among : List Node) (engine : NodeEngine) (found : Option Held) → is_among among node ≡ true
    → ShowsEngine network node (Some engine)
    → ((made : EngineMade) (past : List Did) → EngineStands engine made past → runs past ≡ true → found ≡ slice_get (held_at (Running made past) now node) 0)
    → FirstHeld network node now among found
first_some network node now among engine found is shows holds setting before stands clock there =
    held_some network setting before node engine now found shows there stands holds
    ∙ ap (λ (at : ℕ). slice_get (held_at (life_in setting before node) at node) 0) (sym clock)
    ∙ ap (λ (all : List Held). slice_get all 0) (among_is setting before node among is)

-- ---- the first of all

-- these nodes are left, and what they hold is the first of all
pub record Holding (setting : Setting) (before : List Noted) (among left all : List Node) : Type 0 where
  pub nodes : list_all (is_node setting.setup) left ≡ true
  pub first : slice_get (flat_map (held_among setting before among) left) 0 ≡ slice_get (flat_map (held_among setting before among) all) 0

-- whatever the network stands for, at this clock, where these are all nodes
abbrev pub LeftOf : Network → ℕ → (among left all : List Node) → Type 0
LeftOf network now among left all =
    (setting : Setting) (before : List Noted) → StandsFor network setting before → clock_of before ≡ now → all ≡ nodes_of setting.setup
    → Holding setting before among left all

pub holding_all : (network : Network) (now : ℕ) (among all : List Node) → LeftOf network now among all all
holding_all network now among all setting before stands clock is = record {
  nodes = ap (λ (its : List Node). list_all (is_node setting.setup) its) is ∙ nodes_exist setting.setup;
  first = refl;
}

both : (a b : Bool) → (a && b) ≡ true → (a ≡ true) × (b ≡ true)
both true b e = (refl, e)
both false b e = cc

none_before : {A : Type 0} (items more : List A) → None ≡ slice_get items 0 → slice_get (items ++ more) 0 ≡ slice_get more 0
none_before [] more none = refl
none_before (item ∷ items) more none = absurd (cc)

some_before : {A : Type 0} (item : A) (items more : List A) → Some item ≡ slice_get items 0 → slice_get (items ++ more) 0 ≡ Some item
some_before item [] more is = absurd (cc)
some_before item (one ∷ items) more is = sym is

pub holding_more : (network : Network) (now : ℕ) (among left more all : List Node) (node : Node) → left ≡ node ∷ more
    → LeftOf network now among left all → FirstHeld network node now among None → LeftOf network now among more all
holding_more network now among left more all node split lefts holds setting before stands clock is =
    let was = lefts setting before stands clock is in
    let parts = both (is_node setting.setup node) (list_all (is_node setting.setup) more)
    (sym (ap (λ (its : List Node). list_all (is_node setting.setup) its) split) ∙ was.nodes) in
    record {
      nodes = parts.1;
      first = sym (none_before (held_among setting before among node) (flat_map (held_among setting before among) more)
          (holds setting before stands clock parts.0))
          ∙ sym (ap (λ (its : List Node). slice_get (flat_map (held_among setting before among) its) 0) split) ∙ was.first;
    }

pub holding_found : (network : Network) (now : ℕ) (among left more all : List Node) (node : Node) (held : Held) (event : Event) → left ≡ node ∷ more
    → LeftOf network now among left all → FirstHeld network node now among (Some held) → event ≡ step held
    → (setting : Setting) (before : List Noted) → StandsFor network setting before → clock_of before ≡ now → all ≡ nodes_of setting.setup
    → Some event ≡ next_step setting before among
unfolding next_step
holding_found network now among left more all node held event split lefts holds steps setting before stands clock is =
    let was = lefts setting before stands clock is in
    let parts = both (is_node setting.setup node) (list_all (is_node setting.setup) more)
    (sym (ap (λ (its : List Node). list_all (is_node setting.setup) its) split) ∙ was.nodes) in
    let first : slice_get (flat_map (held_among setting before among) (nodes_of setting.setup)) 0 ≡ Some held =
    sym (ap (λ (its : List Node). slice_get (flat_map (held_among setting before among) its) 0) is) ∙ sym was.first
    ∙ ap (λ (its : List Node). slice_get (flat_map (held_among setting before among) its) 0) split
    ∙ some_before held (held_among setting before among node) (flat_map (held_among setting before among) more)
    (holds setting before stands clock parts.0) in
    ap Some steps ∙ sym (ap (λ (found : Option Held). option_map step found) first)

pub holding_over : (network : Network) (now : ℕ) (among left all : List Node) → left ≡ [] → LeftOf network now among left all
    → (setting : Setting) (before : List Noted) → StandsFor network setting before → clock_of before ≡ now → all ≡ nodes_of setting.setup
    → None ≡ next_step setting before among
unfolding next_step
holding_over network now among left all over lefts setting before stands clock is =
    let was = lefts setting before stands clock is in
    let first : slice_get (flat_map (held_among setting before among) (nodes_of setting.setup)) 0 ≡ None =
    sym (ap (λ (its : List Node). slice_get (flat_map (held_among setting before among) its) 0) is) ∙ sym was.first
    ∙ ap (λ (its : List Node). slice_get (flat_map (held_among setting before among) its) 0) over in
    sym (ap (λ (found : Option Held). option_map step found) first)

-- ---- which nodes hear

pub engine_hears : {A : Type 0} (view : A → NodeEngine) (network : Network) (setup : Setup) (node : Node) (found : Option A) (answer : Bool)
    → runs_engine setup node.member ≡ true → ShowsEngine network node (option_map view found) → answer ≡ is_some found
    → (setting : Setting) (before : List Noted) → StandsFor network setting before → setup ≡ setting.setup
    → answer ≡ (is_node setting.setup node && hears setting before node)
engine_hears {A} view network setup node found answer engine shows is setting before stands same =
    let engine_runs : runs_engine setting.setup node.member ≡ true = sym (ap (λ (it : Setup). runs_engine it node.member) same) ∙ engine in
    is ∙ by engine_runs (is_node setting.setup node) (shows setting before stands)
  where
    lives : (life : Life) (some : Option A) → EngineOf (Lives life) (option_map view some) → is_some some ≡ generated.runs life
    lives (Running made past) (Some it) of_it = refl
    lives (Running made past) None of_it = absurd of_it
    lives (Stopped sections) (Some it) of_it = absurd of_it
    lives (Stopped sections) None of_it = refl

    away : (some : Option A) → EngineOf (Lives (Stopped [])) (option_map view some) → is_some some ≡ false
    away (Some it) of_it = absurd of_it
    away None of_it = refl

    by : runs_engine setting.setup node.member ≡ true → (b : Bool)
        → EngineOf (if b then part_in setting before node else Lives (Stopped [])) (option_map view found)
        → is_some found ≡ (b && hears setting before node)
    by engine_runs false of_it = away found of_it
    by engine_runs true of_it =
        rw engine_runs (lives (life_in setting before node) found
        (subst (λ (part : Part). EngineOf part (option_map view found)) (part_lives setting before node engine_runs) of_it))

pub other_hears : (setup : Setup) (node : Node) (answer : Bool) → runs_engine setup node.member ≡ false
    → answer ≡ (is_node setup node && is_of_kind (λ kind. not (is_silent kind)) setup node.member)
    → (network : Network) (setting : Setting) (before : List Noted) → StandsFor network setting before → setup ≡ setting.setup
    → answer ≡ (is_node setting.setup node && hears setting before node)
other_hears setup node answer none is network setting before stands same =
    let none_runs : runs_engine setting.setup node.member ≡ false = sym (ap (λ (it : Setup). runs_engine it node.member) same) ∙ none in
    is ∙ ap (λ (it : Setup). is_node it node && is_of_kind (λ kind. not (is_silent kind)) it node.member) same ∙ rw none_runs refl
