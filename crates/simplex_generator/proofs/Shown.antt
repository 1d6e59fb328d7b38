-- What the engines that a network shows say of its nodes.
use Rattle.std.proofs.Common.{◌≡◌, ◌==◌, ◌&&◌, ◌++◌, ℕ, zero, suc, Bool, true, false, not, nat_lt, List, [], refl, sym, ap, ◌∙◌, subst, append-nil, if◌then◌else◌, arith}
use Rattle.std.proofs.lemmas.Bool.{le-ltb}
use Rattle.std.specs.Prelude.{Option, Some, None}
use Rattle.std.specs.Option.{is_some, option_map}
use Rattle.simplex_transcript.specs.declared.node.Node.{Node}
use Rattle.model_steps.specs.Engine.{EngineMade, Did, runs}
use Rattle.model_run.specs.Kinds.{is_node, runs_engine}
use Rattle.model_run.specs.Life.{Noted, Life, Stopped, Running, clock_of, life_in}
use Rattle.simplex_generator.specs.declared.source.Held.{Held}
use Rattle.simplex_generator.specs.Setup.{setup_of}
use Rattle.simplex_network.specs.declared.network.Network.{Network}
use Rattle.simplex_network.specs.NodeEngine.{NodeEngine, EngineStands}
use Rattle.simplex_network.specs.Parts.{Lives, part_in, goes_on}
use Rattle.simplex_network.specs.Stands.{StandsFor, EngineOf, ShowsEngine}
use Rattle.simplex_network.proofs.Found.{part-goes}
use Rattle.simplex_generator.specs.Generated as generated

-- the members that run engines are those below 7 but 5
pub engines : (number member : ℕ) → (nat_lt member 7 && not (member == 5)) ≡ runs_engine (setup_of number) member
unfolding setup_of
engines number zero = refl
engines number (suc zero) = refl
engines number (suc (suc zero)) = refl
engines number (suc (suc (suc zero))) = refl
engines number (suc (suc (suc (suc zero)))) = refl
engines number (suc (suc (suc (suc (suc zero))))) = refl
engines number (suc (suc (suc (suc (suc (suc zero)))))) = refl
engines number (suc (suc (suc (suc (suc (suc (suc member))))))) = ap (λ b. b && not (suc (suc (suc (suc (suc (suc (suc member)))))) == 5)) (le-ltb (suc (suc (suc (suc (suc (suc (suc member))))))) 7 (omega arith))

both : (a b : Bool) → (a && b) ≡ true → (a ≡ true) × (b ≡ true)
both true b e = (refl, e)
both false b e = cc

-- which nodes there are is the same for all numbers
any_number : (number : ℕ) (node : Node) → is_node (setup_of 0) node ≡ true → is_node (setup_of number) node ≡ true
unfolding setup_of
any_number number node is = is

runs_any : (number : ℕ) (node : Node) → runs_engine (setup_of 0) node.member ≡ true → runs_engine (setup_of number) node.member ≡ true
unfolding setup_of
runs_any number node is = is

-- the part of a node that runs engines
part_is : (number : ℕ) (node : Node) (before : List Noted) → runs_engine (setup_of number) node.member ≡ true
    → part_in (generated.setting_for number) before node ≡ Lives (life_in (generated.setting_for number) before node)
unfolding part_in
part_is number node before runs-engine = rw runs-engine refl

-- the engine that is shown is that of its life, which goes on
pub shown : (network : Network) (number : ℕ) (node : Node) (before : List Noted) (engine : Option NodeEngine) → ShowsEngine network node engine
    → is_node (setup_of number) node ≡ true → runs_engine (setup_of number) node.member ≡ true → StandsFor network (generated.setting_for number) before
    → EngineOf (Lives (life_in (generated.setting_for number) before node)) engine
shown network number node before engine shows is runs-engine stands =
    subst (λ part. EngineOf part engine) (part_is number node before runs-engine)
    (subst (λ (b : Bool). EngineOf (if b then part_in (generated.setting_for number) before node else Lives (Stopped [])) engine) is (shows (generated.setting_for number) before stands))

goes : (number : ℕ) (node : Node) (before : List Noted) (life : Life) → runs_engine (setup_of number) node.member ≡ true
    → life_in (generated.setting_for number) before node ≡ life → goes_on (Lives life) ≡ true
goes number node before life runs-engine is =
    subst (λ part. goes_on part ≡ true) (part_is number node before runs-engine ∙ ap Lives is) (part-goes (generated.setting_for number) before node)

-- ---- a node that runs

pub runs_shown : {A : Type 0} (view : A → NodeEngine) (network : Network) (number : ℕ) (node : Node) (before : List Noted) (found : Option A)
    → ShowsEngine network node (option_map view found)
    → is_node (setup_of 0) node ≡ true → runs_engine (setup_of number) node.member ≡ true → StandsFor network (generated.setting_for number) before
    → is_some found ≡ generated.is_running (generated.setting_for number) before node
unfolding generated.is_running
runs_shown {A} view network number node before found shows is runs-engine stands =
    rw runs-engine (by (life_in (generated.setting_for number) before node) found
    (shown network number node before (option_map view found) shows (any_number number node is) runs-engine stands))
  where
    by : (life : Life) (found : Option A) → EngineOf (Lives life) (option_map view found) → is_some found ≡ generated.runs life
    by (Running made past) (Some it) of-it = refl
    by (Running made past) None of-it = absurd of-it
    by (Stopped sections) (Some it) of-it = absurd of-it
    by (Stopped sections) None of-it = refl

pub runs_without : (number : ℕ) (node : Node) (before : List Noted) → runs_engine (setup_of number) node.member ≡ false
    → true ≡ generated.is_running (generated.setting_for number) before node
unfolding generated.is_running
runs_without number node before none = rw none refl

-- ---- what is held

pub held_none : (network : Network) (node : Node) (items : List Held) (now : ℕ) → ShowsEngine network node None
    → (is_node (setup_of 0) node && runs_engine (setup_of 0) node.member) ≡ true
    → (number : ℕ) (before : List Noted) → StandsFor network (generated.setting_for number) before → clock_of before ≡ now
    → items ≡ items ++ generated.held_at (life_in (generated.setting_for number) before node) (clock_of before) node
held_none network node items now shows is number before stands clock =
    let parts = both (is_node (setup_of 0) node) (runs_engine (setup_of 0) node.member) is in
    by (life_in (generated.setting_for number) before node) (shown network number node before None shows (any_number number node parts.0) (runs_any number node parts.1) stands)
  where
    by : (life : Life) → EngineOf (Lives life) None → items ≡ items ++ generated.held_at life (clock_of before) node
    by (Running made past) of-it = absurd of-it
    by (Stopped sections) of-it = sym (append-nil items)

pub held_some : (network : Network) (node : Node) (engine : NodeEngine) (old new : List Held) (now : ℕ) → ShowsEngine network node (Some engine)
    → (is_node (setup_of 0) node && runs_engine (setup_of 0) node.member) ≡ true
    → ((made : EngineMade) (past : List Did) → EngineStands engine made past → runs past ≡ true → new ≡ old ++ generated.held_at (Running made past) now node)
    → (number : ℕ) (before : List Noted) → StandsFor network (generated.setting_for number) before → clock_of before ≡ now
    → new ≡ old ++ generated.held_at (life_in (generated.setting_for number) before node) (clock_of before) node
unfolding goes_on
held_some network node engine old new now shows is holds number before stands clock =
    let parts = both (is_node (setup_of 0) node) (runs_engine (setup_of 0) node.member) is in
    by (life_in (generated.setting_for number) before node) refl
    (shown network number node before (Some engine) shows (any_number number node parts.0) (runs_any number node parts.1) stands) (runs_any number node parts.1)
  where
    by : (life : Life) → life_in (generated.setting_for number) before node ≡ life → EngineOf (Lives life) (Some engine) → runs_engine (setup_of number) node.member ≡ true
        → new ≡ old ++ generated.held_at life (clock_of before) node
    by (Stopped sections) e of-it lives = absurd of-it
    by (Running made past) e of-it lives =
        rw clock (holds made past of-it (goes number node before (Running made past) lives e))
