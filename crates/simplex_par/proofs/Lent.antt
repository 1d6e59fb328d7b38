-- The hosts of a group, lent one after another.
use Rattle.std.proofs.Common.{◌≡◌, ℕ, ◌+◌, ◌<◌, ◌≤◌, ◌||◌, Bool, true, false, All, List, [], ◌∷◌, ◌++◌, length, take, drop, get_or, zero, suc, refl, sym, ap, ◌∙◌, subst, arith}
use Rattle.std.proofs.lemmas.List.{take_more, take_all, length-take-le, drop_all}
use Rattle.std.proofs.lemmas.List.Elements.{All-head, All-tail, All-weaker}
use Rattle.simplex_transcript.specs.declared.event.Event.{Event}
use Rattle.simplex_transcript.specs.declared.node.Node.{Node}
use Rattle.model_run.specs.Setting.{Setting}
use Rattle.model_run.specs.Kinds.{is_same_node}
use Rattle.model_run.specs.Life.{Noted}
use Rattle.model_run.specs.Groups.{node_stepped, is_named, with_named, AllJoin}
use Rattle.model_run.proofs.Whole.{joins_so}
use Rattle.simplex_network.specs.declared.network.Network.{Network}
use Rattle.simplex_network.specs.Stands.{StandsFor}
use Rattle.simplex_network.specs.Lending.{StandsBut, MayLend, Lends}
use Rattle.simplex_network.proofs.Lending.{stands-none, stands-like}
use Rattle.simplex_par.specs.declared.lanes.Dealt.{Dealt}
use Rattle.simplex_par.specs.declared.lanes.Lane.{Lane}
use Rattle.simplex_par.specs.Lanes.{LanesHold, Any, AreEmpty, PutsLast}
use Rattle.simplex_par.specs.Steps.{names_of, Ready, LendsAll}
use Rattle.simplex_par.proofs.Lists.{next_is}
use Rattle.simplex_par.proofs.Dealt.{lanes-put, lanes-none}
use Rattle.simplex_par.proofs.Naming.{named-first, named-more}

-- so many of the group are lent behind these entries
pub record LentAt (network : Network) (setting : Setting) (before : List Noted) (group : List Event) (k workers : ℕ) (lanes : List Lane) : Type 0 where
  pub lent : List Node
  pub stands : StandsBut lent network setting before
  pub join : AllJoin setting.setup before lent (drop k group)
  pub names : (node : Node) → (is_named lent node || is_named (names_of (drop k group)) node) ≡ is_named (names_of group) node
  pub ready : LanesHold (Ready setting before) workers 0 (take k group) lanes

pub record Lent (old new : Network) (group : List Event) (k workers : ℕ) (lanes : List Lane) : Type 0 where
  pub may : All (MayLend new) group
  pub shape : LanesHold Any workers 0 (take k group) lanes
  pub whole : (setting : Setting) (before : List Noted) → StandsFor old setting before → AllJoin setting.setup before [] group → LentAt new setting before group k workers lanes

pub lent-none : (old : Network) (group : List Event) (workers : ℕ) (lanes : List Lane) → AreEmpty workers lanes → All (MayLend old) group → Lent old old group 0 workers lanes
lent-none old group workers lanes empty may =
    record {
      may = may;
      shape = lanes-none Any workers lanes empty;
      whole = λ setting before stands join.
          record { lent = []; stands = stands-none old setting before stands; join = join; names = λ node. refl; ready = lanes-none (Ready setting before) workers lanes empty };
    }

swap : (a b c d : Bool) → (b || (a || c)) ≡ d → ((a || b) || c) ≡ d
swap true true c d e = e
swap true false c d e = e
swap false b c d e = e

grow : (P : Event → Dealt → Type 0) (group : List Event) (k workers : ℕ) (lanes more : List Lane) (event : Event) (dealt : Dealt) → k < length group → event ≡ get_or group k event
    → PutsLast k dealt lanes more → LanesHold P workers 0 (take k group) lanes → P event dealt → LanesHold P workers 0 (take (k + 1) group) more
grow P group k workers lanes more event dealt lt is put hold p =
    subst (λ events. LanesHold P workers 0 events more) (sym (take_more group k event lt ∙ ap (λ e. take k group ++ e ∷ []) (sym is)))
    (lanes-put P workers (take k group) event dealt lanes more hold p (subst (λ (n : ℕ). PutsLast n dealt lanes more) (sym (length-take-le k group (omega (arith, lt)))) put))

more_at : (mid new : Network) (setting : Setting) (before : List Noted) (group : List Event) (k workers : ℕ) (lanes more : List Lane) (event : Event) (dealt : Dealt) → k < length group
    → event ≡ get_or group k event → Lends mid new event dealt.task → PutsLast k dealt lanes more → LentAt mid setting before group k workers lanes
    → LentAt new setting before group (k + 1) workers more
unfolding AllJoin
more_at mid new setting before group k workers lanes more event dealt lt is lends put at =
    let left = next_is group k event lt is in
    let join = subst (AllJoin setting.setup before at.lent) left at.join in
    let j = joins_so setting.setup before at.lent event join.0 in
    let gave = lends setting before at.lent at.stands join.0 in
    record {
      lent = with_named at.lent (node_stepped event);
      stands = gave.0;
      join = join.1;
      names = λ node.
          ap (λ list. is_named list node || is_named (names_of (drop (k + 1) group)) node) (named-more at.lent event j.node j.steps)
          ∙ swap (is_same_node j.node node) (is_named at.lent node) (is_named (names_of (drop (k + 1) group)) node) (is_named (names_of group) node)
          (ap (λ list. is_named at.lent node || is_named list node) (sym (ap names_of left ∙ named-first event (drop (k + 1) group) j.node j.steps)) ∙ at.names node);
      ready = grow (Ready setting before) group k workers lanes more event dealt lt is put at.ready gave.1;
    }

pub lent-more : (old mid new : Network) (group : List Event) (k workers : ℕ) (lanes more : List Lane) (event : Event) (dealt : Dealt) → k < length group → event ≡ get_or group k event
    → Lends mid new event dealt.task → All (MayLend new) group → PutsLast k dealt lanes more → Lent old mid group k workers lanes → Lent old new group (k + 1) workers more
lent-more old mid new group k workers lanes more event dealt lt is lends may put lent =
    record {
      may = may;
      shape = grow Any group k workers lanes more event dealt lt is put lent.shape tt;
      whole = λ setting before stands join. more_at mid new setting before group k workers lanes more event dealt lt is lends put (lent.whole setting before stands join);
    }

-- all are lent
pub lent-shape : (old new : Network) (group : List Event) (k workers : ℕ) (lanes : List Lane) → length group ≤ k → Lent old new group k workers lanes → LanesHold Any workers 0 group lanes
lent-shape old new group k workers lanes all lent = subst (λ events. LanesHold Any workers 0 events lanes) (take_all k group all) lent.shape

or_none : (a : Bool) → (a || false) ≡ a
or_none true = refl
or_none false = refl

pub lent-all : (old new : Network) (group : List Event) (k workers : ℕ) (lanes : List Lane) → length group ≤ k → Lent old new group k workers lanes → LendsAll old new group workers lanes
lent-all old new group k workers lanes all lent = λ setting before stands join.
    let at = lent.whole setting before stands join in (
      stands-like at.lent (names_of group) new setting before
          (λ node. sym (or_none (is_named at.lent node)) ∙ ap (λ list. is_named at.lent node || is_named (names_of list) node) (sym (drop_all k group all)) ∙ at.names node)
          at.stands,
      subst (λ events. LanesHold (Ready setting before) workers 0 events lanes) (take_all k group all) at.ready,
    )

-- ---- what may be lent

pub may_at : (network : Network) (group : List Event) (k : ℕ) (event : Event) → k < length group → event ≡ get_or group k event → All (MayLend network) group → MayLend network event
may_at network group k event lt is may = all_at (MayLend network) group k event lt is may
  where
    all_at : (P : Event → Type 0) (xs : List Event) (i : ℕ) (x : Event) → i < length xs → x ≡ get_or xs i x → All P xs → P x
    all_at P [] i x l e all = absurd (omega (arith, l))
    all_at P (y ∷ xs) zero x l e all = subst P (sym e) (All-head P y xs all)
    all_at P (y ∷ xs) (suc i) x l e all = all_at P xs i x (omega (arith, l)) e (All-tail P y xs all)

pub may_all : (old new : Network) (group : List Event) → ((event : Event) → MayLend old event → MayLend new event) → All (MayLend old) group → All (MayLend new) group
may_all old new group same may = All-weaker (MayLend old) (MayLend new) same group may
