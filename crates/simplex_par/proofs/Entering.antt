-- What was made of a group, entered in order of events.
use Rattle.std.proofs.Common.{◌≡◌, ℕ, ◌+◌, ◌<◌, ◌≤◌, false, All, List, [], ◌∷◌, ◌++◌, length, map, mod-lt, drop, get_or, Option, Some, Result, Ok, Err, IfOk, refl, sym, ap, ◌∙◌, subst, arith}
use Rattle.std.specs.Prelude.{OnOk, IfErr}
use Rattle.std.proofs.lemmas.List.{reverse-append, drop_all}
use Rattle.simplex_transcript.specs.declared.event.Event.{Event}
use Rattle.simplex_transcript.specs.declared.entry.Entry.{Entry}
use Rattle.simplex_transcript.specs.declared.node.Node.{Node}
use Rattle.model_run.specs.Setting.{Setting}
use Rattle.simplex_transcript.specs.declared.refusal.RunError.{RunError}
use Rattle.simplex_transcript.specs.declared.refusal.Refusal.{Refusal}
use Rattle.model_run.specs.Life.{Noted}
use Rattle.model_run.specs.Entries.{entry_of}
use Rattle.model_run.specs.Run.{refused, unless_refused, run}
use Rattle.model_run.specs.Groups.{node_stepped, is_named, with_named, AllJoin}
use Rattle.model_run.proofs.Apart.{IsMade, makes}
use Rattle.model_run.proofs.Whole.{joins_so, AllBeside, one_more}
use Rattle.std.proofs.lemmas.List.Elements.{All-nil}
use Rattle.model_run.specs.Groups.{IsBeside}
use Rattle.simplex_network.specs.declared.network.Network.{Network}
use Rattle.simplex_network.specs.declared.task.Task.{Task}
use Rattle.simplex_network.specs.Answer.{is_memory}
use Rattle.simplex_network.specs.Lending.{StandsBut, IsStepped, IsDone, MayLend, Returns, Declines}
use Rattle.simplex_network.proofs.Lending.{stepped-apart, stands-all}
use Rattle.simplex_par.specs.declared.lanes.Dealt.{Dealt}
use Rattle.simplex_par.specs.declared.lanes.Lane.{Lane}
use Rattle.simplex_par.specs.Lanes.{LanesHold, Any, Done, LanesStep, TakesFirst}
use Rattle.simplex_par.specs.Steps.{in_order, names_of, Ready, Stepped, GroupMakes, GroupRefuses, LendsAll, EntersAll, RefusesOne}
use Rattle.simplex_par.proofs.Lists.{next_is}
use Rattle.simplex_par.proofs.Dealt.{Taken, lanes-take, lanes-step}
use Rattle.simplex_par.proofs.Naming.{named-first, first-new}

-- ---- a group, part of the way through

-- so many of its events are entered, behind the entries before the group
pub record Gone (network : Network) (setting : Setting) (start : List Noted) (group : List Event) (k workers : ℕ) (lanes : List Lane) (olds news : List Entry) : Type 0 where
  pub made : List Noted
  pub named : List Node
  pub beside : AllBeside named made
  pub join : AllJoin setting.setup start named (drop k group)
  pub ends : run setting (made ++ start) (drop k group) ≡ run setting start group
  pub stands : StandsBut (names_of (drop k group)) network setting (made ++ start)
  pub hold : LanesHold (Stepped setting start) workers k (drop k group) lanes
  pub entries : in_order start ≡ olds → in_order (made ++ start) ≡ news
  pub count : length (made ++ start) ≡ length start + k

pub record Going (old network : Network) (group : List Event) (k : ℕ) (initial lanes : List Lane) (olds news : List Entry) : Type 0 where
  pub may : All (MayLend network) group
  pub shape : LanesHold Done (length initial) k (drop k group) lanes
  pub whole : (setting : Setting) (start : List Noted) → StandsBut (names_of group) old setting start → AllJoin setting.setup start [] group
      → LanesHold (Stepped setting start) (length initial) 0 group initial → Gone network setting start group k (length initial) lanes olds news

pub going-none : (old : Network) (group : List Event) (initial : List Lane) (olds : List Entry) → All (MayLend old) group → LanesHold Done (length initial) 0 group initial
    → Going old old group 0 initial initial olds olds
going-none old group initial olds may shape =
    record {
      may = may;
      shape = shape;
      whole = λ setting start stands join hold. record {
        made = [];
        named = [];
        beside = λ node new. All-nil (IsBeside node);
        join = join;
        ends = refl;
        stands = stands;
        hold = hold;
        entries = λ is. is;
        count = omega arith;
      };
    }

-- the next task of lanes that hold the rest of the group
next_taken : (P : Event → Dealt → Type 0) (workers k : ℕ) (group : List Event) (event : Event) (o : Option Dealt) (lanes more : List Lane) → 0 < workers → k < length group
    → event ≡ get_or group k event → LanesHold P workers k (drop k group) lanes → TakesFirst k o lanes more → Taken P workers k event (drop (k + 1) group) o more
next_taken P workers k group event o lanes more some lt is hold taking =
    lanes-take P workers k event (drop (k + 1) group) o lanes more some (mod-lt k some) (subst (λ events. LanesHold P workers k events lanes) (next_is group k event lt is) hold) taking

pub going-some : (old mid : Network) (group : List Event) (k : ℕ) (initial lanes more : List Lane) (olds news : List Entry) (event : Event) (o : Option Dealt) → 0 < length initial → k < length group
    → event ≡ get_or group k event → Going old mid group k initial lanes olds news → TakesFirst k o lanes more → (dealt : Dealt) × (o ≡ Some dealt) × IsDone dealt.task
going-some old mid group k initial lanes more olds news event o some lt is going taking =
    let t = next_taken Done (length initial) k group event o lanes more some lt is going.shape taking in (t.first, t.is, t.holds)

pub going-done : (old mid : Network) (group : List Event) (k : ℕ) (initial lanes more : List Lane) (olds news : List Entry) (event : Event) (o : Option Dealt) (dealt : Dealt) → 0 < length initial
    → k < length group → event ≡ get_or group k event → Going old mid group k initial lanes olds news → TakesFirst k o lanes more → o ≡ Some dealt → IsDone dealt.task
going-done old mid group k initial lanes more olds news event o dealt some lt is going taking it =
    let t = going-some old mid group k initial lanes more olds news event o some lt is going taking in
    let e : t.0 ≡ dealt = same_some t.0 dealt (sym t.1 ∙ it) in
    subst (λ x. IsDone x.task) e t.2
  where
    same_some : (a b : Dealt) → Some a ≡ Some b → a ≡ b
    same_some a b e = cc

-- the next event, and what its task made behind what is entered
record Next (mid : Network) (setting : Setting) (start made : List Noted) (named : List Node) (group : List Event) (k workers : ℕ) (event : Event) (task : Task) (more : List Lane) : Type 0 where
  node : Node
  steps : node_stepped event ≡ Some node
  fresh : is_named (names_of (drop (k + 1) group)) node ≡ false
  stands : StandsBut (node ∷ names_of (drop (k + 1) group)) mid setting (made ++ start)
  stepped : IsStepped setting (made ++ start) event task
  join : AllJoin setting.setup start (with_named named (node_stepped event)) (drop (k + 1) group)
  rest : LanesHold (Stepped setting start) workers (k + 1) (drop (k + 1) group) more

next_in : (mid : Network) (setting : Setting) (start : List Noted) (group : List Event) (k workers : ℕ) (lanes more : List Lane) (olds news : List Entry) (event : Event) (o : Option Dealt) (dealt : Dealt)
    → 0 < workers → k < length group → event ≡ get_or group k event → (gone : Gone mid setting start group k workers lanes olds news) → TakesFirst k o lanes more → o ≡ Some dealt
    → Next mid setting start gone.made gone.named group k workers event dealt.task more
unfolding AllJoin
next_in mid setting start group k workers lanes more olds news event o dealt some lt is gone taking it =
    let t = next_taken (Stepped setting start) workers k group event o lanes more some lt is gone.hold taking in
    let same : t.first ≡ dealt = same_some t.first dealt (sym t.is ∙ it) in
    let left = next_is group k event lt is in
    let join = subst (AllJoin setting.setup start gone.named) left gone.join in
    let j = joins_so setting.setup start gone.named event join.0 in
    record {
      node = j.node;
      steps = j.steps;
      fresh = first-new setting.setup start gone.named event (drop (k + 1) group) j.node join j.steps;
      stands = subst (λ list. StandsBut list mid setting (gone.made ++ start)) (ap names_of left ∙ named-first event (drop (k + 1) group) j.node j.steps) gone.stands;
      stepped = stepped-apart setting start gone.made event dealt.task (record { node = j.node; steps = j.steps; honest = j.honest; beside = gone.beside j.node j.new }) j.packet
          (subst (λ d. IsStepped setting start event d.task) same t.holds);
      join = join.1;
      rest = t.rest;
    }
  where
    same_some : (a b : Dealt) → Some a ≡ Some b → a ≡ b
    same_some a b e = cc

made_event : (setting : Setting) (before : List Noted) (event : Event) (noted : Noted) → entry_of setting before event ≡ Ok noted → noted.event ≡ event
made_event setting before event noted is = by (entry_of setting before event) is (makes setting before event)
  where
    by : (r : Result Noted RunError) → r ≡ Ok noted → IfOk r (IsMade (length before + 1) event) → noted.event ≡ event
    by (Ok n) e made = (let same : n ≡ noted = cc in subst (λ (x : Noted). x.event ≡ event) same made.event_is)
    by (Err error) e made = cc

in_order-push : (before : List Noted) (noted : Noted) → in_order (noted ∷ before) ≡ in_order before ++ noted.entry ∷ []
in_order-push before noted = rw (reverse-append (noted.entry ∷ []) (map (λ (n : Noted). n.entry) before)) refl

more_in : (mid new : Network) (setting : Setting) (start : List Noted) (group : List Event) (k workers : ℕ) (lanes more : List Lane) (olds news : List Entry) (event : Event) (o : Option Dealt) (dealt : Dealt)
    (entry : Entry) → 0 < workers → k < length group → event ≡ get_or group k event → Gone mid setting start group k workers lanes olds news → TakesFirst k o lanes more → o ≡ Some dealt
    → Returns mid new event dealt.task entry → Gone new setting start group (k + 1) workers more olds (news ++ entry ∷ [])
unfolding run unless_refused
more_in mid new setting start group k workers lanes more olds news event o dealt entry some lt is gone taking it returns =
    let n = next_in mid setting start group k workers lanes more olds news event o dealt some lt is gone taking it in
    let here = gone.made ++ start in
    let made = returns setting here n.node (names_of (drop (k + 1) group)) n.steps n.fresh n.stands n.stepped in
    let ends : run setting here (event ∷ drop (k + 1) group) ≡ run setting start group = ap (λ left. run setting here left) (sym (next_is group k event lt is)) ∙ gone.ends in
    record {
      made = made.0 ∷ gone.made;
      named = with_named gone.named (node_stepped event);
      beside = one_more gone.named gone.made event n.node made.0 gone.beside n.steps (made_event setting here event made.0 made.1);
      join = n.join;
      ends = rw made.1 at ends;
      stands = made.3;
      hold = n.rest;
      entries = λ first. in_order-push here made.0 ∙ ap (λ es. es ++ made.0.entry ∷ []) (gone.entries first) ∙ ap (λ e. news ++ e ∷ []) made.2;
      count = omega (arith, gone.count);
    }

pub going-more : (old mid new : Network) (group : List Event) (k : ℕ) (initial lanes more : List Lane) (olds news : List Entry) (event : Event) (o : Option Dealt) (dealt : Dealt) (entry : Entry)
    → 0 < length initial → k < length group → event ≡ get_or group k event → Going old mid group k initial lanes olds news → TakesFirst k o lanes more → o ≡ Some dealt
    → All (MayLend new) group → Returns mid new event dealt.task entry → Going old new group (k + 1) initial more olds (news ++ entry ∷ [])
going-more old mid new group k initial lanes more olds news event o dealt entry some lt is going taking it may returns =
    record {
      may = may;
      shape = (next_taken Done (length initial) k group event o lanes more some lt is going.shape taking).rest;
      whole = λ setting start stands join hold.
          more_in mid new setting start group k (length initial) lanes more olds news event o dealt entry some lt is (going.whole setting start stands join hold) taking it returns;
    }

pub going-refused : (old mid : Network) (group : List Event) (k : ℕ) (initial lanes more : List Lane) (olds news : List Entry) (event : Event) (o : Option Dealt) (dealt : Dealt) (error : RunError)
    (first number : ℕ) (refusal : Refusal) → 0 < length initial → k < length group → event ≡ get_or group k event → Going old mid group k initial lanes olds news → TakesFirst k o lanes more
    → o ≡ Some dealt → number ≡ first + k → refusal ≡ refused error number → (is_memory error ≡ false → Declines mid event dealt.task error) → is_memory refusal.error ≡ false
    → RefusesOne old group initial first refusal
unfolding run unless_refused
going-refused old mid group k initial lanes more olds news event o dealt error first number refusal some lt is going taking it counted refuses declines whole =
    λ setting start stands join begins hold.
    let gone = going.whole setting start stands join hold in
    let n = next_in mid setting start group k (length initial) lanes more olds news event o dealt some lt is gone taking it in
    let here = gone.made ++ start in
    let e = declines (rw refuses at whole) setting here n.node (names_of (drop (k + 1) group)) n.steps n.stands n.stepped in
    let ends : run setting here (event ∷ drop (k + 1) group) ≡ run setting start group = ap (λ left. run setting here left) (sym (next_is group k event lt is)) ∙ gone.ends in
    let at : length here + 1 ≡ number = omega (arith, gone.count, counted, begins) in
    sym (rw e at ends) ∙ ap (λ (m : ℕ). Err (refused error m)) at ∙ ap (λ r. Err r) (sym refuses)

-- all are entered
pub going-ends : (old network : Network) (group : List Event) (k : ℕ) (initial lanes : List Lane) (olds news : List Entry) → length group ≤ k → Going old network group k initial lanes olds news
    → EntersAll old network group initial olds news
unfolding run
going-ends old network group k initial lanes olds news all going =
    λ setting start stands join hold.
    let gone = going.whole setting start stands join hold in
    let none : drop k group ≡ [] = drop_all k group all in
    record {
      here = gone.made ++ start;
      ran = sym gone.ends ∙ ap (λ left. run setting (gone.made ++ start) left) none;
      stands = stands-all network setting (gone.made ++ start) (subst (λ list. StandsBut (names_of list) network setting (gone.made ++ start)) none gone.stands);
      entries = gone.entries;
    }

-- ---- a whole group

pub group-shape : (workers n : ℕ) (group : List Event) (olds news lanes : List Lane) → lanes ≡ news → n ≡ length olds → LanesHold Any workers 0 group olds → LanesStep olds news
    → LanesHold Done n 0 group lanes
group-shape workers n group olds news lanes is len hold steps =
    let all = lanes-step Any Done (λ event old new any s. s.done) workers 0 group olds news hold steps in
    let same : workers ≡ n = sym hold.count ∙ sym len in
    rw is (rw same at all)

group_stepped : (setting : Setting) (before : List Noted) (group : List Event) (workers n : ℕ) (olds news lanes : List Lane) → lanes ≡ news → n ≡ length olds
    → LanesHold (Ready setting before) workers 0 group olds → LanesStep olds news → LanesHold (Stepped setting before) n 0 group lanes
group_stepped setting before group workers n olds news lanes is len hold steps =
    let all = lanes-step (Ready setting before) (Stepped setting before) (λ event old new ready s. s.steps setting before event ready) workers 0 group olds news hold steps in
    let same : workers ≡ n = sym hold.count ∙ sym len in
    rw is (rw same at all)

pub group-makes : (old mid new : Network) (group : List Event) (workers : ℕ) (lent stepped lanes : List Lane) (olds news : List Entry) → lanes ≡ stepped → length lanes ≡ length lent
    → LendsAll old mid group workers lent → LanesStep lent stepped → EntersAll mid new group lanes olds news → GroupMakes old new group olds news
group-makes old mid new group workers lent stepped lanes olds news is len lends steps enters = λ setting before stands join.
    let l = lends setting before stands join in
    enters setting before l.0 join (group_stepped setting before group workers (length lanes) lent stepped lanes is len l.1 steps)

pub group-refuses : (old mid : Network) (group : List Event) (workers : ℕ) (lent stepped lanes : List Lane) (first : ℕ) (refusal : Refusal) → lanes ≡ stepped → length lanes ≡ length lent
    → LendsAll old mid group workers lent → LanesStep lent stepped → RefusesOne mid group lanes first refusal → GroupRefuses old group first refusal
group-refuses old mid group workers lent stepped lanes first refusal is len lends steps refuses = λ setting before stands join begins.
    let l = lends setting before stands join in
    refuses setting before l.0 join begins (group_stepped setting before group workers (length lanes) lent stepped lanes is len l.1 steps)

pub on-ok : {A B : Type 0} (r : Result (Unit {0}) Refusal) → OnOk r A → (A → B) → OnOk r B
on-ok (Ok x) a f = f a
on-ok (Err e) a f = a

pub if-err : (P Q : Refusal → Type 0) (r : Result (Unit {0}) Refusal) → IfErr r P → ((e : Refusal) → P e → Q e) → IfErr r Q
if-err P Q (Ok x) a f = a
if-err P Q (Err e) a f = f e a
