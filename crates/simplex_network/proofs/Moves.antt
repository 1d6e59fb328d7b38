-- The parts of all nodes behind one event more.
use Rattle.std.proofs.Common.{◌≡◌, List, ◌∷◌, Bool, true, false, refl, sym, subst, ap, ◌∙◌, if◌then◌else◌}
use Rattle.std.specs.Prelude.{Some, None}
use Rattle.std.specs.List.{cons_option}
use Rattle.simplex_transcript.specs.declared.event.Event.{Event}
use Rattle.simplex_transcript.specs.declared.event.Event.TheVariants as events
use Rattle.simplex_transcript.specs.declared.node.Node.{Node}
use Rattle.model_run.specs.Setting.{Setting}
use Rattle.model_run.specs.Kinds.{is_same_node, runs_engine}
use Rattle.model_run.specs.Life.{Noted, Life, is_of, after, life_in}
use Rattle.model_run.specs.Mocks.{Heard}
use Rattle.model_run.specs.Hearing.{heard_at, heard_in}
use Rattle.law_run.proofs.Further.{same_node}
use Rattle.simplex_network.specs.Parts.{Lives, Hears, part_in, changed}
use Rattle.simplex_network.specs.Polls.{IsOf}

-- a node that an event is not of hears nothing by it
unheard : (before : List Noted) (other : Node) (event : Event) → is_of other event ≡ false → heard_at before other event ≡ None
unheard before other (events.Start node floor stop) e = refl
unheard before other (events.Tick ms) e = refl
unheard before other (events.Deliver node at) e = rw e refl
unheard before other (events.Step node source stop) e = refl
unheard before other (events.Answer node request answer) e = refl
unheard before other (events.Crash node) e = refl
unheard before other (events.Inject member channel to bytes) e = refl

-- the node that an event is of
mine : (event : Event) (node other : Node) (starts b : Bool) → IsOf event node starts → is_same_node node other ≡ b → is_of other event ≡ b
mine event node other starts b is e = is.of other ∙ e

-- ---- a node that lives on

lives_at : (setting : Setting) (before : List Noted) (noted : Noted) (node other : Node) (starts : Bool) (life : Life) → IsOf noted.event node starts
    → runs_engine setting.setup node.member ≡ true → after setting noted.event noted.did (life_in setting before node) ≡ life
    → (b : Bool) → is_same_node node other ≡ b → (c : Bool) → runs_engine setting.setup other.member ≡ c
    → (if b then Lives life else if c then Lives (life_in setting before other) else Hears (heard_in before other))
    ≡ (if c then Lives (if is_of other noted.event then after setting noted.event noted.did (life_in setting before other) else life_in setting before other)
    else Hears (cons_option (heard_at before other noted.event) (heard_in before other)))
lives_at setting before noted node other starts life is engine same true e true f =
    let here = same_node node other e in
    rw (mine noted.event node other starts true is e)
    (ap (λ l. Lives l) (sym (subst (λ (n : Node). after setting noted.event noted.did (life_in setting before n) ≡ life) here same)))
lives_at setting before noted node other starts life is engine same true e false f =
    let here = same_node node other e in
    let runs : runs_engine setting.setup other.member ≡ true = subst (λ (n : Node). runs_engine setting.setup n.member ≡ true) here engine in
    let none : true ≡ false = sym runs ∙ f in
    cc
lives_at setting before noted node other starts life is engine same false e true f = rw (mine noted.event node other starts false is e) refl
lives_at setting before noted node other starts life is engine same false e false f =
    ap (λ h. Hears (cons_option h (heard_in before other))) (sym (unheard before other noted.event (mine noted.event node other starts false is e)))

-- one node lives on as the event says
pub parts-live : (setting : Setting) (before : List Noted) (noted : Noted) (node : Node) (starts : Bool) (life : Life) → IsOf noted.event node starts
    → runs_engine setting.setup node.member ≡ true → after setting noted.event noted.did (life_in setting before node) ≡ life
    → (other : Node) → changed node (Lives life) (part_in setting before) other ≡ part_in setting (noted ∷ before) other
unfolding changed part_in life_in heard_in
parts-live setting before noted node starts life is engine same other =
    lives_at setting before noted node other starts life is engine same (is_same_node node other) refl (runs_engine setting.setup other.member) refl

-- ---- a node that hears

hears_at : (setting : Setting) (before : List Noted) (noted : Noted) (node other : Node) (heard : Heard) → IsOf noted.event node false
    → runs_engine setting.setup node.member ≡ false → heard_at before node noted.event ≡ Some heard
    → (b : Bool) → is_same_node node other ≡ b → (c : Bool) → runs_engine setting.setup other.member ≡ c
    → (if b then Hears (heard ∷ heard_in before node) else if c then Lives (life_in setting before other) else Hears (heard_in before other))
    ≡ (if c then Lives (if is_of other noted.event then after setting noted.event noted.did (life_in setting before other) else life_in setting before other)
    else Hears (cons_option (heard_at before other noted.event) (heard_in before other)))
hears_at setting before noted node other heard is engine hears true e true f =
    let here = same_node node other e in
    let none : runs_engine setting.setup other.member ≡ false = subst (λ (n : Node). runs_engine setting.setup n.member ≡ false) here engine in
    let never : true ≡ false = sym f ∙ none in
    cc
hears_at setting before noted node other heard is engine hears true e false f =
    let here = same_node node other e in
    ap (λ h. Hears h) (subst (λ (n : Node). heard ∷ heard_in before node ≡ cons_option (heard_at before n noted.event) (heard_in before n)) here (rw hears refl))
hears_at setting before noted node other heard is engine hears false e true f = rw (mine noted.event node other false false is e) refl
hears_at setting before noted node other heard is engine hears false e false f =
    ap (λ h. Hears (cons_option h (heard_in before other))) (sym (unheard before other noted.event (mine noted.event node other false false is e)))

-- one node heard a packet
pub parts-hear : (setting : Setting) (before : List Noted) (noted : Noted) (node : Node) (heard : Heard) → IsOf noted.event node false
    → runs_engine setting.setup node.member ≡ false → heard_at before node noted.event ≡ Some heard
    → (other : Node) → changed node (Hears (heard ∷ heard_in before node)) (part_in setting before) other ≡ part_in setting (noted ∷ before) other
unfolding changed part_in life_in heard_in
parts-hear setting before noted node heard is engine hears other =
    hears_at setting before noted node other heard is engine hears (is_same_node node other) refl (runs_engine setting.setup other.member) refl

-- ---- where nothing moves

still_at : (setting : Setting) (before : List Noted) (noted : Noted) (other : Node) → (runs_engine setting.setup other.member ≡ true → is_of other noted.event ≡ false)
    → heard_at before other noted.event ≡ None → (c : Bool) → runs_engine setting.setup other.member ≡ c
    → (if c then Lives (life_in setting before other) else Hears (heard_in before other))
    ≡ (if c then Lives (if is_of other noted.event then after setting noted.event noted.did (life_in setting before other) else life_in setting before other)
    else Hears (cons_option (heard_at before other noted.event) (heard_in before other)))
still_at setting before noted other apart silent true f = rw (apart f) refl
still_at setting before noted other apart silent false f = rw silent refl

-- an event that is of no engine, and by which nothing is heard
pub parts-still : (setting : Setting) (before : List Noted) (noted : Noted) → ((other : Node) → runs_engine setting.setup other.member ≡ true → is_of other noted.event ≡ false)
    → ((other : Node) → heard_at before other noted.event ≡ None) → (other : Node) → part_in setting before other ≡ part_in setting (noted ∷ before) other
unfolding part_in life_in heard_in
parts-still setting before noted apart silent other = still_at setting before noted other (apart other) (silent other) (runs_engine setting.setup other.member) refl
