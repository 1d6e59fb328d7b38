-- Whom a running engine refuses, whom its resolver does not ask, and whom the entries name is one set.
use Rattle.std.proofs.Common.{◌≡◌, ℕ, ◌-◌, ◌==◌, ◌||◌, ◌&&◌, nat_lt, nat_le, Bool, true, false, List, [], ◌∷◌, ◌++◌, length, take, Option, Some, None, Ok, refl, sym, ap, ◌∙◌, subst, inl, inr, append-nil, if◌then◌else◌}
use Rattle.std.proofs.lemmas.List.Folds.{list_any-append}
use Rattle.simplex_values.specs.declared.plan.Channel.{Channel}
use Rattle.simplex_values.specs.declared.plan.Channel.TheVariants as channels
use Rattle.simplex_wire.specs.declared.certificate.Finalization.{Finalization}
use Rattle.simplex_journal.specs.Journal.{Section}
use Rattle.simplex_mailbox.specs.Mail.{received}
use Rattle.simplex_messages.specs.declared.batcher.Message as batcher_message
use Rattle.simplex_messages.specs.declared.voter.Message as voter_message
use Rattle.simplex_messages.specs.declared.resolver.MailboxMessage.{MailboxMessage}
use Rattle.simplex_messages.specs.declared.resolver.HandlerMessage.{HandlerMessage}
use Rattle.simplex_messages.specs.declared.resolver.ResolverInput.{ResolverInput}
use Rattle.simplex_messages.specs.declared.resolver.ResolverInput.TheVariants as inputs
use Rattle.simplex_messages.specs.declared.handed.Handed.TheVariants as handed
use Rattle.simplex_messages.specs.declared.step.Outcome.{Outcome}
use Rattle.simplex_messages.specs.declared.step.Outcome.TheVariants as outcomes
use Rattle.simplex_messages.specs.declared.step.Stop.{Stop}
use Rattle.simplex_messages.specs.declared.step.Stop.TheVariants as stops
use Rattle.simplex_messages.specs.declared.step.StepOut.{StepOut}
use Rattle.simplex_messages.specs.Step.{no_out, blocked_by_calls}
use Rattle.simplex_transcript.specs.declared.event.Event.{Event}
use Rattle.simplex_transcript.specs.declared.event.Event.TheVariants as events
use Rattle.simplex_transcript.specs.declared.event.StepSource.{StepSource}
use Rattle.simplex_transcript.specs.declared.event.StepSource.TheVariants as sources
use Rattle.simplex_transcript.specs.declared.entry.Took.TheVariants as tooks
use Rattle.simplex_transcript.specs.declared.node.Node.{Node}
use Rattle.simplex_transcript.specs.declared.setup.Setup.{Setup}
use Rattle.model_resolver.specs.Asks.{holds_member}
use Rattle.model_resolver.specs.Resolver as resolver
use Rattle.model_resolver.specs.Resolver.{blocked_after}
use Rattle.model_resolver.specs.Views.{is_reached}
use Rattle.model_steps.specs.Engine as engine
use Rattle.model_steps.specs.Engine.{EngineMade, Did, is_whole, runs, cut_short, blocked_in, resolver_past, sections_of}
use Rattle.model_run.specs.Setting.{Setting}
use Rattle.model_run.specs.Kinds.{runs_engine}
use Rattle.model_run.specs.Life.{Noted, Life, Stopped, Running, clock_of, is_of, going_on, sections_in, after, life_in}
use Rattle.model_run.specs.Members.{is_same_node, floor_of, engine_of}
use Rattle.model_run.specs.Requests.{is_start}
use Rattle.model_run.specs.Entries.{noted_with, noted_blank, entry_of}
use Rattle.model_run.specs.Blocked.{blocked_since}
use Rattle.law_run.specs.Histories.{IsRun}
use Rattle.law_run.specs.Refusing.{AreOneSet}
use Rattle.law_run.proofs.Further.{same_self, same_node, life_then, life_still}
use Rattle.law_run.proofs.Inserting.{inserted, holds_inserted}
use Rattle.law_run.proofs.Letting.{heard_either, told_is, nothing_given}
use Rattle.law_run.proofs.ResolverBlocks.{step_blocks, taking_blocks, told_blocks}
use Rattle.law_run.proofs.Turns.{IsTaken, IsGoing, IsEngineless, entry_turn}

-- ---- one more item of an engine's history

-- where it was whole, the members that it blocked were put among those that the resolver does not ask
abbrev IsTold : EngineMade → List Did → Did → Type 0
IsTold made past did =
    is_whole did.outcome ≡ true
    → blocked_after made.resolver (engine.given_to_resolver did ++ resolver_past past) ≡ inserted (blocked_after made.resolver (resolver_past past)) (blocked_by_calls did.out.calls)

-- it was told of them
told_others : (made : EngineMade) (past : List Did) (did : Did) → engine.is_of_resolver did.taken ≡ false → IsTold made past did
told_others made past did e w =
    ap (λ xs. blocked_after made.resolver (xs ++ resolver_past past)) (told_is did e) ∙ told_blocks made.resolver (blocked_by_calls did.out.calls) (resolver_past past)

-- nothing was done
told_nothing : (made : EngineMade) (past : List Did) (did : Did) → engine.given_to_resolver did ≡ [] → blocked_by_calls did.out.calls ≡ [] → IsTold made past did
unfolding inserted
told_nothing made past did e none w =
    ap (λ xs. blocked_after made.resolver (xs ++ resolver_past past)) e ∙ ap (inserted (blocked_after made.resolver (resolver_past past))) (sym none)

held_nothing : (made : EngineMade) (past : List Did) (source : StepSource) (now : ℕ) (stop : Stop) → IsTold made past (engine.nothing_held source now stop)
held_nothing made past source now stop = told_nothing made past (engine.nothing_held source now stop) (nothing_given (engine.Took source None) now stop).0 refl

-- it blocked them itself
told_itself : (made : EngineMade) (past : List Did) (given : List resolver.Given) (taken : engine.Taken) (input : ResolverInput) (now : ℕ) (stop : Stop)
    → ((out : StepOut) → engine.given_to_resolver (engine.did_of taken now stop outcomes.Done out) ++ resolver_past past ≡ resolver.Stepped input now ∷ given)
    → blocked_after made.resolver given ≡ blocked_after made.resolver (resolver_past past) → IsTold made past (engine.by_resolver made given taken input now stop)
unfolding engine.by_resolver
told_itself made past given taken input now stop more same = by stop refl
  where
    out : StepOut
    out = resolver.step_out made.resolver given input now

    whole_one : IsTold made past (engine.did_of taken now stop outcomes.Done out)
    whole_one w =
        ap (blocked_after made.resolver) (more out) ∙ step_blocks made.resolver given input now ∙ ap (λ xs. inserted xs (blocked_by_calls out.calls)) same

    pair : ℕ → Bool → Outcome × StepOut
    pair call b = if b then (outcomes.Cut, record no_out { calls = take (call - 1) out.calls }) else (outcomes.Done, out)

    cut : (call : ℕ) (b : Bool) → IsTold made past (engine.did_of taken now stop (pair call b).0 (pair call b).1)
    cut call true w = cc
    cut call false w = whole_one w

    by : (s : Stop) → stop ≡ s → IsTold made past (engine.did_of taken now stop (cut_short s out).0 (cut_short s out).1)
    by stops.None e = whole_one
    by (stops.Fail call keep) e = whole_one
    by (stops.Cut call keep) e = cut call (nat_lt 0 call && nat_le call (length out.calls))

on_batcher : (made : EngineMade) (past : List Did) (now : ℕ) (stop : Stop) (o : Option batcher_message.Message) → IsTold made past (engine.on_batcher_mail made past now stop o)
unfolding engine.by_batcher
on_batcher made past now stop None = held_nothing made past sources.Batcher now stop
on_batcher made past now stop (Some message) = told_others made past (engine.on_batcher_mail made past now stop (Some message)) refl

on_voter : (made : EngineMade) (past : List Did) (now : ℕ) (stop : Stop) (o : Option voter_message.Message) → IsTold made past (engine.on_voter_mail made past now stop o)
on_voter made past now stop None = held_nothing made past sources.Voter now stop
on_voter made past now stop (Some message) = told_others made past (engine.on_voter_mail made past now stop (Some message)) refl

on_resolver : (made : EngineMade) (past : List Did) (now : ℕ) (stop : Stop) (o : Option MailboxMessage) → IsTold made past (engine.on_resolver_mail made past now stop o)
on_resolver made past now stop None = held_nothing made past sources.Resolver now stop
on_resolver made past now stop (Some message) =
    told_itself made past (resolver_past past) (engine.Took sources.Resolver (Some (handed.Resolver message))) (inputs.Mail message) now stop (λ out. refl) refl

on_handler : (made : EngineMade) (past : List Did) (now : ℕ) (stop : Stop) (o : Option HandlerMessage) → IsTold made past (engine.on_handler_mail made past now stop o)
on_handler made past now stop None = held_nothing made past sources.Handler now stop
on_handler made past now stop (Some message) =
    told_itself made past (resolver.HandlerTaken ∷ resolver_past past) (engine.Took sources.Handler (Some (handed.Handler message))) (inputs.Handler message) now stop (λ out. refl)
    (taking_blocks made.resolver (resolver_past past))

on_fetcher : (made : EngineMade) (past : List Did) (now : ℕ) (stop : Stop) → IsTold made past (engine.on_fetcher made past now stop)
on_fetcher made past now stop = at (is_reached now (resolver.deadline_after made.resolver (resolver_past past)))
  where
    step : IsTold made past (engine.by_resolver made (resolver_past past) (engine.Took sources.Fetch None) inputs.Timer now stop)
    step = told_itself made past (resolver_past past) (engine.Took sources.Fetch None) inputs.Timer now stop (λ out. refl) refl

    at : (b : Bool) → IsTold made past (if b then engine.by_resolver made (resolver_past past) (engine.Took sources.Fetch None) inputs.Timer now stop else engine.nothing_held sources.Fetch now stop)
    at true = step
    at false = held_nothing made past sources.Fetch now stop

stepped_told : (made : EngineMade) (past : List Did) (source : StepSource) (now : ℕ) (stop : Stop) → IsTold made past (engine.stepped made past source now stop)
unfolding engine.stepped
stepped_told made past sources.Batcher now stop = on_batcher made past now stop (received (engine.batcher_mail made past))
stepped_told made past sources.Voter now stop = on_voter made past now stop (received (engine.voter_mail made past))
stepped_told made past sources.Timer now stop = told_others made past (engine.stepped made past sources.Timer now stop) refl
stepped_told made past sources.Propose now stop = told_others made past (engine.stepped made past sources.Propose now stop) refl
stepped_told made past sources.Verify now stop = told_others made past (engine.stepped made past sources.Verify now stop) refl
stepped_told made past sources.Certify now stop = told_others made past (engine.stepped made past sources.Certify now stop) refl
stepped_told made past sources.Resolver now stop = on_resolver made past now stop (received (engine.resolver_mail made past))
stepped_told made past sources.Handler now stop = on_handler made past now stop (resolver.handler_message made.resolver (resolver_past past))
stepped_told made past sources.Fetch now stop = on_fetcher made past now stop

let_in_told : (made : EngineMade) (past : List Did) (sender : ℕ) (channel : Channel) (bytes : List ℕ) (now : ℕ) → IsTold made past (engine.let_in made past sender channel bytes now)
unfolding engine.let_in engine.by_batcher
let_in_told made past sender channels.Vote bytes now = told_others made past (engine.let_in made past sender channels.Vote bytes now) refl
let_in_told made past sender channels.Certificate bytes now = told_others made past (engine.let_in made past sender channels.Certificate bytes now) refl
let_in_told made past sender channels.Resolver bytes now =
    told_itself made past (resolver_past past) (engine.Heard sender channels.Resolver bytes) (inputs.Packet sender bytes) now stops.None (λ out. refl) refl

heard_told : (made : EngineMade) (past : List Did) (sender : ℕ) (channel : Channel) (bytes : List ℕ) (now : ℕ) → IsTold made past (engine.heard made past sender channel bytes now)
heard_told made past sender channel bytes now =
    heard_either (IsTold made past) made past sender channel bytes now
    (told_nothing made past (engine.refused sender channel bytes now) (nothing_given (engine.Heard sender channel bytes) now stops.None).1 refl)
    (let_in_told made past sender channel bytes now)

taken_told : (setup : Setup) (before : List Noted) (at : Node) (made : EngineMade) (past : List Did) (did : Did) → IsTaken setup before at made past did → IsTold made past did
taken_told setup before at made past did t = elim t [
  | inl p ↦ subst (IsTold made past) (sym p.is) (heard_told made past p.packet.from.member p.packet.channel p.packet.bytes (clock_of before))
  | inr other ↦ elim other [
    | inl s ↦ subst (IsTold made past) (sym s.is) (stepped_told made past s.source (clock_of before) s.stop)
    | inr r ↦ subst (IsTold made past) (sym r.is) (told_others made past (engine.replied r.number r.answer (clock_of before)) refl)
  ]
]

-- ---- a life

-- the node has an engine, whom it blocked, and whom its resolver does not ask
pub record IsSet (setting : Setting) (node : Node) (blocked : List ℕ) (made : EngineMade) (past : List Did) : Type 0 where
  pub runs : runs_engine setting.setup node.member ≡ true
  pub blocked_is : blocked_in past ≡ blocked
  pub unasked : (member : ℕ) → holds_member (blocked_after made.resolver (resolver_past past)) member ≡ holds_member (blocked_in past) member

abbrev IsOneSet : Setting → Node → List ℕ → Life → Type 0
IsOneSet setting node blocked (Stopped sections) = Unit {0}
IsOneSet setting node blocked (Running made past) = IsSet setting node blocked made past

abbrev InLife : Setting → List Noted → Node → Type 0
InLife setting before node = IsOneSet setting node (blocked_since before node) (life_in setting before node)

more_unasked : (made : EngineMade) (past : List Did) (did : Did) → IsTold made past did → is_whole did.outcome ≡ true
    → ((member : ℕ) → holds_member (blocked_after made.resolver (resolver_past past)) member ≡ holds_member (blocked_in past) member)
    → (member : ℕ) → holds_member (blocked_after made.resolver (resolver_past (did ∷ past))) member ≡ holds_member (blocked_in (did ∷ past)) member
unfolding resolver_past blocked_in
more_unasked made past did told w old member =
    let new = blocked_by_calls did.out.calls in
    ap (λ xs. holds_member xs member) (told w) ∙ holds_inserted (blocked_after made.resolver (resolver_past past)) new member
    ∙ ap (λ b. holds_member new member || b) (old member) ∙ sym (list_any-append (λ m. m == member) new (blocked_in past))

going_set : (setting : Setting) (node : Node) (blocked : List ℕ) (made : EngineMade) (past : List Did) (did : Did) → IsTold made past did → IsSet setting node blocked made past
    → IsOneSet setting node (blocked_by_calls did.out.calls ++ blocked) (going_on made (did ∷ past))
unfolding runs blocked_in
going_set setting node blocked made past did told old = at (is_whole did.outcome) refl
  where
    at : (b : Bool) → is_whole did.outcome ≡ b → IsOneSet setting node (blocked_by_calls did.out.calls ++ blocked) (if b then Running made (did ∷ past) else Stopped (sections_of made (did ∷ past)))
    at false e = tt
    at true e = record { runs = old.runs; blocked_is = ap (λ xs. blocked_by_calls did.out.calls ++ xs) old.blocked_is; unasked = more_unasked made past did told e old.unasked }

begun_set : (setting : Setting) (node : Node) (made : EngineMade) (did : Did) → runs_engine setting.setup node.member ≡ true → engine.is_of_resolver did.taken ≡ false
    → IsOneSet setting node (blocked_by_calls did.out.calls) (going_on made (did ∷ []))
unfolding blocked_in resolver_past blocked_after resolver.standing_after resolver.at_first
begun_set setting node made did runs_one e =
    subst (λ xs. IsOneSet setting node xs (going_on made (did ∷ []))) (append-nil (blocked_by_calls did.out.calls))
    (going_set setting node [] made [] did (told_others made [] did e) (record { runs = runs_one; blocked_is = refl; unasked = λ member. refl }))

-- ---- one more entry

blocked_still : (noted : Noted) (before : List Noted) (node : Node) → is_of node noted.event ≡ false → blocked_since (noted ∷ before) node ≡ blocked_since before node
unfolding blocked_since
blocked_still noted before node e =
    ap (λ b. if b then (if is_start noted.event then blocked_by_calls noted.entry.calls else blocked_by_calls noted.entry.calls ++ blocked_since before node) else blocked_since before node) e

blocked_then : (noted : Noted) (before : List Noted) (node : Node) → is_of node noted.event ≡ true
    → blocked_since (noted ∷ before) node ≡ (if is_start noted.event then blocked_by_calls noted.entry.calls else blocked_by_calls noted.entry.calls ++ blocked_since before node)
unfolding blocked_since
blocked_then noted before node e =
    ap (λ b. if b then (if is_start noted.event then blocked_by_calls noted.entry.calls else blocked_by_calls noted.entry.calls ++ blocked_since before node) else blocked_since before node) e

blocked_more : (noted : Noted) (before : List Noted) (node : Node) → is_of node noted.event ≡ true → is_start noted.event ≡ false
    → blocked_since (noted ∷ before) node ≡ blocked_by_calls noted.entry.calls ++ blocked_since before node
blocked_more noted before node e f =
    blocked_then noted before node e ∙ ap (λ b. if b then blocked_by_calls noted.entry.calls else blocked_by_calls noted.entry.calls ++ blocked_since before node) f

still : (setting : Setting) (noted : Noted) (before : List Noted) (node : Node) → is_of node noted.event ≡ false → InLife setting before node → InLife setting (noted ∷ before) node
still setting noted before node e old =
    subst (λ xs. IsOneSet setting node xs (life_in setting (noted ∷ before) node)) (sym (blocked_still noted before node e))
    (subst (IsOneSet setting node (blocked_since before node)) (sym (life_still setting noted before node e)) old)

then_at : (setting : Setting) (noted : Noted) (before : List Noted) (at node : Node) → ((other : Node) → is_of other noted.event ≡ is_same_node at other) → InLife setting before node
    → (InLife setting before at → InLife setting (noted ∷ before) at) → InLife setting (noted ∷ before) node
then_at setting noted before at node of old f = cases (is_same_node at node) refl
  where
    cases : (t : Bool) → is_same_node at node ≡ t → InLife setting (noted ∷ before) node
    cases true e =
        (let same = same_node at node e in
        subst (λ n. InLife setting (noted ∷ before) n) same (f (subst (λ n. InLife setting before n) (sym same) old)))
    cases false e = still setting noted before node (of node ∙ e) old

beginning_set : (setting : Setting) (before : List Noted) (at : Node) (floor : Option Finalization) (stop : Stop) (sections : List Section) → life_in setting before at ≡ Stopped sections → runs_engine setting.setup at.member ≡ true
    → InLife setting (noted_with setting.setup before (events.Start at floor stop) at (Some tooks.Floor) (engine.begun (engine_of setting at.member (floor_of setting.genesis floor) sections) (clock_of before) stop) ∷ before) at
unfolding after engine.begun
beginning_set setting before at floor stop sections stopped runs_one =
    let did = engine.begun (engine_of setting at.member (floor_of setting.genesis floor) sections) (clock_of before) stop in
    let noted = noted_with setting.setup before (events.Start at floor stop) at (Some tooks.Floor) did in
    subst (λ xs. IsOneSet setting at xs (life_in setting (noted ∷ before) at)) (sym (blocked_then noted before at (same_self at)))
    (subst (IsOneSet setting at (blocked_by_calls did.out.calls)) (sym (life_then setting noted before at (same_self at)))
    (subst (λ l. IsOneSet setting at (blocked_by_calls did.out.calls) (going_on (engine_of setting at.member (floor_of setting.genesis floor) (sections_in l)) (did ∷ []))) (sym stopped)
    (begun_set setting at (engine_of setting at.member (floor_of setting.genesis floor) sections) did runs_one refl)))

further_set : (setting : Setting) (before : List Noted) (event : Event) (noted : Noted) → (g : IsGoing setting before event noted) → InLife setting before g.at
    → InLife setting (noted_with setting.setup before event g.at g.took g.did ∷ before) g.at
further_set setting before event noted g old =
    let new = noted_with setting.setup before event g.at g.took g.did in
    let of = g.of g.at ∙ same_self g.at in
    let running : IsSet setting g.at (blocked_since before g.at) g.made g.past = subst (IsOneSet setting g.at (blocked_since before g.at)) g.running old in
    subst (λ xs. IsOneSet setting g.at xs (life_in setting (new ∷ before) g.at)) (sym (blocked_more new before g.at of g.later))
    (subst (IsOneSet setting g.at (blocked_by_calls g.did.out.calls ++ blocked_since before g.at)) (sym (life_then setting new before g.at of ∙ ap (after setting event (Some g.did)) g.running ∙ g.goes))
    (going_set setting g.at (blocked_since before g.at) g.made g.past g.did (taken_told setting.setup before g.at g.made g.past g.did g.taken) running))

-- a node without an engine has no life
none_lives : (setting : Setting) (before : List Noted) (noted : Noted) (node : Node) → noted.did ≡ None → runs_engine setting.setup node.member ≡ false → InLife setting before node → is_of node noted.event ≡ true
    → InLife setting (noted ∷ before) node
unfolding after
none_lives setting before noted node none without old of =
    subst (IsOneSet setting node (blocked_since (noted ∷ before) node)) (sym (life_then setting noted before node of ∙ ap (λ d. after setting noted.event d (life_in setting before node)) none))
    (by noted.event (life_in setting before node) old)
  where
    never : (a : Bool) → a ≡ false → a ≡ true → ⊥
    never true e f = cc
    never false e f = cc

    stays : (l : Life) (xs : List ℕ) → IsOneSet setting node (blocked_since before node) l → IsOneSet setting node xs l
    stays (Stopped sections) xs h = tt
    stays (Running made past) xs h = absurd (never (runs_engine setting.setup node.member) without h.runs)

    by : (event : Event) (l : Life) → IsOneSet setting node (blocked_since before node) l → IsOneSet setting node (blocked_since (noted ∷ before) node) (after setting event None l)
    by (events.Crash at) l h = tt
    by (events.Start at floor stop) l h = stays l (blocked_since (noted ∷ before) node) h
    by (events.Deliver at ref) l h = stays l (blocked_since (noted ∷ before) node) h
    by (events.Step at source stop) l h = stays l (blocked_since (noted ∷ before) node) h
    by (events.Answer at ref answer) l h = stays l (blocked_since (noted ∷ before) node) h
    by (events.Tick ms) l h = stays l (blocked_since (noted ∷ before) node) h
    by (events.Inject who channel to bytes) l h = stays l (blocked_since (noted ∷ before) node) h

engineless_set : (setting : Setting) (before : List Noted) (noted : Noted) (node : Node) → IsEngineless setting.setup noted → InLife setting before node → InLife setting (noted ∷ before) node
engineless_set setting before noted node a old = of_it (is_of node noted.event) refl (runs_engine setting.setup node.member) refl
  where
    of_it : (b : Bool) → is_of node noted.event ≡ b → (r : Bool) → runs_engine setting.setup node.member ≡ r → InLife setting (noted ∷ before) node
    of_it false e r f = still setting noted before node e old
    of_it true e true f = still setting noted before node (a.engines node f) old
    of_it true e false f = none_lives setting before noted node a.did f old e

turn_set : (setting : Setting) (before : List Noted) (event : Event) (noted : Noted) (node : Node) → entry_of setting before event ≡ Ok noted → InLife setting before node → InLife setting (noted ∷ before) node
unfolding after
turn_set setting before event noted node e old = elim (entry_turn setting before event noted e) [
  | inl b ↦ subst (λ n. InLife setting (n ∷ before) node) b.is
      (then_at setting _ before b.at node (λ other. refl) old (λ h. beginning_set setting before b.at b.floor b.stop b.sections b.stopped b.runs))
  | inr other ↦ elim other [
    | inl g ↦ subst (λ n. InLife setting (n ∷ before) node) g.is
        (then_at setting (noted_with setting.setup before event g.at g.took g.did) before g.at node g.of old (further_set setting before event noted g))
    | inr rest ↦ elim rest [
      | inl c ↦ subst (λ n. InLife setting (n ∷ before) node) c.is
          (then_at setting (noted_blank before (events.Crash c.at) (Some c.at)) before c.at node (λ other. refl) old
          (λ h. subst (IsOneSet setting c.at (blocked_since (noted_blank before (events.Crash c.at) (Some c.at) ∷ before) c.at)) (sym (life_then setting (noted_blank before (events.Crash c.at) (Some c.at)) before c.at (same_self c.at))) tt))
      | inr last ↦ elim last [
        | inl t ↦ subst (λ n. InLife setting (n ∷ before) node) t.is (still setting (noted_blank before (events.Tick t.ms) None) before node refl old)
        | inr a ↦ engineless_set setting before noted node a old
      ]
    ]
  ]
]

pub run_set : (setting : Setting) (noted : List Noted) (node : Node) → IsRun setting noted → InLife setting noted node
unfolding IsRun life_in
run_set setting [] node ran = tt
run_set setting (noted ∷ before) node ran = turn_set setting before ran.0 noted node ran.1 (run_set setting before node ran.2)

pub one_set : (setting : Setting) (before : List Noted) (node : Node) (made : EngineMade) (past : List Did) (member : ℕ) → IsRun setting before → life_in setting before node ≡ Running made past
    → AreOneSet before node made past member
one_set setting before node made past member ran e =
    let s : IsSet setting node (blocked_since before node) made past = subst (IsOneSet setting node (blocked_since before node)) e (run_set setting before node ran) in
    let same = ap (λ xs. holds_member xs member) s.blocked_is in
    record { refused = same; unasked = s.unasked member ∙ same }
