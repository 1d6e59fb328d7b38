-- Every node of a run lives an honest member's life.
use Rattle.std.proofs.Common.{◌≡◌, ℕ, ◌-◌, ◌*◌, ◌<◌, nat_lt, Bool, true, false, List, [], ◌∷◌, Option, Some, None, refl, sym, ◌∙◌, subst, inl, arith, if◌then◌else◌, inr, Contains}
use Rattle.std.proofs.lemmas.Bool.Decides.{nat_tests}
use Rattle.simplex_values.specs.declared.plan.Channel.{Channel}
use Rattle.simplex_values.specs.declared.plan.Channel.TheVariants as channels
use Rattle.simplex_values.specs.Terms.{greatest_view}
use Rattle.simplex_wire.specs.declared.certificate.Finalization.{Finalization}
use Rattle.model_rules.specs.Views.{current_of}
use Rattle.std.specs.List.Sorted.{IsStrictlySortedBy}
use Rattle.simplex_journal.specs.Journal.{Section, replayed, crashed}
use Rattle.simplex_journal.specs.Contents.{numbers}
use Rattle.simplex_mailbox.specs.Mail.{received}
use Rattle.simplex_messages.specs.declared.batcher.Message as batcher_message
use Rattle.simplex_messages.specs.declared.batcher.BatcherInput.TheVariants as batcher_inputs
use Rattle.simplex_messages.specs.declared.voter.Message as voter_message
use Rattle.simplex_messages.specs.declared.voter.VoterInput.TheVariants as voter_inputs
use Rattle.simplex_messages.specs.declared.handed.Handed.TheVariants as handed
use Rattle.simplex_messages.specs.declared.step.Outcome.TheVariants as outcomes
use Rattle.simplex_messages.specs.declared.step.Stop.{Stop}
use Rattle.simplex_messages.specs.declared.step.Stop.TheVariants as stops
use Rattle.simplex_transcript.specs.declared.event.Event.{Event}
use Rattle.simplex_transcript.specs.declared.event.Event.TheVariants as events
use Rattle.simplex_transcript.specs.declared.event.StepSource.{StepSource}
use Rattle.simplex_transcript.specs.declared.event.StepSource.TheVariants as sources
use Rattle.simplex_transcript.specs.declared.entry.Took.TheVariants as tooks
use Rattle.simplex_transcript.specs.declared.node.Node.{Node}
use Rattle.simplex_transcript.specs.declared.setup.Setup.{Setup}
use Rattle.model_steps.specs.VoterLife.{place_of}
use Rattle.model_steps.specs.Engine as engine
use Rattle.model_steps.specs.Engine.{EngineMade, Did, voter_in, voter_past}
use Rattle.model_run.specs.Setting.{Setting}
use Rattle.model_run.specs.Life.{Noted, Stopped, Running, clock_of, is_of, going_on, sections_in, after, life_in}
use Rattle.model_run.specs.Members.{is_same_node, floor_of, engine_of}
use Rattle.model_run.specs.Entries.{noted_with, noted_blank}
use Rattle.law_agreement.specs.Member.{Member, newborn, run}
use Rattle.law_member.specs.Life.{IsFloor}
use Rattle.law_member.specs.Life as conduct
use Rattle.law_run.specs.Histories.{IsRun, IsStartAbove, AreFloors, IsAt, calls_of, AreStored, AreConstructed, IsLivedBy}
use Rattle.law_run.proofs.Turns.{IsBeginning, IsTaken, IsGoing, IsCrash, IsEngineless, IsTurn, entry_turn}
use Rattle.law_run.proofs.Further.{Further, same_self, same_node, go_further, stay}
use Rattle.law_run.proofs.Events.{start_further, batcher_further, nothing_further, voter_further, answer_further, crash_further, resolver_further}
use Rattle.simplex_messages.specs.declared.resolver.MailboxMessage.{MailboxMessage}
use Rattle.simplex_messages.specs.declared.resolver.HandlerMessage.{HandlerMessage}
use Rattle.simplex_messages.specs.declared.resolver.ResolverInput.TheVariants as resolver_inputs
use Rattle.model_resolver.specs.Views.{is_reached}
use Rattle.model_resolver.specs.Resolver as resolver
use Rattle.law_run.proofs.Letting.{heard_either, heard_no_start}
use Rattle.model_steps.proofs.ResolverSteps.{heard_by_resolver, heard_apart, stepped_resolver, stepped_resolver_apart, stepped_handler, stepped_handler_apart, stepped_fetcher, stepped_fetcher_apart}
use Rattle.law_run.specs.Faulty.{faulty_of}

-- for the node of the event, and so for each
each_node : (setting : Setting) (noted : Noted) (before : List Noted) (at node : Node) → is_of node noted.event ≡ is_same_node at node
    → (IsLivedBy setting before at → IsLivedBy setting (noted ∷ before) at) → IsLivedBy setting before node → IsLivedBy setting (noted ∷ before) node
each_node setting noted before at node of f b = cases (is_same_node at node) refl
  where
    cases : (t : Bool) → is_same_node at node ≡ t → IsLivedBy setting (noted ∷ before) node
    cases true e = subst (λ n. IsLivedBy setting before n → IsLivedBy setting (noted ∷ before) n) (same_node at node e) f b
    cases false e = stay setting noted before node (of ∙ e) b

-- ---- a start

start_case : (setting : Setting) → 0 < setting.setup.term → (before : List Noted) (at : Node) (floor : Option Finalization) (stop : Stop) (js : List Section) → life_in setting before at ≡ Stopped js
    → IsStartAbove (events.Start at floor stop)
    → (let did = engine.begun (engine_of setting at.member (floor_of setting.genesis floor) js) (clock_of before) stop in
    let noted = noted_with setting.setup before (events.Start at floor stop) at (Some tooks.Floor) did in
    IsLivedBy setting before at → IsLivedBy setting (noted ∷ before) at)
unfolding after
start_case setting pos before at floor stop js e above b =
    let did = engine.begun (engine_of setting at.member (floor_of setting.genesis floor) js) (clock_of before) stop in
    let noted = noted_with setting.setup before (events.Start at floor stop) at (Some tooks.Floor) did in
    go_further setting noted before at pos (same_self at) b
    (subst (λ l. Further setting noted at (going_on (engine_of setting at.member (floor_of setting.genesis floor) (sections_in l)) (did ∷ [])) (run newborn b.calls)) (sym e)
    (start_further setting at floor stop js (clock_of before) (run newborn b.calls) noted (is_floor floor above)
    (subst (λ l. IsAt setting at l (run newborn b.calls)) e b.at) (refl, refl) refl))
  where
    is_floor : (f : Option Finalization) → IsStartAbove (events.Start at f stop) → IsFloor (floor_of setting.genesis f)
    is_floor None h = tt
    is_floor (Some f) h = h

beginning_lives : (setting : Setting) (before : List Noted) (event : Event) (noted : Noted) (node : Node) → 0 < setting.setup.term → IsStartAbove noted.event → IsBeginning setting before event noted
    → IsLivedBy setting before node → IsLivedBy setting (noted ∷ before) node
beginning_lives setting before event noted node pos above b lived =
    subst (λ (n : Noted). IsStartAbove n.event → IsLivedBy setting (n ∷ before) node) b.is
    (λ a. each_node setting _ before b.at node refl (start_case setting pos before b.at b.floor b.stop b.sections b.stopped a) lived) above

-- ---- what goes on while the engine runs

-- an event that an engine takes
goes_on : (setting : Setting) → 0 < setting.setup.term → (before : List Noted) (at : Node) (noted : Noted) (made : EngineMade) (past : List Did) (did : Did)
    → life_in setting before at ≡ Running made past → is_of at noted.event ≡ true → after setting noted.event noted.did (Running made past) ≡ going_on made (did ∷ past)
    → ((m : Member) → IsAt setting at (Running made past) m → Further setting noted at (going_on made (did ∷ past)) m)
    → IsLivedBy setting before at → IsLivedBy setting (noted ∷ before) at
goes_on setting pos before at noted made past did e of gone f b =
    let m = run newborn b.calls in
    go_further setting noted before at pos of b
    (subst (λ l. Further setting noted at (after setting noted.event noted.did l) m) (sym e)
    (subst (λ l. Further setting noted at l m) (sym gone) (f m (subst (λ l. IsAt setting at l m) e b.at))))

abbrev IsFurther : Setting → Node → EngineMade → List Did → Member → Noted → Did → Type 0
IsFurther setting at made past m noted did =
    (noted.entry.calls ≡ did.out.calls) × (noted.entry.handed ≡ did.out.handed) → IsAt setting at (Running made past) m → Further setting noted at (going_on made (did ∷ past)) m

refused_or : (setting : Setting) (at : Node) (made : EngineMade) (past : List Did) (m : Member) (noted : Noted) (sender : ℕ) (channel : Channel) (bytes : List ℕ) (now : ℕ)
    → IsFurther setting at made past m noted (engine.let_in made past sender channel bytes now) → IsFurther setting at made past m noted (engine.heard made past sender channel bytes now)
refused_or setting at made past m noted sender channel bytes now l =
    heard_either (IsFurther setting at made past m noted) made past sender channel bytes now
    (λ same a. nothing_further setting at made past m noted (engine.Heard sender channel bytes) now stops.None outcomes.Refused (λ n s o out. refl, refl) same a) l

heard_further : (setting : Setting) (at : Node) (made : EngineMade) (past : List Did) (m : Member) (noted : Noted) (sender : ℕ) (channel : Channel) (bytes : List ℕ) (now : ℕ)
    → IsFurther setting at made past m noted (engine.heard made past sender channel bytes now)
unfolding engine.let_in
heard_further setting at made past m noted sender channels.Vote bytes now =
    refused_or setting at made past m noted sender channels.Vote bytes now
    (λ same a. batcher_further setting at made past m noted (engine.Heard sender channels.Vote bytes) (batcher_inputs.Vote sender bytes) now stops.None (λ n s o out. refl, refl) same a)
heard_further setting at made past m noted sender channels.Certificate bytes now =
    refused_or setting at made past m noted sender channels.Certificate bytes now
    (λ same a. batcher_further setting at made past m noted (engine.Heard sender channels.Certificate bytes) (batcher_inputs.Certificate sender bytes) now stops.None (λ n s o out. refl, refl) same a)
heard_further setting at made past m noted sender channels.Resolver bytes now =
    λ same a. resolver_further setting at made past m noted (engine.heard made past sender channels.Resolver bytes now) (heard_by_resolver made past sender bytes now) (heard_apart made past sender bytes now)
    (heard_no_start made past sender channels.Resolver bytes now) same a

-- ---- a step

low_view : (term lookahead current : ℕ) → 0 < term → nat_lt (greatest_view - 2 * term - lookahead) current ≡ false → current < greatest_view
low_view term lookahead current pos e = grind (arith, nat_tests, pos, e)

batcher_mail_further : (setting : Setting) (at : Node) (made : EngineMade) (past : List Did) (m : Member) (noted : Noted) (now : ℕ) (stop : Stop) (o : Option batcher_message.Message)
    → (noted.entry.calls ≡ (engine.on_batcher_mail made past now stop o).out.calls) × (noted.entry.handed ≡ (engine.on_batcher_mail made past now stop o).out.handed) → IsAt setting at (Running made past) m
    → Further setting noted at (going_on made (engine.on_batcher_mail made past now stop o ∷ past)) m
batcher_mail_further setting at made past m noted now stop None same a =
    nothing_further setting at made past m noted (engine.Took sources.Batcher None) now stop outcomes.Idle (λ n s o out. refl, refl) same a
batcher_mail_further setting at made past m noted now stop (Some message) same a =
    batcher_further setting at made past m noted (engine.Took sources.Batcher (Some (handed.Batcher message))) (batcher_inputs.Mail message) now stop (λ n s o out. refl, refl) same a

voter_mail_further : (setting : Setting) (at : Node) (made : EngineMade) (past : List Did) (m : Member) (noted : Noted) (now : ℕ) (stop : Stop) (o : Option voter_message.Message)
    → current_of (voter_in made past).rules (place_of (voter_in made past) (voter_past past)).standing.desk.known < greatest_view
    → (noted.entry.calls ≡ (engine.on_voter_mail made past now stop o).out.calls) × (noted.entry.handed ≡ (engine.on_voter_mail made past now stop o).out.handed) → IsAt setting at (Running made past) m
    → Further setting noted at (going_on made (engine.on_voter_mail made past now stop o ∷ past)) m
voter_mail_further setting at made past m noted now stop None low same a =
    nothing_further setting at made past m noted (engine.Took sources.Voter None) now stop outcomes.Idle (λ n s o out. refl, refl) same a
voter_mail_further setting at made past m noted now stop (Some message) low same a =
    voter_further setting at made past m noted (engine.Took sources.Voter (Some (handed.Voter message))) (voter_inputs.Mail message) now stop (λ n s o out. refl, refl) low same a

-- a step of the resolver is no start
pub resolver_no_start : (made : EngineMade) (past : List Did) (now : ℕ) (stop : Stop) → engine.is_start (engine.stepped made past sources.Resolver now stop).taken ≡ false
unfolding engine.stepped engine.by_resolver
resolver_no_start made past now stop = at (received (engine.resolver_mail made past))
  where
    at : (o : Option MailboxMessage) → engine.is_start (engine.on_resolver_mail made past now stop o).taken ≡ false
    at None = refl
    at (Some message) = refl

pub handler_no_start : (made : EngineMade) (past : List Did) (now : ℕ) (stop : Stop) → engine.is_start (engine.stepped made past sources.Handler now stop).taken ≡ false
unfolding engine.stepped engine.by_resolver
handler_no_start made past now stop = at (resolver.handler_message made.resolver (engine.resolver_past past))
  where
    at : (o : Option HandlerMessage) → engine.is_start (engine.on_handler_mail made past now stop o).taken ≡ false
    at None = refl
    at (Some message) = refl

pub fetcher_no_start : (made : EngineMade) (past : List Did) (now : ℕ) (stop : Stop) → engine.is_start (engine.stepped made past sources.Fetch now stop).taken ≡ false
unfolding engine.stepped engine.by_resolver
fetcher_no_start made past now stop = at (is_reached now (resolver.deadline_after made.resolver (engine.resolver_past past)))
  where
    at : (b : Bool) → engine.is_start (if b then engine.by_resolver made (engine.resolver_past past) (engine.Took sources.Fetch None) resolver_inputs.Timer now stop else engine.nothing_held sources.Fetch now stop).taken ≡ false
    at true = refl
    at false = refl

step_further : (setting : Setting) (at : Node) (made : EngineMade) (past : List Did) (m : Member) (noted : Noted) (source : StepSource) (now : ℕ) (stop : Stop)
    → current_of (voter_in made past).rules (place_of (voter_in made past) (voter_past past)).standing.desk.known < greatest_view
    → (noted.entry.calls ≡ (engine.stepped made past source now stop).out.calls) × (noted.entry.handed ≡ (engine.stepped made past source now stop).out.handed) → IsAt setting at (Running made past) m
    → Further setting noted at (going_on made (engine.stepped made past source now stop ∷ past)) m
unfolding engine.stepped
step_further setting at made past m noted sources.Batcher now stop low same a = batcher_mail_further setting at made past m noted now stop (received (engine.batcher_mail made past)) same a
step_further setting at made past m noted sources.Voter now stop low same a = voter_mail_further setting at made past m noted now stop (received (engine.voter_mail made past)) low same a
step_further setting at made past m noted sources.Timer now stop low same a = voter_further setting at made past m noted (engine.Took sources.Timer None) voter_inputs.Timer now stop (λ n s o out. refl, refl) low same a
step_further setting at made past m noted sources.Propose now stop low same a = voter_further setting at made past m noted (engine.Took sources.Propose None) voter_inputs.Propose now stop (λ n s o out. refl, refl) low same a
step_further setting at made past m noted sources.Verify now stop low same a = voter_further setting at made past m noted (engine.Took sources.Verify None) voter_inputs.Verify now stop (λ n s o out. refl, refl) low same a
step_further setting at made past m noted sources.Certify now stop low same a = voter_further setting at made past m noted (engine.Took sources.Certify None) voter_inputs.Certify now stop (λ n s o out. refl, refl) low same a
step_further setting at made past m noted sources.Resolver now stop low same a =
    resolver_further setting at made past m noted (engine.stepped made past sources.Resolver now stop) (stepped_resolver made past now stop) (stepped_resolver_apart made past now stop) (resolver_no_start made past now stop) same a
step_further setting at made past m noted sources.Handler now stop low same a =
    resolver_further setting at made past m noted (engine.stepped made past sources.Handler now stop) (stepped_handler made past now stop) (stepped_handler_apart made past now stop) (handler_no_start made past now stop) same a
step_further setting at made past m noted sources.Fetch now stop low same a =
    resolver_further setting at made past m noted (engine.stepped made past sources.Fetch now stop) (stepped_fetcher made past now stop) (stepped_fetcher_apart made past now stop) (fetcher_no_start made past now stop) same a

-- whatever the engine takes
taken_further : (setting : Setting) (before : List Noted) (at : Node) (made : EngineMade) (past : List Did) (did : Did) (m : Member) (noted : Noted) → 0 < setting.setup.term → IsTaken setting.setup before at made past did
    → (noted.entry.calls ≡ did.out.calls) × (noted.entry.handed ≡ did.out.handed) → IsAt setting at (Running made past) m → Further setting noted at (going_on made (did ∷ past)) m
taken_further setting before at made past did m noted pos t same a = elim t [
  | inl p ↦ gives (engine.heard made past p.packet.from.member p.packet.channel p.packet.bytes (clock_of before)) p.is
      (λ s. heard_further setting at made past m noted p.packet.from.member p.packet.channel p.packet.bytes (clock_of before) s a)
  | inr other ↦ elim other [
    | inl s ↦ gives (engine.stepped made past s.source (clock_of before) s.stop) s.is
        (λ k. step_further setting at made past m noted s.source (clock_of before) s.stop
        (low_view setting.setup.term setting.setup.lookahead (current_of (voter_in made past).rules (place_of (voter_in made past) (voter_past past)).standing.desk.known) pos s.low) k a)
    | inr r ↦ gives (engine.replied r.number r.answer (clock_of before)) r.is (λ s. answer_further setting at made past m noted r.number r.answer (clock_of before) s a)
  ]
]
  where
    gives : (d : Did) → did ≡ d → ((noted.entry.calls ≡ d.out.calls) × (noted.entry.handed ≡ d.out.handed) → Further setting noted at (going_on made (d ∷ past)) m) → Further setting noted at (going_on made (did ∷ past)) m
    gives d e f = subst (λ (x : Did). (noted.entry.calls ≡ x.out.calls) × (noted.entry.handed ≡ x.out.handed) → Further setting noted at (going_on made (x ∷ past)) m) (sym e) f same

going_lives : (setting : Setting) (before : List Noted) (event : Event) (noted : Noted) (node : Node) → 0 < setting.setup.term → IsGoing setting before event noted
    → IsLivedBy setting before node → IsLivedBy setting (noted ∷ before) node
going_lives setting before event noted node pos g lived =
    let new = noted_with setting.setup before event g.at g.took g.did in
    subst (λ n. IsLivedBy setting (n ∷ before) node) g.is
    (each_node setting new before g.at node (g.of node)
    (goes_on setting pos before g.at new g.made g.past g.did g.running (g.of g.at ∙ same_self g.at) g.goes
    (λ m a. taken_further setting before g.at g.made g.past g.did m new pos g.taken (refl, refl) a)) lived)

-- ---- a crash

crash_lives : (setting : Setting) (before : List Noted) (event : Event) (noted : Noted) (node : Node) → 0 < setting.setup.term → IsCrash setting before event noted
    → IsLivedBy setting before node → IsLivedBy setting (noted ∷ before) node
unfolding after
crash_lives setting before event noted node pos c lived =
    subst (λ n. IsLivedBy setting (n ∷ before) node) c.is (each_node setting new before c.at node refl crash lived)
  where
    new : Noted
    new = noted_blank before (events.Crash c.at) (Some c.at)

    crash : IsLivedBy setting before c.at → IsLivedBy setting (new ∷ before) c.at
    crash x =
        let m = run newborn x.calls in
        go_further setting new before c.at pos (same_self c.at) x
        (subst (λ l. Further setting new c.at (Stopped (crashed 0 (sections_in l))) m) (sym c.running)
        (crash_further setting c.at c.made c.past m new (refl, refl) (subst (λ l. IsAt setting c.at l m) c.running x.at)))

-- ---- every event

-- the node acts by an engine alone
abbrev pub ActsByEngine : Setup → Node → Type 0
ActsByEngine setup node = (noted : Noted) → IsEngineless setup noted → is_of node noted.event ≡ false

pub turn_lives : (setting : Setting) (before : List Noted) (event : Event) (noted : Noted) (node : Node) → 0 < setting.setup.term → ActsByEngine setting.setup node → IsStartAbove noted.event
    → IsTurn setting before event noted → IsLivedBy setting before node → IsLivedBy setting (noted ∷ before) node
turn_lives setting before event noted node pos acts above turn lived = elim turn [
  | inl b ↦ beginning_lives setting before event noted node pos above b lived
  | inr other ↦ elim other [
    | inl g ↦ going_lives setting before event noted node pos g lived
    | inr rest ↦ elim rest [
      | inl c ↦ crash_lives setting before event noted node pos c lived
      | inr last ↦ elim last [
        | inl t ↦ subst (λ n. IsLivedBy setting (n ∷ before) node) t.is (stay setting (noted_blank before (events.Tick t.ms) None) before node refl lived)
        | inr a ↦ stay setting noted before node (acts noted a) lived
      ]
    ]
  ]
]

-- ---- every run

pub none_yet : (setting : Setting) (node : Node) → IsLivedBy setting [] node
unfolding IsAt life_in calls_of AreStored AreConstructed conduct.taken conduct.voted conduct.AreSent conduct.journal_of numbers IsStrictlySortedBy replayed
none_yet setting node =
    record {
      calls = [];
      legal = tt;
      brought = λ c k. inl k;
      votes = refl;
      stored = tt;
      constructed = tt;
      own = λ s k. inl k;
      at = record { up = refl; blank = refl; journal = refl; stored = refl; rising = tt; own = λ v c. absurd (omega (arith, c.1)) };
    }

-- so each node lives that acts by an engine alone, whoever its member is
pub engine_lives : (setting : Setting) (noted : List Noted) (node : Node) → 0 < setting.setup.term → ActsByEngine setting.setup node → IsRun setting noted → AreFloors noted → IsLivedBy setting noted node
unfolding IsRun AreFloors
engine_lives setting [] node pos acts ran floors = none_yet setting node
engine_lives setting (noted ∷ before) node pos acts ran floors =
    turn_lives setting before ran.0 noted node pos acts floors.0 (entry_turn setting before ran.0 noted ran.1) (engine_lives setting before node pos acts ran.2 floors.1)

pub node_lives : (setting : Setting) (noted : List Noted) (node : Node) → 0 < setting.setup.term → ¬ (Contains (faulty_of setting.setup) node.member) → IsRun setting noted → AreFloors noted → IsLivedBy setting noted node
node_lives setting noted node pos honest ran floors = engine_lives setting noted node pos (λ n a. a.honest node honest) ran floors
