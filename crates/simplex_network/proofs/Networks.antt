-- A whole network behind one event more.
use Rattle.std.proofs.Common.{◌≡◌, inl, inr, ℕ, List, [], ◌∷◌, Bool, true, false, refl, sym, ap, subst, ◌∙◌, length, ◌+◌, ◌<◌, if◌then◌else◌}
use Rattle.std.specs.Prelude.{Option, Some, None, Result, Ok}
use Rattle.std.specs.Option.{option_or, option_and_then}
use Rattle.simplex_wire.specs.declared.certificate.Finalization.{Finalization}
use Rattle.simplex_journal.specs.Journal.{Section, crashed}
use Rattle.simplex_messages.specs.declared.step.Outcome.{Outcome}
use Rattle.simplex_messages.specs.declared.step.Stop.{Stop}
use Rattle.simplex_messages.specs.declared.step.StepOut.{StepOut}
use Rattle.simplex_transcript.specs.declared.event.Event.{Event}
use Rattle.simplex_transcript.specs.declared.event.Event.TheVariants as events
use Rattle.simplex_transcript.specs.declared.event.StepSource.{StepSource}
use Rattle.simplex_transcript.specs.declared.entry.Entry.{Entry}
use Rattle.simplex_transcript.specs.declared.entry.Took.{Took}
use Rattle.simplex_transcript.specs.declared.entry.Took.TheVariants as tooks
use Rattle.simplex_transcript.specs.declared.node.Node.{Node}
use Rattle.simplex_transcript.specs.declared.setup.Setup.{Setup}
use Rattle.simplex_transcript.specs.declared.refusal.RunError.{RunError}
use Rattle.model_steps.specs.Engine.{Did, begun}
use Rattle.simplex_engine.specs.declared.input.Input.{Input}
use Rattle.simplex_engine.specs.declared.input.TakenInside.{TakenInside}
use Rattle.model_run.specs.Setting.{Setting, setting_of}
use Rattle.model_run.specs.Kinds.{members_of, is_node, is_same_node, runs_engine}
use Rattle.model_run.specs.Members.{floor_of, engine_of}
use Rattle.model_run.specs.Life.{Noted, Life, Stopped, clock_of, is_of, after, life_in, sections_in}
use Rattle.model_run.specs.Requests.{is_start}
use Rattle.model_run.specs.Hearing.{heard_at, heard_in}
use Rattle.model_run.specs.Entries.{noted_blank, noted_idle, entry_with}
use Rattle.law_run.proofs.Further.{same_node}
use Rattle.simplex_members.specs.NodeEngine.{NodeConfig, made_with}
use Rattle.simplex_records.specs.Seats.{seat_of}
use Rattle.simplex_records.specs.Events as records
use Rattle.simplex_records.specs.Stands.{RecordsStand}
use Rattle.simplex_records.proofs.KeptPackets.{packets-from}
use Rattle.simplex_records.proofs.Seating.{same-seat}
use Rattle.simplex_network.specs.declared.network.Network.{Network}
use Rattle.simplex_network.specs.declared.task.Made.{Made}
use Rattle.simplex_network.specs.NodeEngine.{NodeEngine}
use Rattle.simplex_network.specs.Parts.{Part, Lives, first_part, part_in, after_poll, IsPolled, IsStarted, after_start, changed}
use Rattle.simplex_network.specs.Polls.{EntersMade, on_poll, IsOf, IsInput, noted_start, named}
use Rattle.simplex_network.specs.Stands.{Keeps, HostsStand, EngineOf, LivesAs, IsIdle, entered}
use Rattle.simplex_network.proofs.Polled.{poll-noted, poll-entered}
use Rattle.simplex_network.proofs.ManyHosts.{hosts-like}
use Rattle.simplex_network.proofs.Moves.{parts-live, parts-still}
use Rattle.simplex_network.proofs.Senders.{senders-none, senders-more, senders-same}

same_entry : (a b : Entry) → ◌≡◌ {A = Result Entry RunError} (Ok a) (Ok b) → a ≡ b
same_entry a b e = cc

-- what both say of one result
pub both_entries : (noted : Noted) (entry : Entry) (r : Result Noted RunError) → r ≡ Ok noted → entered r ≡ Ok entry → noted.entry ≡ entry
both_entries noted entry r is enters = same_entry noted.entry entry (ap (λ x. entered x) (sym is) ∙ enters)

-- an event of the node is one of its seat
pub at_seat : (event : Event) (node : Node) (starts : Bool) → node.half < 2 → IsOf event node starts → records.IsOf event (seat_of node) starts
at_seat event node starts half is = record { of = λ at. is.of _ ∙ same-seat node at half; start = is.start }

-- a network that is seen apart and put together
pub network-same : (old new : Network) (setting : Setting) (before : List Noted) → new.setup ≡ old.setup → new.genesis ≡ old.genesis → new.failed ≡ old.failed → new.clock ≡ old.clock
    → new.hosts ≡ old.hosts → new.records ≡ old.records → Keeps old setting before → Keeps new setting before
network-same old new setting before same_setup same_genesis same_failed same_clock same_hosts same_records s =
    record {
      given = same_setup ∙ s.given;
      genesis = same_genesis ∙ s.genesis;
      alive = same_failed ∙ s.alive;
      clock = same_clock ∙ s.clock;
      hosts = rw (same_setup, same_hosts) s.hosts;
      records = rw same_records s.records;
      senders = s.senders;
    }

-- a network whose hosts go on as before
pub hosts-rest : (old new : Network) (setting : Setting) (before : List Noted) → new.setup ≡ old.setup → new.genesis ≡ old.genesis → new.failed ≡ old.failed → new.clock ≡ old.clock
    → new.records ≡ old.records → ((setup : Setup) (parts : Node → Part) → HostsStand setup old.hosts.list.items parts → HostsStand setup new.hosts.list.items parts)
    → Keeps old setting before → Keeps new setting before
hosts-rest old new setting before same_setup same_genesis same_failed same_clock same_records stays s =
    record {
      given = same_setup ∙ s.given;
      genesis = same_genesis ∙ s.genesis;
      alive = same_failed ∙ s.alive;
      clock = same_clock ∙ s.clock;
      hosts = rw same_setup (stays old.setup (part_in setting before) s.hosts);
      records = rw same_records s.records;
      senders = s.senders;
    }

-- a network of which no event was made
pub network-new : (network : Network) (setting : Setting) → network.setup ≡ setting.setup → network.genesis ≡ setting.genesis → network.failed ≡ false → network.clock ≡ 0
    → HostsStand setting.setup network.hosts.list.items (first_part setting.setup) → RecordsStand network.records setting.setup [] → Keeps network setting []
unfolding clock_of part_in life_in heard_in
network-new network setting given genesis alive clock hosts kept =
    record { given = given; genesis = genesis; alive = alive; clock = clock; hosts = rw given hosts; records = kept; senders = senders-none setting.setup }

-- ---- a node's part

pub part-lives : (setting : Setting) (before : List Noted) (node : Node) (life : Life) → LivesAs setting before node life → part_in setting before node ≡ Lives life
unfolding part_in
part-lives setting before node life l = rw (l.0, l.1) refl

pub network-shows : (network : Network) (setting : Setting) (before : List Noted) (node : Node) (shown : Option NodeEngine) → Keeps network setting before
    → is_node network.setup node ≡ true
    → ((setup : Setup) (parts : Node → Part) → HostsStand setup network.hosts.list.items parts → EngineOf (parts node) shown)
    → EngineOf (if is_node setting.setup node then part_in setting before node else Lives (Stopped [])) shown
network-shows network setting before node shown s exists shows =
    let is : is_node setting.setup node ≡ true = rw s.given at exists in
    subst (λ (b : Bool). EngineOf (if b then part_in setting before node else Lives (Stopped [])) shown) (sym is)
    (shows network.setup (part_in setting before) s.hosts)

pub network-hides : (network : Network) (setting : Setting) (before : List Noted) (node : Node) → Keeps network setting before → is_node network.setup node ≡ false
    → EngineOf (if is_node setting.setup node then part_in setting before node else Lives (Stopped [])) None
network-hides network setting before node s missing =
    let is : is_node setting.setup node ≡ false = rw s.given at missing in
    subst (λ (b : Bool). EngineOf (if b then part_in setting before node else Lives (Stopped [])) None) (sym is) tt

-- ---- an input

-- the entry of an input of a node's engine
pub network-entered : (old : Network) (setting : Setting) (before : List Noted) (event : Event) (node : Node) (input : Input) (stop : Stop) (made : Made) (entry : Entry) (life : Life)
    → Keeps old setting before → LivesAs setting before node life
    → ((setup : Setup) (parts : Node → Part) (life : Life) → HostsStand setup old.hosts.list.items parts → parts node ≡ Lives life
    → IsPolled life input old.clock stop made.polled.outcome made.polled.taken made.out)
    → EntersMade old.records old.setup node made entry
    → entered (on_poll setting.setup before event node input stop made.outside life) ≡ Ok entry
network-entered old setting before event node input stop made entry life s lives gives enters =
    let entering : (did : Did) → did.out ≡ made.out → did.outcome ≡ made.polled.outcome
    → entry ≡ entry_with old.setup (length before + 1) node (option_or made.outside (option_and_then (named before node) made.polled.taken)) did =
    (λ did is ends. enters before did (rw s.given s.records) is ends) in
    poll-entered setting.setup before event node input stop made.outside (option_and_then (named before node) made.polled.taken) entry old.clock made.polled.outcome made.polled.taken made.out life s.clock
    (gives setting.setup (part_in setting before) life (rw s.given at s.hosts) (part-lives setting before node life lives))
    refl (rw s.given at entering)

pub network-polled : (old new : Network) (setting : Setting) (before : List Noted) (event : Event) (noted : Noted) (node : Node) (input : Input) (stop : Stop) (outside : Option Took)
    (outcome : Outcome) (taken : Option TakenInside) (out : StepOut) (entry : Entry) (life : Life) → node.half < 2 → node.member < members_of setting.setup
    → new.setup ≡ old.setup → new.genesis ≡ old.genesis → new.failed ≡ old.failed → new.clock ≡ old.clock
    → Keeps old setting before → LivesAs setting before node life → IsInput event node
    → on_poll setting.setup before event node input stop outside life ≡ Ok noted
    → entered (on_poll setting.setup before event node input stop outside life) ≡ Ok entry
    → ((setup : Setup) (parts : Node → Part) (life : Life) → HostsStand setup old.hosts.list.items parts → parts node ≡ Lives life → IsPolled life input old.clock stop outcome taken out)
    → ((setup : Setup) (parts : Node → Part) (life : Life) → HostsStand setup old.hosts.list.items parts → parts node ≡ Lives life
    → HostsStand setup new.hosts.list.items (changed node (Lives (after_poll input old.clock stop life)) parts))
    → ((before : List Noted) (noted : Noted) → noted.entry ≡ entry → records.IsOf noted.event (seat_of node) false → RecordsStand old.records old.setup before
    → RecordsStand new.records old.setup (noted ∷ before))
    → Keeps new setting (noted ∷ before)
network-polled old new setting before event noted node input stop outside outcome taken out entry life half below same_setup same_genesis same_failed same_clock s lives is noted_is entry_is gives moves keeps =
    let stood : HostsStand setting.setup old.hosts.list.items (part_in setting before) = rw s.given at s.hosts in
    let part = part-lives setting before node life lives in
    let poll = poll-noted setting before event node input stop outside outcome taken out (clock_of before) life noted (rw s.clock at (gives setting.setup (part_in setting before) life stood part)) noted_is in
    let of : IsOf noted.event node false = rw poll.same is.of in
    record {
      given = same_setup ∙ s.given;
      genesis = same_genesis ∙ s.genesis;
      alive = same_failed ∙ s.alive;
      clock = same_clock ∙ s.clock ∙ sym (is.time noted before poll.same);
      hosts = rw (same_setup, s.given) (hosts-like setting.setup new.hosts.list.items _ (part_in setting (noted ∷ before))
          (parts-live setting before noted node false (after_poll input old.clock stop life) of lives.0
          (rw (lives.1, s.clock) (poll.goes (λ did. is.goes setting did life))))
          (moves setting.setup (part_in setting before) life stood part));
      records = rw s.given at (keeps before noted (both_entries noted entry _ noted_is entry_is) (at_seat noted.event node false half of) (rw s.given s.records));
      senders = senders-more setting.setup before noted node below poll.from s.senders;
    }

-- ---- a start

start_of : (node : Node) (floor : Option Finalization) (stop : Stop) → IsOf (events.Start node floor stop) node true
start_of node floor stop = record { of = λ other. refl; start = refl }

pub network-begun : (old : Network) (setting : Setting) (before : List Noted) (node : Node) (floor : Option Finalization) (stop : Stop) (config : NodeConfig)
    (outcome : Outcome) (out : StepOut) (entry : Entry) (life : Life) → Keeps old setting before → LivesAs setting before node life
    → ((sections : List Section) → made_with config sections ≡ engine_of (setting_of old.setup old.genesis) node.member (floor_of old.genesis floor) sections)
    → ((setup : Setup) (parts : Node → Part) (life : Life) → HostsStand setup old.hosts.list.items parts → parts node ≡ Lives life
    → IsStarted (made_with config (sections_in life)) old.clock stop outcome out)
    → ((before : List Noted) (did : Did) → RecordsStand old.records old.setup before → did.out ≡ out → did.outcome ≡ outcome
    → entry ≡ entry_with old.setup (length before + 1) node (Some tooks.Floor) did)
    → entry ≡ (noted_start setting before node floor stop life).entry
unfolding IsStarted
network-begun old setting before node floor stop config outcome out entry life s lives made gives enters =
    let sections = sections_in life in
    let is : made_with config sections ≡ engine_of setting node.member (floor_of setting.genesis floor) sections = rw (s.given, s.genesis) at (made sections) in
    let gave = rw s.clock at (gives setting.setup (part_in setting before) life (rw s.given at s.hosts) (part-lives setting before node life lives)) in
    let gave_so = rw is at gave in
    rw s.given at (enters before (begun (engine_of setting node.member (floor_of setting.genesis floor) sections) (clock_of before) stop) (rw s.given s.records) (sym gave_so.1) (sym gave_so.0))

start_goes : (setting : Setting) (before : List Noted) (node : Node) (floor : Option Finalization) (stop : Stop) (config : NodeConfig) (life : Life) (now : ℕ) → now ≡ clock_of before
    → made_with config (sections_in life) ≡ engine_of setting node.member (floor_of setting.genesis floor) (sections_in life) → life_in setting before node ≡ life
    → after setting (events.Start node floor stop) (noted_start setting before node floor stop life).did (life_in setting before node) ≡ after_start (made_with config (sections_in life)) now stop
unfolding after after_start
start_goes setting before node floor stop config life now clock made is = rw (is, clock, made) refl

pub network-started : (old new : Network) (setting : Setting) (before : List Noted) (node : Node) (floor : Option Finalization) (stop : Stop) (config : NodeConfig) (entry : Entry) (life : Life)
    → node.half < 2 → node.member < members_of setting.setup → new.setup ≡ old.setup → new.genesis ≡ old.genesis → new.failed ≡ old.failed → new.clock ≡ old.clock → Keeps old setting before → LivesAs setting before node life
    → ((sections : List Section) → made_with config sections ≡ engine_of (setting_of old.setup old.genesis) node.member (floor_of old.genesis floor) sections)
    → ((setup : Setup) (parts : Node → Part) (life : Life) → HostsStand setup old.hosts.list.items parts → parts node ≡ Lives life
    → HostsStand setup new.hosts.list.items (changed node (Lives (after_start (made_with config (sections_in life)) old.clock stop)) parts))
    → (noted_start setting before node floor stop life).entry ≡ entry
    → ((before : List Noted) (noted : Noted) → noted.entry ≡ entry → records.IsOf noted.event (seat_of node) true → RecordsStand old.records old.setup before
    → RecordsStand new.records old.setup (noted ∷ before))
    → Keeps new setting (noted_start setting before node floor stop life ∷ before)
unfolding clock_of
network-started old new setting before node floor stop config entry life half below same_setup same_genesis same_failed same_clock s lives made moves entry_is keeps =
    let noted = noted_start setting before node floor stop life in
    let stood : HostsStand setting.setup old.hosts.list.items (part_in setting before) = rw s.given at s.hosts in
    record {
      given = same_setup ∙ s.given;
      genesis = same_genesis ∙ s.genesis;
      alive = same_failed ∙ s.alive;
      clock = same_clock ∙ s.clock;
      hosts = rw (same_setup, s.given) (hosts-like setting.setup new.hosts.list.items _ (part_in setting (noted ∷ before))
          (parts-live setting before noted node true (after_start (made_with config (sections_in life)) old.clock stop) (start_of node floor stop) lives.0
          (start_goes setting before node floor stop config life old.clock s.clock (rw (s.given, s.genesis) at (made (sections_in life))) lives.1))
          (moves setting.setup (part_in setting before) life stood (part-lives setting before node life lives)));
      records = rw s.given at (keeps before noted entry_is (at_seat noted.event node true half (start_of node floor stop)) (rw s.given s.records));
      senders = senders-more setting.setup before noted node below (packets-from setting.setup node (begun (engine_of setting node.member (floor_of setting.genesis floor) (sections_in life)) (clock_of before) stop).out.calls) s.senders;
    }

-- ---- a crash

crash_of : (node : Node) → IsOf (events.Crash node) node false
crash_of node = record { of = λ other. refl; start = refl }

crash_goes : (setting : Setting) (node : Node) (life found : Life) → found ≡ life → after setting (events.Crash node) None found ≡ Stopped (crashed 0 (sections_in life))
unfolding after
crash_goes setting node life found is = rw is refl

pub network-crashed : (old new : Network) (setting : Setting) (before : List Noted) (node : Node) (entry : Entry) (life : Life)
    → new.setup ≡ old.setup → new.genesis ≡ old.genesis → new.failed ≡ old.failed → new.clock ≡ old.clock → Keeps old setting before → LivesAs setting before node life
    → ((setup : Setup) (parts : Node → Part) (life : Life) → HostsStand setup old.hosts.list.items parts → parts node ≡ Lives life
    → HostsStand setup new.hosts.list.items (changed node (Lives (Stopped (crashed 0 (sections_in life)))) parts))
    → entry ≡ (noted_blank before (events.Crash node) (Some node)).entry
    → ((setup : Setup) (before : List Noted) (noted : Noted) → noted.entry ≡ entry → is_start noted.event ≡ false → RecordsStand old.records setup before
    → RecordsStand new.records setup (noted ∷ before))
    → Keeps new setting (noted_blank before (events.Crash node) (Some node) ∷ before)
unfolding clock_of
network-crashed old new setting before node entry life same_setup same_genesis same_failed same_clock s lives moves entry_is keeps =
    let noted = noted_blank before (events.Crash node) (Some node) in
    let stood : HostsStand setting.setup old.hosts.list.items (part_in setting before) = rw s.given at s.hosts in
    record {
      given = same_setup ∙ s.given;
      genesis = same_genesis ∙ s.genesis;
      alive = same_failed ∙ s.alive;
      clock = same_clock ∙ s.clock;
      hosts = rw (same_setup, s.given) (hosts-like setting.setup new.hosts.list.items _ (part_in setting (noted ∷ before))
          (parts-live setting before noted node false (Stopped (crashed 0 (sections_in life))) (crash_of node) lives.0 (crash_goes setting node life (life_in setting before node) lives.1))
          (moves setting.setup (part_in setting before) life stood (part-lives setting before node life lives)));
      records = keeps setting.setup before noted (sym entry_is) refl s.records;
      senders = senders-same setting.setup before noted refl s.senders;
    }

-- ---- where no host moves

network_still : (old new : Network) (setting : Setting) (before : List Noted) (noted : Noted) (entry : Entry) → new.setup ≡ old.setup → new.genesis ≡ old.genesis → new.failed ≡ old.failed
    → new.clock ≡ clock_of (noted ∷ before) → new.hosts ≡ old.hosts → Keeps old setting before
    → ((other : Node) → runs_engine setting.setup other.member ≡ true → is_of other noted.event ≡ false) → ((other : Node) → heard_at before other noted.event ≡ None)
    → noted.entry.packets ≡ [] → RecordsStand new.records setting.setup (noted ∷ before) → Keeps new setting (noted ∷ before)
network_still old new setting before noted entry same_setup same_genesis same_failed later same_hosts s apart silent none kept =
    record {
      given = same_setup ∙ s.given;
      genesis = same_genesis ∙ s.genesis;
      alive = same_failed ∙ s.alive;
      clock = later;
      hosts = rw (same_setup, s.given, same_hosts) (hosts-like setting.setup old.hosts.list.items (part_in setting before) (part_in setting (noted ∷ before))
          (parts-still setting before noted apart silent) (rw s.given at s.hosts));
      records = kept;
      senders = senders-same setting.setup before noted none s.senders;
    }

pub network-ticked : (old new : Network) (setting : Setting) (before : List Noted) (ms : ℕ) (entry : Entry)
    → new.setup ≡ old.setup → new.genesis ≡ old.genesis → new.failed ≡ old.failed → new.hosts ≡ old.hosts → new.clock ≡ old.clock + ms → Keeps old setting before
    → entry ≡ (noted_blank before (events.Tick ms) None).entry
    → ((setup : Setup) (before : List Noted) (noted : Noted) → noted.entry ≡ entry → is_start noted.event ≡ false → RecordsStand old.records setup before
    → RecordsStand new.records setup (noted ∷ before))
    → Keeps new setting (noted_blank before (events.Tick ms) None ∷ before)
unfolding clock_of
network-ticked old new setting before ms entry same_setup same_genesis same_failed same_hosts later s entry_is keeps =
    network_still old new setting before (noted_blank before (events.Tick ms) None) entry same_setup same_genesis same_failed (later ∙ ticked) same_hosts s (λ other runs. refl) (λ other. refl) refl
    (keeps setting.setup before (noted_blank before (events.Tick ms) None) (sym entry_is) refl s.records)
  where
    ticked : old.clock + ms ≡ clock_of (noted_blank before (events.Tick ms) None ∷ before)
    ticked = rw s.clock refl

-- a node of a faulty member without an engine is none of those that run one
other_engine : (setup : Setup) (node other : Node) → runs_engine setup node.member ≡ false → runs_engine setup other.member ≡ true → is_same_node node other ≡ false
other_engine setup node other none runs = by (is_same_node node other) refl
  where
    by : (b : Bool) → is_same_node node other ≡ b → b ≡ false
    by true e =
        let here = same_node node other e in
        let never : true ≡ false = sym runs ∙ subst (λ (n : Node). runs_engine setup n.member ≡ false) here none in
        cc
    by false e = refl

pub network-idle : (old new : Network) (setting : Setting) (before : List Noted) (event : Event) (node : Node) (entry : Entry)
    → new.setup ≡ old.setup → new.genesis ≡ old.genesis → new.failed ≡ old.failed → new.hosts ≡ old.hosts → new.clock ≡ old.clock → Keeps old setting before
    → runs_engine setting.setup node.member ≡ false → IsIdle event node
    → entry ≡ (noted_idle before event node).entry
    → ((setup : Setup) (before : List Noted) (noted : Noted) → noted.entry ≡ entry → is_start noted.event ≡ false → RecordsStand old.records setup before
    → RecordsStand new.records setup (noted ∷ before))
    → Keeps new setting (noted_idle before event node ∷ before)
unfolding clock_of
network-idle old new setting before event node entry same_setup same_genesis same_failed same_hosts same_clock s none idle entry_is keeps = elim idle [
  | inl step ↦ subst (λ e. Keeps new setting (noted_idle before e node ∷ before)) (sym step.2)
      (network_still old new setting before (noted_idle before (events.Step node step.0 step.1) node) entry same_setup same_genesis same_failed
      (same_clock ∙ s.clock ∙ stepped step.0 step.1) same_hosts s (λ other runs. other_engine setting.setup node other none runs) (λ other. refl) refl
      (keeps setting.setup before (noted_idle before (events.Step node step.0 step.1) node) (sym entry_is) refl s.records))
  | inr crash ↦ subst (λ e. Keeps new setting (noted_idle before e node ∷ before)) (sym crash)
      (network_still old new setting before (noted_idle before (events.Crash node) node) entry same_setup same_genesis same_failed
      (same_clock ∙ s.clock ∙ halted) same_hosts s (λ other runs. other_engine setting.setup node other none runs) (λ other. refl) refl
      (keeps setting.setup before (noted_idle before (events.Crash node) node) (sym entry_is) refl s.records))
]
  where
    stepped : (source : StepSource) (stop : Stop) → clock_of before ≡ clock_of (noted_idle before (events.Step node source stop) node ∷ before)
    stepped source stop = refl

    halted : clock_of before ≡ clock_of (noted_idle before (events.Crash node) node ∷ before)
    halted = refl
