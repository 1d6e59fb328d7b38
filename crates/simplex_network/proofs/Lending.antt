-- A network that lends a host and takes it back.
use Rattle.std.proofs.Common.{◌≡◌, ℕ, All, List, [], ◌∷◌, ◌++◌, Bool, true, false, refl, sym, ap, subst, ◌∙◌, length, take, ◌+◌, ◌<◌, ◌||◌, if◌then◌else◌}
use Rattle.std.specs.Prelude.{Option, Some, None, Result, Ok, Err}
use Rattle.std.specs.Option.{option_or, option_and_then}
use Rattle.std.proofs.lemmas.List.Elements.{All-weaker}
use Rattle.simplex_transcript.specs.declared.event.Event.{Event}
use Rattle.simplex_transcript.specs.declared.entry.Entry.{Entry}
use Rattle.simplex_transcript.specs.declared.entry.Took as transcript
use Rattle.simplex_transcript.specs.declared.node.Node.{Node}
use Rattle.simplex_transcript.specs.declared.setup.Setup.{Setup}
use Rattle.simplex_transcript.specs.declared.refusal.RunError.{RunError}
use Rattle.model_steps.specs.Engine.{Did}
use Rattle.simplex_messages.specs.declared.step.Stop.{Stop}
use Rattle.simplex_engine.specs.declared.input.Input.{Input}
use Rattle.simplex_engine.specs.declared.error.PollError.{PollError}
use Rattle.simplex_engine.specs.Polled.{polled, refusal_of}
use Rattle.model_run.specs.Setting.{Setting}
use Rattle.model_run.specs.Kinds.{members_of, is_node, is_same_node, is_honest}
use Rattle.model_run.specs.Life.{Noted, Life, Stopped, Running, clock_of}
use Rattle.model_run.specs.Entries.{noted_with, took_of, entry_with, entry_of}
use Rattle.law_run.specs.Histories.{IsRun}
use Rattle.law_run.proofs.Further.{same_node}
use Rattle.law_run.specs.Fitting.{IsTyped}
use Rattle.model_run.specs.Groups.{node_stepped, is_named, joins, with_named, joined, numbered, put_at, IsBeside, AreApart, StandsBefore}
use Rattle.model_run.proofs.Whole.{joins_so}
use Rattle.model_run.proofs.Apart.{ReadSame, reads, took_same, stands_apart}
use Rattle.simplex_records.specs.Seats.{seat_of}
use Rattle.simplex_records.specs.Events as records
use Rattle.simplex_records.specs.Stands.{RecordsStand}
use Rattle.simplex_network.specs.declared.host.Host.{Host}
use Rattle.simplex_network.specs.declared.host.Host.TheVariants as hosts
use Rattle.simplex_network.specs.declared.network.Network.{Network}
use Rattle.simplex_network.specs.declared.task.Given.{Given}
use Rattle.simplex_network.specs.declared.task.Made.{Made}
use Rattle.simplex_network.specs.declared.task.Stage.{Stage}
use Rattle.simplex_network.specs.declared.task.Stage.TheVariants as stages
use Rattle.simplex_network.specs.declared.task.Task.{Task}
use Rattle.simplex_network.specs.Answer.{is_memory}
use Rattle.simplex_network.specs.Cuts.{IsLendable}
use Rattle.simplex_network.specs.declared.status.Status.{Status}
use Rattle.simplex_network.specs.Parts.{Part, Lives, part_in, goes_on, status_in, refusal_in, after_poll, IsPolled, changed}
use Rattle.simplex_network.proofs.Found.{part-goes}
use Rattle.simplex_network.specs.Polls.{EntersMade, as_run_error, noted_poll, unless, on_poll, IsOf, IsInput, named}
use Rattle.simplex_network.specs.Stands.{Keeps, StandsFor, HostStands, HostsStand, LivesAs, entered}
use Rattle.simplex_network.specs.Stages.{is_done, is_made}
use Rattle.simplex_network.specs.Lending.{Remembers, without, KeepsBut, StandsBut, Readies, Refrains, MayLend, Groups, Lends, Took, Declined, CameTo, IsDone, Comes, Makes, IsStepOf, ReadyAt, IsReady, SteppedAt, IsStepped, Steps, Returns, Declines, BackAdds, BackGives}
use Rattle.simplex_network.proofs.Polled.{poll-noted, poll-entered, poll-refused}
use Rattle.simplex_network.proofs.ManyHosts.{hosts-like}
use Rattle.simplex_network.proofs.Moves.{parts-live}
use Rattle.simplex_network.proofs.Senders.{senders-more}
use Rattle.simplex_network.proofs.Networks.{both_entries, at_seat, part-lives}

-- ---- where nothing is lent

pub remembers-of : (network : Network) (setting : Setting) (before : List Noted) → Keeps network setting before → Remembers network setting before
remembers-of network setting before s = record { given = s.given; genesis = s.genesis; alive = s.alive; clock = s.clock; records = s.records; senders = s.senders }

pub keeps-none : (network : Network) (setting : Setting) (before : List Noted) → Keeps network setting before → KeepsBut [] network setting before
keeps-none network setting before s =
    record {
      remembers = remembers-of network setting before s;
      hosts = hosts-like network.setup network.hosts.list.items (part_in setting before) (without [] (part_in setting before)) (λ node. refl) s.hosts;
    }

pub keeps-all : (network : Network) (setting : Setting) (before : List Noted) → KeepsBut [] network setting before → Keeps network setting before
keeps-all network setting before s =
    let r = s.remembers in
    record {
      given = r.given;
      genesis = r.genesis;
      alive = r.alive;
      clock = r.clock;
      hosts = hosts-like network.setup network.hosts.list.items (without [] (part_in setting before)) (part_in setting before) (λ node. refl) s.hosts;
      records = r.records;
      senders = r.senders;
    }

-- ---- a host is lent

pub remembers-same : (old new : Network) (setting : Setting) (before : List Noted) → new.setup ≡ old.setup → new.genesis ≡ old.genesis → new.failed ≡ old.failed → new.clock ≡ old.clock → new.records ≡ old.records
    → Remembers old setting before → Remembers new setting before
remembers-same old new setting before same_setup same_genesis same_failed same_clock same_records s =
    record {
      given = same_setup ∙ s.given;
      genesis = same_genesis ∙ s.genesis;
      alive = same_failed ∙ s.alive;
      clock = same_clock ∙ s.clock;
      records = rw same_records s.records;
      senders = s.senders;
    }

one_more : (node : Node) (lent : List Node) (parts : Node → Part) (other : Node) → changed node (Lives (Stopped [])) (without lent parts) other ≡ without (node ∷ lent) parts other
unfolding changed
one_more node lent parts other = by (is_same_node node other)
  where
    by : (b : Bool) → (if b then Lives (Stopped []) else if is_named lent other then Lives (Stopped []) else parts other)
        ≡ (if b || is_named lent other then Lives (Stopped []) else parts other)
    by true = refl
    by false = refl

pub keeps-lent : (old new : Network) (setting : Setting) (before : List Noted) (node : Node) (lent : List Node) → new.setup ≡ old.setup → new.genesis ≡ old.genesis → new.failed ≡ old.failed → new.clock ≡ old.clock
    → new.records ≡ old.records
    → ((setup : Setup) (parts : Node → Part) → HostsStand setup old.hosts.list.items parts → HostsStand setup new.hosts.list.items (changed node (Lives (Stopped [])) parts))
    → KeepsBut lent old setting before → KeepsBut (node ∷ lent) new setting before
keeps-lent old new setting before node lent same_setup same_genesis same_failed same_clock same_records lends s =
    record {
      remembers = remembers-same old new setting before same_setup same_genesis same_failed same_clock same_records s.remembers;
      hosts = rw same_setup (hosts-like old.setup new.hosts.list.items _ (without (node ∷ lent) (part_in setting before)) (one_more node lent (part_in setting before))
          (lends old.setup (without lent (part_in setting before)) s.hosts));
    }

not_lent : (node : Node) (lent : List Node) (parts : Node → Part) → is_named lent node ≡ false → without lent parts node ≡ parts node
not_lent node lent parts new = rw new refl

-- the host that is lent does its node's part
pub lent-does : (network : Network) (setting : Setting) (before : List Noted) (node : Node) (lent : List Node) (host : Host) → is_named lent node ≡ false
    → ((setup : Setup) (parts : Node → Part) → HostsStand setup network.hosts.list.items parts → HostStands setup node.member host (parts node))
    → KeepsBut lent network setting before → HostStands setting.setup node.member host (part_in setting before node)
lent-does network setting before node lent host new does s =
    subst (λ part. HostStands setting.setup node.member host part) (not_lent node lent (part_in setting before) new)
    (rw s.remembers.given at (does network.setup (without lent (part_in setting before)) s.hosts))

-- ---- it is taken back

parts_back : (node : Node) (lent : List Node) (part : Part) (olds news : Node → Part) → is_named lent node ≡ false → ((other : Node) → changed node part olds other ≡ news other)
    → (other : Node) → changed node part (without (node ∷ lent) olds) other ≡ without lent news other
unfolding changed
parts_back node lent part olds news new same other = by (is_same_node node other) refl (same other)
  where
    by : (b : Bool) → is_same_node node other ≡ b → (if b then part else olds other) ≡ news other
        → (if b then part else if b || is_named lent other then Lives (Stopped []) else olds other) ≡ (if is_named lent other then Lives (Stopped []) else news other)
    by true e is =
        let here = same_node node other e in
        let free : is_named lent other ≡ false = subst (λ (n : Node). is_named lent n ≡ false) here new in
        rw free is
    by false e is = ap (λ p. if is_named lent other then Lives (Stopped []) else p) is

as_it_was : (node : Node) (part : Part) (parts : Node → Part) → parts node ≡ part → (other : Node) → changed node part parts other ≡ parts other
unfolding changed
as_it_was node part parts is other = by (is_same_node node other) refl
  where
    by : (b : Bool) → is_same_node node other ≡ b → (if b then part else parts other) ≡ parts other
    by true e = (let here = same_node node other e in sym is ∙ ap parts here)
    by false e = refl

-- what is put back does this
abbrev pub Puts : Network → Network → Node → Host → Type 0
Puts old new node host =
    (setup : Setup) (parts : Node → Part) (part : Part) → HostsStand setup old.hosts.list.items parts → HostStands setup node.member host part
    → HostsStand setup new.hosts.list.items (changed node part parts)

-- a host that did nothing
pub back-rests : (old new : Network) (setting : Setting) (before : List Noted) (node : Node) (lent : List Node) (host : Host) (life : Life) → is_named lent node ≡ false
    → new.setup ≡ old.setup → new.genesis ≡ old.genesis → new.failed ≡ old.failed → new.clock ≡ old.clock → new.records ≡ old.records → KeepsBut (node ∷ lent) old setting before → LivesAs setting before node life
    → HostStands setting.setup node.member host (Lives life) → Puts old new node host → KeepsBut lent new setting before
back-rests old new setting before node lent host life free same_setup same_genesis same_failed same_clock same_records s lives stands puts =
    let r = s.remembers in
    let stood : HostsStand setting.setup old.hosts.list.items (without (node ∷ lent) (part_in setting before)) = rw r.given at s.hosts in
    record {
      remembers = remembers-same old new setting before same_setup same_genesis same_failed same_clock same_records r;
      hosts = rw (same_setup, r.given) (hosts-like setting.setup new.hosts.list.items _ (without lent (part_in setting before))
          (parts_back node lent (Lives life) (part_in setting before) (part_in setting before) free
          (as_it_was node (Lives life) (part_in setting before) (part-lives setting before node life lives)))
          (puts setting.setup (without (node ∷ lent) (part_in setting before)) (Lives life) stood stands));
    }

-- the entry of a step
pub back-entered : (old : Network) (setting : Setting) (before : List Noted) (event : Event) (node : Node) (life : Life) (given : Given) (now : ℕ) (host : Host) (made : Made) (entry : Entry)
    → Remembers old setting before → now ≡ clock_of before → Took setting.setup node.member life given now host made → EntersMade old.records old.setup node made entry
    → entered (on_poll setting.setup before event node given.input given.stop given.outside life) ≡ Ok entry
back-entered old setting before event node life given now host made entry s clock came enters =
    let entering : (did : Did) → did.out ≡ made.out → did.outcome ≡ made.polled.outcome
    → entry ≡ entry_with old.setup (length before + 1) node (option_or given.outside (option_and_then (named before node) made.polled.taken)) did =
    (λ did is ends. rw (← came.outside) (enters before did (rw s.given s.records) is ends)) in
    poll-entered setting.setup before event node given.input given.stop given.outside (option_and_then (named before node) made.polled.taken) entry now made.polled.outcome made.polled.taken made.out life clock
    came.gave refl (rw s.given at entering)

pub back-adds : (old new : Network) (setting : Setting) (before : List Noted) (event : Event) (noted : Noted) (node : Node) (lent : List Node) (life : Life) (given : Given) (now : ℕ) (host : Host)
    (made : Made) (entry : Entry) → node.half < 2 → node.member < members_of setting.setup → is_named lent node ≡ false
    → new.setup ≡ old.setup → new.genesis ≡ old.genesis → new.failed ≡ old.failed → new.clock ≡ old.clock
    → KeepsBut (node ∷ lent) old setting before → LivesAs setting before node life → now ≡ clock_of before → IsInput event node → Took setting.setup node.member life given now host made
    → on_poll setting.setup before event node given.input given.stop given.outside life ≡ Ok noted
    → entered (on_poll setting.setup before event node given.input given.stop given.outside life) ≡ Ok entry
    → Puts old new node host
    → ((before : List Noted) (noted : Noted) → noted.entry ≡ entry → records.IsOf noted.event (seat_of node) false → RecordsStand old.records old.setup before
    → RecordsStand new.records old.setup (noted ∷ before))
    → KeepsBut lent new setting (noted ∷ before)
back-adds old new setting before event noted node lent life given now host made entry half below free same_setup same_genesis same_failed same_clock s lives clock is came noted_is entry_is puts keeps =
    let r = s.remembers in
    let stood : HostsStand setting.setup old.hosts.list.items (without (node ∷ lent) (part_in setting before)) = rw r.given at s.hosts in
    let poll = poll-noted setting before event node given.input given.stop given.outside made.polled.outcome made.polled.taken made.out (clock_of before) life noted (rw clock at came.gave) noted_is in
    let of : IsOf noted.event node false = rw poll.same is.of in
    record {
      remembers = record {
        given = same_setup ∙ r.given;
        genesis = same_genesis ∙ r.genesis;
        alive = same_failed ∙ r.alive;
        clock = same_clock ∙ r.clock ∙ sym (is.time noted before poll.same);
        records = rw r.given at (keeps before noted (both_entries noted entry _ noted_is entry_is) (at_seat noted.event node false half of) (rw r.given r.records));
        senders = senders-more setting.setup before noted node below poll.from r.senders;
      };
      hosts = rw (same_setup, r.given) (hosts-like setting.setup new.hosts.list.items _ (without lent (part_in setting (noted ∷ before)))
          (parts_back node lent (Lives (after_poll given.input now given.stop life)) (part_in setting before) (part_in setting (noted ∷ before)) free
          (parts-live setting before noted node false (after_poll given.input now given.stop life) of lives.0
          (rw (lives.1, clock) (poll.goes (λ did. is.goes setting did life)))))
          (puts setting.setup (without (node ∷ lent) (part_in setting before)) (Lives (after_poll given.input now given.stop life)) stood came.stands));
    }

-- ---- a step of a host that was lent

-- what was refused
pub came-refused : (setting : Setting) (before : List Noted) (node : Node) (life : Life) (given : Given) (task : Task) (error : RunError) → Comes setting before node life given task
    → task.stage ≡ stages.Refused error → is_memory error ≡ false → Declined setting.setup node.member life given task.host error
unfolding CameTo
came-refused setting before node life given task error comes is whole =
    subst (λ stage. CameTo setting.setup node.member life given task.now task.host stage) is comes.came whole

pub came-made : (setting : Setting) (before : List Noted) (node : Node) (life : Life) (given : Given) (task : Task) (made : Made) → Comes setting before node life given task
    → task.stage ≡ stages.Made made → Took setting.setup node.member life given task.now task.host made
unfolding CameTo
came-made setting before node life given task made comes is = subst (λ stage. CameTo setting.setup node.member life given task.now task.host stage) is comes.came

pub came-denies : (setting : Setting) (before : List Noted) (event : Event) (node : Node) (life : Life) (given : Given) (task : Task) (error : RunError) → Comes setting before node life given task
    → task.stage ≡ stages.Refused error → is_memory error ≡ false → on_poll setting.setup before event node given.input given.stop given.outside life ≡ Err error
came-denies setting before event node life given task error comes is whole =
    let d = came-refused setting before node life given task error comes is whole in
    poll-refused setting.setup before event node given.input given.stop given.outside d.reason life d.why ∙ ap (λ e. Err e) (sym d.is)

-- ---- the step of an event

-- what a step makes of a task that waits
stepped_at : (setting : Setting) (before : List Noted) (event : Event) (task : Task) (node : Node) (life : Life) (given : Given) → IsStepOf setting before event node life given
    → Comes setting before node life given task → (stage : Stage) → task.stage ≡ stage → is_done stage ≡ true → SteppedAt setting before event task stage
stepped_at setting before event task node life given of comes (stages.Given other) is done = cc
stepped_at setting before event task node life given of comes (stages.Made made) is done = (node, life, given, of, comes)
stepped_at setting before event task node life given of comes (stages.Refused error) is done =
    λ whole. of.is ∙ came-denies setting before event node life given task error comes is whole

steps_from : (old new : Task) (setting : Setting) (before : List Noted) (event : Event) → IsDone new → Makes old new → ((error : RunError) → old.stage ≡ stages.Refused error → new.stage ≡ stages.Refused error)
    → (stage : Stage) → old.stage ≡ stage → ReadyAt setting before event old stage → SteppedAt setting before event new new.stage
steps_from old new setting before event done makes stays (stages.Given given) is ready =
    stepped_at setting before event new ready.0 ready.1 given ready.2 (makes setting before ready.0 ready.1 given ready.3) new.stage refl done
steps_from old new setting before event done makes stays (stages.Made made) is ready = absurd ready
steps_from old new setting before event done makes stays (stages.Refused error) is ready =
    subst (SteppedAt setting before event new) (sym (stays error is)) ready

pub makes-steps : (old new : Task) → IsDone new → Makes old new → ((error : RunError) → old.stage ≡ stages.Refused error → new.stage ≡ stages.Refused error) → Steps old new
unfolding IsReady IsStepped
makes-steps old new done makes stays = λ setting before event ready. steps_from old new setting before event done makes stays old.stage refl ready

-- ---- an event is lent

pub lends-ready : (network : Network) (setting : Setting) (before : List Noted) (event : Event) (node : Node) (lent : List Node) (given : Given) (task : Task)
    → task.stage ≡ stages.Given given → task.now ≡ network.clock → node_stepped event ≡ Some node → IsInput event node → is_named lent node ≡ false → is_honest setting.setup node.member ≡ true
    → HostStands setting.setup node.member task.host (part_in setting before node) → KeepsBut lent network setting before → Readies network node event given → IsReady setting before event task
unfolding IsReady
lends-ready network setting before event node lent given task stage now steps input free honest does s readies =
    let r = readies setting before lent free s honest in
    subst (ReadyAt setting before event task) (sym stage) (
      node,
      r.0,
      record { steps = steps; input = input; is = r.2 },
      record {
        stage = stage;
        lives = r.1;
        now = now ∙ s.remembers.clock;
        stands = subst (λ part. HostStands setting.setup node.member task.host part) (part-lives setting before node r.0 r.1) does;
      },
    )

pub lends-refused : (setting : Setting) (before : List Noted) (event : Event) (task : Task) (error : RunError) → task.stage ≡ stages.Refused error
    → (is_memory error ≡ false → entry_of setting before event ≡ Err error) → IsReady setting before event task
unfolding IsReady
lends-refused setting before event task error stage refused = subst (ReadyAt setting before event task) (sym stage) refused

-- the network has lent its node
pub lends-stands : (old new : Network) (setting : Setting) (before : List Noted) (event : Event) (node : Node) (lent : List Node) → node_stepped event ≡ Some node → StandsBut lent old setting before
    → KeepsBut (node ∷ lent) new setting before → StandsBut (with_named lent (node_stepped event)) new setting before
lends-stands old new setting before event node lent steps s keeps =
    subst (λ o. StandsBut (with_named lent o) new setting before) (sym steps) (record { keeps = keeps; good = s.good; ran = s.ran; typed = s.typed })

-- ---- an event is entered

noted_of : (entry : Entry) (r : Result Noted RunError) → entered r ≡ Ok entry → (noted : Noted) × (r ≡ Ok noted) × (noted.entry ≡ entry)
noted_of entry (Ok noted) is = (noted, refl, cc)
noted_of entry (Err error) is = absurd (cc)

same_some : {A : Type 0} (x y : A) → Some x ≡ Some y → x ≡ y
same_some x y e = cc

returns_at : (old new : Network) (event : Event) (task : Task) (entry : Entry) (node : Node) → node_stepped event ≡ Some node → IsTyped entry → BackAdds old new node task → BackGives old node task entry
    → (setting : Setting) (before : List Noted) (lent : List Node) → is_named lent node ≡ false → StandsBut (node ∷ lent) old setting before
    → (stage : Stage) → task.stage ≡ stage → is_made stage ≡ true → SteppedAt setting before event task stage
    → (noted : Noted) × (entry_of setting before event ≡ Ok noted) × (noted.entry ≡ entry) × StandsBut lent new setting (noted ∷ before)
unfolding IsRun
returns_at old new event task entry node steps fits adds gives setting before lent free s (stages.Given given) is made stepped = cc
returns_at old new event task entry node steps fits adds gives setting before lent free s (stages.Refused error) is made stepped = cc
returns_at old new event task entry node steps fits adds gives setting before lent free s (stages.Made made) is it stepped =
    let of = stepped.3 in
    let same : stepped.0 ≡ node = same_some stepped.0 node (sym of.steps ∙ steps) in
    let input : IsInput event node = subst (IsInput event) same of.input in
    let comes : Comes setting before node stepped.1 stepped.2 task = subst (λ n. Comes setting before n stepped.1 stepped.2 task) same stepped.4 in
    let polls : entry_of setting before event ≡ on_poll setting.setup before event node stepped.2.input stepped.2.stop stepped.2.outside stepped.1 =
    subst (λ n. entry_of setting before event ≡ on_poll setting.setup before event n stepped.2.input stepped.2.stop stepped.2.outside stepped.1) same of.is in
    let noted = noted_of entry _ (gives setting before event stepped.1 stepped.2 s.keeps.remembers comes) in (
      noted.0,
      polls ∙ noted.1,
      noted.2,
      record {
        keeps = adds setting before lent event noted.0 stepped.1 stepped.2 free s.keeps input comes noted.1;
        good = s.good;
        ran = ran_on setting before event noted.0 (polls ∙ noted.1) s.ran;
        typed = (subst IsTyped (sym noted.2) fits, s.typed);
      },
    )
  where
    ran_on : (setting : Setting) (before : List Noted) (event : Event) (noted : Noted) → entry_of setting before event ≡ Ok noted → IsRun setting before → IsRun setting (noted ∷ before)
    ran_on setting before event noted is ran = (event, is, ran)

pub enters-returns : (old new : Network) (event : Event) (task : Task) (entry : Entry) (node : Node) → node_stepped event ≡ Some node → IsTyped entry → is_made task.stage ≡ true
    → BackAdds old new node task → BackGives old node task entry → Returns old new event task entry
unfolding IsStepped
enters-returns old new event task entry node steps fits made adds gives =
    λ setting before n lent of free s stepped.
    let same : n ≡ node = same_some n node (sym of ∙ steps) in
    returns_at old new event task entry node steps fits adds gives setting before lent (subst (λ m. is_named lent m ≡ false) same free)
    (subst (λ m. StandsBut (m ∷ lent) old setting before) same s) task.stage refl made stepped

pub enters-declines : (network : Network) (event : Event) (task : Task) (error : RunError) → is_memory error ≡ false → task.stage ≡ stages.Refused error → Declines network event task error
unfolding IsStepped
enters-declines network event task error whole is =
    λ setting before node lent of s stepped. subst (SteppedAt setting before event task) is stepped whole

-- ---- events that stand apart

poll_same : (setting : Setting) (node : Node) (here before : List Noted) (event : Event) (input : Input) (stop : Stop) (outside : Option transcript.Took) (life : Life)
    → ReadSame setting node here before
    → on_poll setting.setup here event node input stop outside life ≡ put_at (length here + 1) (on_poll setting.setup before event node input stop outside life)
unfolding on_poll noted_poll unless
poll_same setting node here before event input stop outside (Stopped sections) same = refl
poll_same setting node here before event input stop outside (Running made past) same = by (refusal_of made past input)
  where
    noted_same : noted_poll setting.setup here event node input stop outside made past ≡ numbered (length here + 1) (noted_poll setting.setup before event node input stop outside made past)
    noted_same =
        let did = polled made past input (clock_of before) stop in
        ap (λ (now : ℕ). noted_with setting.setup here event node (option_or outside (took_of here node made past (polled made past input now stop))) (polled made past input now stop)) same.clock
        ∙ ap (λ took. noted_with setting.setup here event node (option_or outside took) did) (took_same node here before same.place made past did)

    by : (o : Option PollError) → unless o (noted_poll setting.setup here event node input stop outside made past)
        ≡ put_at (length here + 1) (unless o (noted_poll setting.setup before event node input stop outside made past))
    by None = ap (λ n. Ok n) noted_same
    by (Some error) = refl

apart_at : (setting : Setting) (before made : List Noted) (event : Event) (task : Task) → AreApart setting.setup event made → StandsBefore before event → (stage : Stage)
    → SteppedAt setting before event task stage → SteppedAt setting (made ++ before) event task stage
apart_at setting before made event task apart stands (stages.Given given) stepped = stepped
apart_at setting before made event task apart stands (stages.Refused error) stepped =
    λ whole. stands_apart setting before made event apart stands ∙ ap (put_at (length (made ++ before) + 1)) (stepped whole)
apart_at setting before made event task apart stands (stages.Made it) stepped =
    let node = stepped.0 in
    let life = stepped.1 in
    let given = stepped.2 in
    let of = stepped.3 in
    let comes = stepped.4 in
    let one : apart.node ≡ node = same_some apart.node node (sym apart.steps ∙ of.steps) in
    let same = reads setting node made before (subst (λ n. All (IsBeside n) made) one apart.beside) in (
      node,
      life,
      given,
      record {
        steps = of.steps;
        input = of.input;
        is = stands_apart setting before made event apart stands ∙ ap (put_at (length (made ++ before) + 1)) of.is
            ∙ sym (poll_same setting node (made ++ before) before event given.input given.stop given.outside life same);
      },
      record { lives = (comes.lives.0, same.life ∙ comes.lives.1); now = comes.now ∙ sym same.clock; came = comes.came },
    )

-- what a task made behind these entries, it made behind those of others of its group too
pub stepped-apart : (setting : Setting) (before made : List Noted) (event : Event) (task : Task) → AreApart setting.setup event made → StandsBefore before event
    → IsStepped setting before event task → IsStepped setting (made ++ before) event task
unfolding IsStepped
stepped-apart setting before made event task apart stands stepped = apart_at setting before made event task apart stands task.stage stepped

-- ---- which nodes are lent

pub stands-like : (lent other : List Node) (network : Network) (setting : Setting) (before : List Noted) → ((node : Node) → is_named lent node ≡ is_named other node)
    → StandsBut lent network setting before → StandsBut other network setting before
stands-like lent other network setting before same s =
    record {
      keeps = record {
        remembers = s.keeps.remembers;
        hosts = hosts-like network.setup network.hosts.list.items (without lent (part_in setting before)) (without other (part_in setting before))
            (λ node. ap (λ b. if b then Lives (Stopped []) else part_in setting before node) (same node)) s.keeps.hosts;
      };
      good = s.good;
      ran = s.ran;
      typed = s.typed;
    }

pub stands-none : (network : Network) (setting : Setting) (before : List Noted) → StandsFor network setting before → StandsBut [] network setting before
stands-none network setting before s = record { keeps = keeps-none network setting before s.keeps; good = s.good; ran = s.ran; typed = s.typed }

pub stands-all : (network : Network) (setting : Setting) (before : List Noted) → StandsBut [] network setting before → StandsFor network setting before
stands-all network setting before s = record { keeps = keeps-all network setting before s.keeps; good = s.good; ran = s.ran; typed = s.typed }

-- what is left where a host is lent
pub away-empty : (setup : Setup) (member : ℕ) → HostStands setup member hosts.Away (Lives (Stopped []))
unfolding HostStands
away-empty setup member = refl

-- what may be lent steps a node that exists
pub may-lend : (network : Network) (event : Event) (node : Node) → MayLend network event → node_stepped event ≡ Some node → is_node network.setup node ≡ true
may-lend network event node may steps = subst (λ n. is_node network.setup n ≡ true) (same_some may.node node (sym may.steps ∙ steps)) may.exists

-- and stays so
pub may-still : (old new : Network) (event : Event) → new.setup ≡ old.setup → MayLend old event → MayLend new event
may-still old new event same may = record { node = may.node; steps = may.steps; exists = rw same may.exists; honest = rw same may.honest }

-- an event that joins steps a node of an honest member, which is not lent
pub record JoinsAs (setup : Setup) (lent : List Node) (node : Node) : Type 0 where
  pub free : is_named lent node ≡ false
  pub honest : is_honest setup node.member ≡ true

pub lent-joins : (setup : Setup) (before : List Noted) (lent : List Node) (event : Event) (node : Node) → node_stepped event ≡ Some node → joins setup before lent event ≡ true → JoinsAs setup lent node
lent-joins setup before lent event node steps fits =
    let j = joins_so setup before lent event fits in
    let same : j.node ≡ node = same_some j.node node (sym j.steps ∙ steps) in
    record { free = subst (λ n. is_named lent n ≡ false) same j.new; honest = subst (λ (n : Node). is_honest setup n.member ≡ true) same j.honest }

-- the event is lent, and waits
pub lends-given : (old new : Network) (event : Event) (node : Node) (given : Given) (task : Task) → node_stepped event ≡ Some node → IsInput event node → task.stage ≡ stages.Given given
    → task.now ≡ old.clock
    → ((setting : Setting) (before : List Noted) (lent : List Node) → KeepsBut lent old setting before → KeepsBut (node ∷ lent) new setting before)
    → ((setting : Setting) (before : List Noted) (lent : List Node) → is_named lent node ≡ false → KeepsBut lent old setting before → HostStands setting.setup node.member task.host (part_in setting before node))
    → Readies old node event given → Lends old new event task
lends-given old new event node given task steps input stage now lends does readies = λ setting before lent s fits.
    let j = lent-joins setting.setup before lent event node steps fits in (
      lends-stands old new setting before event node lent steps s (lends setting before lent s.keeps),
      lends-ready old setting before event node lent given task stage now steps input j.free j.honest (does setting before lent j.free s.keeps) s.keeps readies,
    )

-- or is refused
pub lends-barred : (old new : Network) (event : Event) (node : Node) (error : RunError) (task : Task) → node_stepped event ≡ Some node → task.stage ≡ stages.Refused error
    → ((setting : Setting) (before : List Noted) (lent : List Node) → KeepsBut lent old setting before → KeepsBut (node ∷ lent) new setting before)
    → (is_memory error ≡ false → Refrains old node event error) → Lends old new event task
lends-barred old new event node error task steps stage lends refrains = λ setting before lent s fits.
    let j = lent-joins setting.setup before lent event node steps fits in (
      lends-stands old new setting before event node lent steps s (lends setting before lent s.keeps),
      lends-refused setting before event task error stage (λ whole. refrains whole setting before lent j.free s.keeps j.honest),
    )

-- what a node that is not lent is at
pub status-among : (setting : Setting) (before : List Noted) (node : Node) (lent : List Node) (status : Status) → is_named lent node ≡ false
    → (goes_on (without lent (part_in setting before) node) ≡ true → status ≡ status_in (without lent (part_in setting before) node)) → status ≡ status_in (part_in setting before node)
status-among setting before node lent status free tells =
    subst (λ (p : Part). goes_on p ≡ true → status ≡ status_in p) (not_lent node lent (part_in setting before) free) tells (part-goes setting before node)

-- ---- the cut of a group

pub lendable-may : (network : Network) (events : List Event) → All (IsLendable network.setup) events → All (MayLend network) events
lendable-may network events all =
    All-weaker (IsLendable network.setup) (MayLend network)
    (λ event l. record { node = l.0; steps = l.1.steps; exists = l.1.exists; honest = l.1.honest }) events all

pub cut-groups : (network : Network) (events : List Event) (size : ℕ)
    → ((before : List Noted) → RecordsStand network.records network.setup before → take size events ≡ joined network.setup before [] events) → Groups network events size
cut-groups network events size cut = λ setting before s. rw s.keeps.given at (cut before (rw s.keeps.given s.keeps.records))

-- ---- what comes of what a host is given

pub took-it : (setup : Setup) (member : ℕ) (life : Life) (given : Given) (now : ℕ) (host : Host) (made : Made) → IsPolled life given.input now given.stop made.polled.outcome made.polled.taken made.out
    → made.outside ≡ given.outside → HostStands setup member host (Lives (after_poll given.input now given.stop life)) → CameTo setup member life given now host (stages.Made made)
unfolding CameTo
took-it setup member life given now host made gave outside stands = record { gave = gave; outside = outside; stands = stands }

pub declined-it : (setup : Setup) (member : ℕ) (life : Life) (given : Given) (now : ℕ) (host : Host) (error : RunError) (reason : PollError) → error ≡ as_run_error reason
    → (is_memory error ≡ false → refusal_in life given.input ≡ Some reason) → (is_memory error ≡ false → HostStands setup member host (Lives life))
    → CameTo setup member life given now host (stages.Refused error)
unfolding CameTo
declined-it setup member life given now host error reason is why stands = λ whole. record { reason = reason; is = is; why = why whole; stands = stands whole }

-- a task at another stage, whose host came to this
pub step-makes : (old new : Task) (given : Given) → old.stage ≡ stages.Given given → new.now ≡ old.now
    → ((setup : Setup) (member : ℕ) (life : Life) → HostStands setup member old.host (Lives life) → CameTo setup member life given old.now new.host new.stage) → Makes old new
step-makes old new given is now came = λ setting before node life g waits.
    let same : given ≡ g = same_given given g (sym is ∙ waits.stage) in
    record {
      lives = waits.lives;
      now = now ∙ waits.now;
      came = subst (λ (n : ℕ). CameTo setting.setup node.member life g n new.host new.stage) (sym now)
          (subst (λ x. CameTo setting.setup node.member life x old.now new.host new.stage) same (came setting.setup node.member life waits.stands));
    }
  where
    same_given : (a b : Given) → stages.Given a ≡ stages.Given b → a ≡ b
    same_given a b e = cc

-- a task that waits for nothing
pub step-rests : (old new : Task) → is_done old.stage ≡ true → Makes old new
step-rests old new done = λ setting before node life g waits. absurd (never (subst (λ s. is_done s ≡ true) waits.stage done))
  where
    never : false ≡ true → ⊥
    never e = cc

pub given-steps : (old new : Task) (given : Given) → old.stage ≡ stages.Given given → IsDone new → Makes old new → Steps old new
given-steps old new given is done makes = makes-steps old new done makes (λ error at. absurd (never error (sym is ∙ at)))
  where
    never : (error : RunError) → stages.Given given ≡ stages.Refused error → ⊥
    never error e = cc

pub rests-steps : (old new : Task) → is_done old.stage ≡ true → new.stage ≡ old.stage → IsDone new → Steps old new
rests-steps old new over same done = makes-steps old new done (step-rests old new over) (λ error at. same ∙ at)
