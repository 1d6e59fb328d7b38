-- In the record of a run an honest member's whole steps send the votes that are due.
use Rattle.std.proofs.Common.{◌≡◌, ℕ, ◌<◌, ◌==◌, ◌&&◌, ◌||◌, not, Bool, true, false, List, [], ◌∷◌, ◌++◌, map, length, Contains, Option, Some, None, Ok, refl, sym, ap, ◌∙◌, subst, inl, inr, arith, if◌then◌else◌}
use Rattle.std.specs.List.{filter_map, list_any, list_all}
use Rattle.std.specs.Option.{option_map_or}
use Rattle.std.specs.Str.{bytes_eq}
use Rattle.std.proofs.lemmas.List.{append_assoc}
use Rattle.simplex_values.specs.declared.plan.Channel.TheVariants as channels
use Rattle.simplex_wire.specs.declared.vote.Vote.{Vote}
use Rattle.simplex_wire.specs.declared.certificate.Certificate.{Certificate}
use Rattle.simplex_wire.specs.Message as format
use Rattle.simplex_mailbox.specs.Mail.{received}
use Rattle.simplex_messages.specs.declared.call.Call.{Call}
use Rattle.simplex_messages.specs.declared.call.Call.TheVariants as calls
use Rattle.simplex_messages.specs.declared.step.Outcome.{Outcome}
use Rattle.simplex_messages.specs.declared.step.Outcome.TheVariants as outcomes
use Rattle.simplex_messages.specs.declared.step.Stop.{Stop}
use Rattle.simplex_messages.specs.declared.step.StepOut.{StepOut}
use Rattle.simplex_messages.specs.declared.voter.Message as voter_message
use Rattle.simplex_transcript.specs.declared.entry.Entry.{Entry}
use Rattle.simplex_transcript.specs.declared.entry.Took.{Took}
use Rattle.simplex_transcript.specs.declared.entry.Took.TheVariants as tooks
use Rattle.simplex_transcript.specs.declared.event.Event.{Event}
use Rattle.simplex_transcript.specs.declared.event.Event.TheVariants as events
use Rattle.simplex_transcript.specs.declared.event.StepSource.{StepSource}
use Rattle.simplex_transcript.specs.declared.event.StepSource.TheVariants as sources
use Rattle.simplex_transcript.specs.declared.node.Node.{Node}
use Rattle.simplex_transcript.specs.declared.setup.Setup.{Setup}
use Rattle.simplex_transcript.specs.declared.setup.MemberKind.{MemberKind}
use Rattle.simplex_transcript.specs.declared.setup.MemberKind.TheVariants as kinds
use Rattle.model_rules.specs.Known.{Made}
use Rattle.model_steps.specs.Desk.{Doing}
use Rattle.model_steps.specs.Performed.{Performed, performed, whole}
use Rattle.model_steps.specs.Voter as voter
use Rattle.model_steps.specs.VoterLife.{Given}
use Rattle.model_steps.specs.Engine as engine
use Rattle.model_steps.specs.Engine.{EngineMade, Did, is_whole, voter_in, voter_past}
use Rattle.model_run.specs.Setting.{Setting}
use Rattle.model_run.specs.Kinds.{is_faulty, is_honest, has_engine, runs_engine, is_same_node}
use Rattle.model_run.specs.Life.{Noted, Life, Running, clock_of, is_of, life_in}
use Rattle.model_run.specs.Entries as entries
use Rattle.model_run.specs.Entries.{noted_with, noted_blank, packet_of, packets_of, entry_of}
use Rattle.std.specs.List.{slice_get}
use Rattle.law_member.specs.VoterVotes as member
use Rattle.law_member.specs.VoterVotes.{is_vote_packet, vote_packets, votes_by_rule}
use Rattle.law_run.specs.Complete.{node_named}
use Rattle.law_run.specs.Faulty.{faulty_of}
use Rattle.law_run.specs.Histories.{IsRun, AreFloors}
use Rattle.law_run.specs.Ruled.{votes_for, votes_due}
use Rattle.law_run.proofs.Events.{place_in, engine_at, step_gives}
use Rattle.law_run.proofs.Further.{same_self}
use Rattle.law_run.proofs.Members.{listed_faulty}
use Rattle.std.proofs.lemmas.Slice.Eq.{bytes_eq-Decides}
use Rattle.law_run.proofs.Ruling.{event_ruled}
use Rattle.law_run.proofs.AskedEvents.{entry_event}
use Rattle.law_run.proofs.Telling.{some_is}
use Rattle.law_requests.specs.Steps.{IsQuiet, IsVoters}
use Rattle.law_requests.specs.Turns.{HasStarted, HasHeard, HasStepped, WasAnswered, HasCrashed, IsTurnOf}
use Rattle.law_requests.proofs.Steps.{any_step}
use Rattle.law_requests.proofs.Turning.{entry_turns}
use Rattle.model_audit.specs.Taking as taking
use Rattle.model_audit.specs.Taking.{Taking}
use Rattle.model_audit.specs.Record.{record_entry}
use Rattle.model_audit.specs.Rebuilt.{rebuilt_entry, recorded}
use Rattle.model_audit.specs.Running.{is_done}
use Rattle.model_audit.specs.Reading.{Read, rules_at, read}
use Rattle.model_audit.specs.VotesDue.{vote_bytes, are_those, sends, is_of_voter, votes_at, sends_due}
use Rattle.model_audit.specs.Audit.{if_honest}
use Rattle.law_audit.specs.Recording.{IsTakenSo, IsRunningAs}
use Rattle.law_audit.proofs.Alike.{same_votes_due}
use Rattle.law_audit.proofs.Telling.{same_clock}
use Rattle.law_audit.proofs.Taken.{taking_read}
use Rattle.law_audit.proofs.Reading.{is_read}
use Rattle.law_audit.proofs.Following.{whole_out}
use Rattle.law_audit.proofs.Reaching.{read_running, read_rules}

-- ---- an honest member

honest_kind : (k : MemberKind) → not (is_faulty k) ≡ true → (is_faulty k ≡ false) × (has_engine k ≡ true)
honest_kind kinds.Honest e = (refl, refl)
honest_kind _ e = cc

honest_so : (o : Option MemberKind) → option_map_or (λ kind. not (is_faulty kind)) o false ≡ true → (option_map_or is_faulty o false ≡ false) × (option_map_or has_engine o false ≡ true)
honest_so None e = cc
honest_so (Some kind) e = honest_kind kind e

pub honest_runs : (setup : Setup) (m : ℕ) → is_honest setup m ≡ true → runs_engine setup m ≡ true
honest_runs setup m e = (honest_so (slice_get setup.members m) e).1

pub honest_listed : (setup : Setup) (m : ℕ) → is_honest setup m ≡ true → ¬ (Contains (faulty_of setup) m)
honest_listed setup m e listed = both (sym ((honest_so (slice_get setup.members m) e).0) ∙ listed_faulty setup m listed)
  where
    both : false ≡ true → ⊥
    both h = cc

-- ---- what goes out on the vote channel

call_bytes : Call → Option (List ℕ)
call_bytes (calls.Send channels.Vote to bytes) = Some bytes
call_bytes _ = None

packet_bytes : (setup : Setup) (node : Node) (cs : List Call) → filter_map vote_bytes (packets_of setup node cs) ≡ filter_map call_bytes cs
unfolding call_bytes
packet_bytes setup node [] = refl
packet_bytes setup node (calls.Send channels.Vote to bytes ∷ cs) = ap (λ xs. bytes ∷ xs) (packet_bytes setup node cs)
packet_bytes setup node (calls.Send channels.Certificate to bytes ∷ cs) = packet_bytes setup node cs
packet_bytes setup node (calls.Send channels.Resolver to bytes ∷ cs) = packet_bytes setup node cs
packet_bytes setup node (calls.Append section artifact ∷ cs) = packet_bytes setup node cs
packet_bytes setup node (calls.Sync section ∷ cs) = packet_bytes setup node cs
packet_bytes setup node (calls.Prune least ∷ cs) = packet_bytes setup node cs
packet_bytes setup node (calls.Report a ∷ cs) = packet_bytes setup node cs
packet_bytes setup node (calls.Relay payload plan ∷ cs) = packet_bytes setup node cs
packet_bytes setup node (calls.Block who why ∷ cs) = packet_bytes setup node cs

bytes_filtered : (cs : List Call) → filter_map call_bytes cs ≡ filter_map call_bytes (vote_packets cs)
unfolding call_bytes
bytes_filtered [] = refl
bytes_filtered (calls.Send channels.Vote to bytes ∷ cs) = ap (λ xs. bytes ∷ xs) (bytes_filtered cs)
bytes_filtered (calls.Send channels.Certificate to bytes ∷ cs) = bytes_filtered cs
bytes_filtered (calls.Send channels.Resolver to bytes ∷ cs) = bytes_filtered cs
bytes_filtered (calls.Append section artifact ∷ cs) = bytes_filtered cs
bytes_filtered (calls.Sync section ∷ cs) = bytes_filtered cs
bytes_filtered (calls.Prune least ∷ cs) = bytes_filtered cs
bytes_filtered (calls.Report a ∷ cs) = bytes_filtered cs
bytes_filtered (calls.Relay payload plan ∷ cs) = bytes_filtered cs
bytes_filtered (calls.Block who why ∷ cs) = bytes_filtered cs

bytes_sent : (vs : List Vote) → filter_map call_bytes (map member.packet_of vs) ≡ map format.vote.spelling vs
unfolding call_bytes
bytes_sent [] = refl
bytes_sent (v ∷ vs) = ap (λ xs. format.vote.spelling v ∷ xs) (bytes_sent vs)

-- the same bytes, each once

self_bytes : (xs : List ℕ) → bytes_eq xs xs ≡ true
self_bytes xs = (bytes_eq-Decides xs xs).1 refl

or_either : (b : Bool) → (b || true) ≡ true
or_either true = refl
or_either false = refl

any_there : (first : List (List ℕ)) (x : List ℕ) (rest : List (List ℕ)) → list_any (bytes_eq x) (first ++ x ∷ rest) ≡ true
any_there [] x rest = ap (λ b. b || list_any (bytes_eq x) rest) (self_bytes x)
any_there (y ∷ first) x rest = ap (λ b. bytes_eq x y || b) (any_there first x rest) ∙ or_either (bytes_eq x y)

all_there : (first xs : List (List ℕ)) → list_all (λ bytes. list_any (bytes_eq bytes) (first ++ xs)) xs ≡ true
all_there first [] = refl
all_there first (x ∷ xs) =
    ap (λ b. b && list_all (λ bytes. list_any (bytes_eq bytes) (first ++ x ∷ xs)) xs) (any_there first x xs)
    ∙ ap (λ all. list_all (λ bytes. list_any (bytes_eq bytes) all) xs) (sym (append_assoc first (x ∷ []) xs)) ∙ all_there (first ++ x ∷ []) xs

those_same : (xs : List (List ℕ)) → are_those xs xs ≡ true
those_same xs = ap (λ b. b && list_all (λ bytes. list_any (bytes_eq bytes) xs) xs) (same_number (length xs)) ∙ all_there [] xs
  where
    same_number : (n : ℕ) → (n == n) ≡ true
    same_number n = grind arith

-- an entry whose votes are these sends them
module _ (setting : Setting) (before : List Noted) (event : Event) (node : Node) (took : Option Took) (did : Did) where
  abbrev told_entry : Entry
  told_entry = rebuilt_entry (record_entry (noted_with setting.setup before event node took did).entry)

  sends_these : (vs : List Vote) → vote_packets did.out.calls ≡ map member.packet_of vs → sends told_entry vs ≡ true
  unfolding rebuilt_entry record_entry
  sends_these vs e =
      ap (are_those (map format.vote.spelling vs)) (packet_bytes setting.setup node did.out.calls ∙ bytes_filtered did.out.calls ∙ ap (filter_map call_bytes) e ∙ bytes_sent vs)
      ∙ those_same (map format.vote.spelling vs)

due_if : (a b x : Bool) → (a ≡ true → b ≡ true → x ≡ true) → (not (a && b) || x) ≡ true
due_if true true x h = h refl refl
due_if true false x h = refl
due_if false b x h = refl

due_then : (b x : Bool) → (b ≡ true → x ≡ true) → (not b || x) ≡ true
due_then true x h = h refl
due_then false x h = refl

done_whole : (o : Outcome) → is_done o ≡ true → is_whole o ≡ true
done_whole outcomes.Done e = refl
done_whole outcomes.Idle e = refl
done_whole outcomes.Journal e = cc
done_whole outcomes.Cut e = cc
done_whole outcomes.Refused e = refl

idle_undone : (o : Outcome) → o ≡ outcomes.Idle → is_done o ≡ true → ⊥
idle_undone outcomes.Done e d = cc
idle_undone outcomes.Idle e d = cc
idle_undone outcomes.Journal e d = cc
idle_undone outcomes.Cut e d = cc
idle_undone outcomes.Refused e d = cc

-- ---- the events of one honest node

module _ (setting : Setting) (node : Node) (honest : is_honest setting.setup node.member ≡ true) (before : List Noted) (pos : 0 < setting.setup.term) (ran : IsRun setting before) (floors : AreFloors before) where
  abbrev about : List Noted
  about = map recorded before

  good : runs_engine setting.setup node.member ≡ true
  good = honest_runs setting.setup node.member honest

  -- what goes out is by rule
  abbrev Ruled : Noted → Type 0
  Ruled noted = is_of node noted.event ≡ true → is_whole noted.entry.outcome ≡ true → vote_packets noted.entry.calls ≡ map member.packet_of (votes_due (life_in setting before node) noted.did)

  abbrev Sends : Noted → Type 0
  Sends noted = node_named noted.event ≡ Some node → Ruled noted → sends_due setting about (rebuilt_entry (record_entry noted.entry)) node noted.event ≡ true

  self_other : (at : Node) → is_same_node at node ≡ false → Some at ≡ Some node → ⊥
  self_other at e f = both (sym (same_self node) ∙ ap (λ (x : Node). is_same_node x node) (sym (some_is at node f)) ∙ e)
    where
      both : true ≡ false → ⊥
      both h = cc

  sends_apart : (noted : Noted) (event : Event) → noted.event ≡ event → is_of node event ≡ false → node_named event ≡ Some node → sends_due setting about (rebuilt_entry (record_entry noted.entry)) node event ≡ true
  unfolding sends_due
  sends_apart noted (events.Start at floor stop) f e n = absurd (self_other at e n)
  sends_apart noted (events.Tick ms) f e n = refl
  sends_apart noted (events.Deliver at ref) f e n = refl
  sends_apart noted (events.Step at source stop) f e n = absurd (self_other at e n)
  sends_apart noted (events.Answer at ref answer) f e n = refl
  sends_apart noted (events.Crash at) f e n = refl
  sends_apart noted (events.Inject who channel to bytes) f e n = refl

  started : (noted : Noted) → HasStarted setting before node noted → Sends noted
  unfolding sends_due rebuilt_entry record_entry
  started noted b =
      let did = engine.begun (engine_at setting node b.floor b.sections) (clock_of before) b.stop in
      let event = events.Start node b.floor b.stop in
      subst Sends b.is
      (λ n ruled. due_then (is_done did.outcome) _
      (λ done. sends_these setting before event node (Some tooks.Floor) did [] (ruled (same_self node) (done_whole did.outcome done) ∙ ap (λ (l : Life). map member.packet_of (votes_due l (Some did))) b.stopped)))

  module _ (made : EngineMade) (past : List Did) (running : life_in setting before node ≡ Running made past) where
    abbrev r : Read
    r = read setting about node

    h : IsRunningAs setting node made past r
    h = read_running setting before node made past pos good ran floors running

    abbrev entry_for : StepSource → Stop → Did → Entry
    entry_for source stop did = told_entry setting before (events.Step node source stop) node (entries.took_of before node made past did) did

    -- the votes that are due by the record are those by the rules
    due_same : (source : StepSource) (stop : Stop) (did : Did) (v : IsVoters made past source (clock_of before) stop did) (d : Doing)
        → voter.stepped (voter_in made past).rules (clock_of before) (place_in made past).standing v.input ≡ Some d → is_whole did.outcome ≡ true
        → votes_at setting about (entry_for source stop did) node source ≡ votes_by_rule (voter_in made past).rules (clock_of before) (place_in made past).standing v.input
    unfolding rebuilt_entry record_entry
    due_same source stop did v d g w =
        let now = clock_of before in
        let s = (place_in made past).standing in
        let js = (place_in made past).sections in
        let rules = (voter_in made past).rules in
        let gives = step_gives (voter_in made past) (voter_past past) v.input now stop (Some d) g in
        let ends : did.outcome ≡ (performed stop d js).outcome = v.outcome ∙ ap (λ (x : Performed). x.outcome) gives in
        let out : did.out ≡ (whole d js).out = v.out ∙ ap (λ (x : Performed). x.out) gives ∙ whole_out d js stop (ap is_whole (sym ends) ∙ w) in
        let added : did.out.added ≡ d.added = ap (λ (x : StepOut). x.added) out in
        let t : IsTakenSo before node s source (entries.took_of before node made past did) v.input = taking_read setting before node made past source now stop did v d ran good running g in
        ap (λ (o : Option Taking). option_map_or (taking.votes_due (rules_at setting node r) (clock_of about) r.known did.out.added) o []) t.read
        ∙ ap (λ (m : Made). taking.votes_due m (clock_of about) r.known did.out.added t.taking) (read_rules setting node made past r h)
        ∙ ap (λ n. taking.votes_due rules n r.known did.out.added t.taking) (same_clock before)
        ∙ ap (λ (cs : List Certificate). taking.votes_due rules now r.known cs t.taking) added
        ∙ same_votes_due rules r.known s.desk.known h.known now d.added t.taking
        ∙ (is_read rules now v.input s d t.taking t.takes g).votes

    quiet_idle : (source : StepSource) (stop : Stop) → is_of_voter source ≡ true → IsQuiet (engine.stepped made past source (clock_of before) stop) → (engine.stepped made past source (clock_of before) stop).outcome ≡ outcomes.Idle
    unfolding engine.stepped
    quiet_idle sources.Batcher stop e q = cc
    quiet_idle sources.Voter stop e q = held (received (engine.voter_mail made past)) q
      where
        held : (o : Option voter_message.Message) → IsQuiet (engine.on_voter_mail made past (clock_of before) stop o) → (engine.on_voter_mail made past (clock_of before) stop o).outcome ≡ outcomes.Idle
        held None q = refl
        held (Some message) q = cc q.given
    quiet_idle sources.Timer stop e q = cc q.given
    quiet_idle sources.Propose stop e q = cc q.given
    quiet_idle sources.Verify stop e q = cc q.given
    quiet_idle sources.Certify stop e q = cc q.given
    quiet_idle sources.Resolver stop e q = cc
    quiet_idle sources.Handler stop e q = cc
    quiet_idle sources.Fetch stop e q = cc

    voters_send : (source : StepSource) (stop : Stop) (did : Did) → IsVoters made past source (clock_of before) stop did
        → (is_whole did.outcome ≡ true → vote_packets did.out.calls ≡ map member.packet_of (votes_due (life_in setting before node) (Some did))) → is_done did.outcome ≡ true
        → sends (entry_for source stop did) (votes_at setting about (entry_for source stop did) node source) ≡ true
    voters_send source stop did v ruled done = at (voter.stepped (voter_in made past).rules (clock_of before) (place_in made past).standing v.input) refl
      where
        at : (o : Option Doing) → voter.stepped (voter_in made past).rules (clock_of before) (place_in made past).standing v.input ≡ o
            → sends (entry_for source stop did) (votes_at setting about (entry_for source stop did) node source) ≡ true
        at None g = absurd (idle_undone did.outcome (v.outcome ∙ ap (λ (x : Performed). x.outcome) (step_gives (voter_in made past) (voter_past past) v.input (clock_of before) stop None g)) done)
        at (Some d) g =
            let w = done_whole did.outcome done in
            let vs = votes_by_rule (voter_in made past).rules (clock_of before) (place_in made past).standing v.input in
            let same = due_same source stop did v d g w in
            let sent : vote_packets did.out.calls ≡ map member.packet_of vs =
            ruled w ∙ ap (λ (l : Life). map member.packet_of (votes_due l (Some did))) running ∙ ap (λ (o : Option Given). map member.packet_of (votes_for made past o)) v.given in
            ap (sends (entry_for source stop did)) same ∙ sends_these setting before (events.Step node source stop) node (entries.took_of before node made past did) did vs sent

  stepped : (noted : Noted) → HasStepped setting before node noted → Sends noted
  unfolding sends_due rebuilt_entry record_entry
  stepped noted b =
      let now = clock_of before in
      let did = engine.stepped b.made b.past b.source now b.stop in
      subst Sends b.is
      (λ n ruled. due_if (is_of_voter b.source) (is_done did.outcome) _
      (λ voters done. elim (any_step b.made b.past b.source now b.stop) [
        | inl q ↦ absurd (idle_undone did.outcome (quiet_idle b.made b.past b.running b.source b.stop voters q) done)
        | inr v ↦ voters_send b.made b.past b.running b.source b.stop did v (ruled (same_self node)) done
      ]))

  heard : (noted : Noted) → HasHeard setting before node noted → Sends noted
  unfolding sends_due
  heard noted b = subst Sends b.is (λ n ruled. refl)

  replied : (noted : Noted) → WasAnswered setting before node noted → Sends noted
  unfolding sends_due
  replied noted b = subst Sends b.is (λ n ruled. refl)

  crashed : (noted : Noted) → HasCrashed setting before node noted → Sends noted
  unfolding sends_due
  crashed noted b = subst Sends b.is (λ n ruled. refl)

  turned : (noted : Noted) → IsTurnOf setting before node noted → Sends noted
  turned noted t = elim t [
    | inl e ↦ λ n ruled. sends_apart noted noted.event refl e n
    | inr a ↦ elim a [
      | inl s ↦ started noted s
      | inr b ↦ elim b [
        | inl h ↦ heard noted h
        | inr c ↦ elim c [
          | inl p ↦ stepped noted p
          | inr d ↦ elim d [
            | inl w ↦ replied noted w
            | inr z ↦ crashed noted z
          ]
        ]
      ]
    ]
  ]

  pub node_sends : (event : Event) (noted : Noted) → entry_of setting before event ≡ Ok noted → node_named noted.event ≡ Some node → sends_due setting about (rebuilt_entry (record_entry noted.entry)) node noted.event ≡ true
  node_sends event noted e n = turned noted (entry_turns setting before node good event noted e) n (λ of w. event_ruled setting before event noted node (honest_listed setting.setup node.member honest) e of w)

pub votes_sent : (setting : Setting) (before : List Noted) (event : Event) (noted : Noted) → 0 < setting.setup.term → IsRun setting before → AreFloors before → entry_of setting before event ≡ Ok noted
    → if_honest setting (node_named event) (λ node. sends_due setting (map recorded before) (rebuilt_entry (record_entry noted.entry)) node event) ≡ true
votes_sent setting before event noted pos ran floors e =
    subst (λ (x : Event). if_honest setting (node_named x) (λ node. sends_due setting (map recorded before) (rebuilt_entry (record_entry noted.entry)) node x) ≡ true) (entry_event setting before event noted e)
    (named (node_named noted.event) refl)
  where
    named : (o : Option Node) → node_named noted.event ≡ o → if_honest setting o (λ node. sends_due setting (map recorded before) (rebuilt_entry (record_entry noted.entry)) node noted.event) ≡ true
    named None n = refl
    named (Some node) n = tested (is_honest setting.setup node.member) refl
      where
        tested : (b : Bool) → is_honest setting.setup node.member ≡ b → (if b then sends_due setting (map recorded before) (rebuilt_entry (record_entry noted.entry)) node noted.event else true) ≡ true
        tested true honest = node_sends setting node honest before pos ran floors event noted e n
        tested false honest = refl
