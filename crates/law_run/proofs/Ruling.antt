-- The votes of a node are those that the rules give.
use Rattle.std.proofs.Common.{◌≡◌, ℕ, ◌-◌, ◌&&◌, nat_lt, nat_le, ◌==◌, Bool, true, false, List, [], ◌∷◌, ◌++◌, length, map, take, Option, Some, None, Ok, refl, sym, ap, ◌∙◌, subst, if◌then◌else◌, inl, inr, Contains}
use Rattle.std.specs.Option.{option_map, option_map_or}
use Rattle.simplex_values.specs.declared.plan.Channel.{Channel}
use Rattle.simplex_values.specs.declared.plan.Channel.TheVariants as channels
use Rattle.simplex_wire.specs.declared.certificate.Finalization.{Finalization}
use Rattle.simplex_types.specs.declared.floor.Floor.{Floor}
use Rattle.simplex_journal.specs.Journal.{Section, replayed}
use Rattle.simplex_mailbox.specs.Mail.{received}
use Rattle.simplex_messages.specs.declared.batcher.Message as batcher_message
use Rattle.simplex_messages.specs.declared.batcher.BatcherInput.{BatcherInput}
use Rattle.simplex_messages.specs.declared.batcher.BatcherInput.TheVariants as batcher_inputs
use Rattle.simplex_messages.specs.declared.call.Call.{Call}
use Rattle.simplex_messages.specs.declared.call.Call.TheVariants as calls
use Rattle.simplex_messages.specs.declared.handed.Handed.TheVariants as handed
use Rattle.simplex_messages.specs.declared.voter.Message as voter_message
use Rattle.simplex_messages.specs.declared.voter.VoterInput.{VoterInput}
use Rattle.simplex_messages.specs.declared.voter.VoterInput.TheVariants as voter_inputs
use Rattle.simplex_messages.specs.declared.step.Outcome.{Outcome}
use Rattle.simplex_messages.specs.declared.step.Outcome.TheVariants as outcomes
use Rattle.simplex_messages.specs.declared.step.Stop.{Stop}
use Rattle.simplex_messages.specs.declared.step.Stop.TheVariants as stops
use Rattle.simplex_messages.specs.declared.step.StepOut.{StepOut}
use Rattle.simplex_messages.specs.Step.{no_out}
use Rattle.simplex_transcript.specs.declared.entry.Took.TheVariants as tooks
use Rattle.simplex_transcript.specs.declared.event.Event.{Event}
use Rattle.simplex_transcript.specs.declared.event.Event.TheVariants as events
use Rattle.simplex_transcript.specs.declared.event.StepSource.{StepSource}
use Rattle.simplex_transcript.specs.declared.event.StepSource.TheVariants as sources
use Rattle.simplex_transcript.specs.declared.node.Node.{Node}
use Rattle.simplex_transcript.specs.declared.setup.Setup.{Setup}
use Rattle.model_rules.specs.Known.{Made}
use Rattle.model_rules.specs.Views.{current_of}
use Rattle.model_steps.specs.Desk.{Doing}
use Rattle.model_steps.specs.Performed.{Performed, stop_place, whole, broken, performed}
use Rattle.model_steps.specs.Voter as voter
use Rattle.model_steps.specs.VoterLife.{VoterMade, Place, Stepped, place_of, unread, before_reading, start_performed, step_given}
use Rattle.model_steps.specs.Batcher as batcher
use Rattle.model_steps.specs.Engine as engine
use Rattle.model_steps.specs.Engine.{EngineMade, Did, Taken, voter_in, voter_past, given_to_voter, is_whole, by_voter, by_batcher, cut_short}
use Rattle.model_run.specs.Setting.{Setting}
use Rattle.model_run.specs.Life.{Noted, Life, clock_of, is_of, life_in}
use Rattle.model_run.specs.Members.{is_same_node, floor_of, rules_of, engine_of}
use Rattle.model_run.specs.Entries.{noted_with, noted_blank, entry_of}
use Rattle.law_member.specs.VoterVotes.{vote_packets, packet_of, nullifies, votes_at_end, votes_by_rule}
use Rattle.law_member.specs.Syncs.{sends}
use Rattle.law_member.proofs.VoterStarting.{start_sound}
use Rattle.law_member.proofs.VoterStepping.{step_tells}
use Rattle.law_member.proofs.Wholly.{done_wholly}
use Rattle.law_run.specs.Sayings.{Each}
use Rattle.law_run.specs.Histories.{IsRun}
use Rattle.law_run.specs.Ruled.{votes_for, votes_due, AreByRule}
use Rattle.law_run.proofs.Letting.{heard_either}
use Rattle.law_run.proofs.Events.{never_idle, never_refused, engine_at, given_start, begun_gives, step_gives}
use Rattle.law_run.proofs.Further.{same_node}
use Rattle.law_run.proofs.Turns.{IsBeginning, IsTaken, IsGoing, IsCrash, entry_turn}
use Rattle.law_run.proofs.NodeQuiet.{AllHush, batcher_hush}
use Rattle.law_run.proofs.Telling.{Each-take}
use Rattle.std.specs.List.{list_all}
use Rattle.model_steps.specs.ResolverSteps.{is_call_of_resolver, IsOfResolver, IsApart}
use Rattle.model_steps.proofs.ResolverSteps.{heard_by_resolver, heard_apart, stepped_resolver, stepped_resolver_apart, stepped_handler, stepped_handler_apart, stepped_fetcher, stepped_fetcher_apart}
use Rattle.law_run.specs.Faulty.{faulty_of}

-- ---- calls among which no vote goes out

abbrev NoVote : Call → Type 0
NoVote (calls.Send channels.Vote to bytes) = ⊥
NoVote _ = Unit {0}

no_packets : (cs : List Call) → Each NoVote cs → vote_packets cs ≡ []
no_packets [] h = refl
no_packets (calls.Send channels.Vote to bytes ∷ cs) h = absurd h.0
no_packets (calls.Send channels.Certificate to bytes ∷ cs) h = no_packets cs h.1
no_packets (calls.Send channels.Resolver to bytes ∷ cs) h = no_packets cs h.1
no_packets (calls.Append n a ∷ cs) h = no_packets cs h.1
no_packets (calls.Sync n ∷ cs) h = no_packets cs h.1
no_packets (calls.Prune n ∷ cs) h = no_packets cs h.1
no_packets (calls.Report activity ∷ cs) h = no_packets cs h.1
no_packets (calls.Relay payload plan ∷ cs) h = no_packets cs h.1
no_packets (calls.Block who why ∷ cs) h = no_packets cs h.1

unsent : (cs : List Call) → sends cs ≡ [] → Each NoVote cs
unsent [] e = tt
unsent (calls.Send channel to bytes ∷ cs) e = cc
unsent (calls.Append n a ∷ cs) e = (tt, unsent cs e)
unsent (calls.Sync n ∷ cs) e = (tt, unsent cs e)
unsent (calls.Prune n ∷ cs) e = (tt, unsent cs e)
unsent (calls.Report activity ∷ cs) e = (tt, unsent cs e)
unsent (calls.Relay payload plan ∷ cs) e = (tt, unsent cs e)
unsent (calls.Block who why ∷ cs) e = (tt, unsent cs e)

hushed : (cs : List Call) → AllHush cs → Each NoVote cs
hushed [] h = tt
hushed (calls.Report activity ∷ cs) h = (tt, hushed cs h.1)
hushed (calls.Relay payload plan ∷ cs) h = (tt, hushed cs h.1)
hushed (calls.Block who why ∷ cs) h = (tt, hushed cs h.1)
hushed (calls.Append n a ∷ cs) h = absurd h.0
hushed (calls.Sync n ∷ cs) h = absurd h.0
hushed (calls.Prune n ∷ cs) h = absurd h.0
hushed (calls.Send channel to bytes ∷ cs) h = absurd h.0

-- ---- what an engine does

abbrev IsRuled : EngineMade → List Did → Did → Type 0
IsRuled made past did = is_whole did.outcome ≡ true → vote_packets did.out.calls ≡ map packet_of (votes_for made past (given_to_voter did))

quietly_ruled : (made : EngineMade) (past : List Did) (did : Did) → Each NoVote did.out.calls → given_to_voter did ≡ None → IsRuled made past did
quietly_ruled made past did h e t = no_packets did.out.calls h ∙ ap (λ g. map packet_of (votes_for made past g)) (sym e)

nothing_acted : (made : Made) (now : ℕ) (s : voter.Standing) (input : VoterInput) → voter.stepped made now s input ≡ None → votes_by_rule made now s input ≡ []
unfolding voter.stepped votes_by_rule
nothing_acted made now s input e = at (voter.acted made now s input) e
  where
    at : (o : Option (Doing × Option ℕ)) → option_map (voter.finished made now (current_of made s.desk.known)) o ≡ None
        → option_map_or (λ outcome. nullifies made s.desk.known input ++ votes_at_end made outcome) o [] ≡ []
    at None h = refl
    at (Some outcome) h = cc

done_is : (stop : Stop) (d : Doing) (js : List Section) (o : Outcome) → (performed stop d js).outcome ≡ o → is_whole o ≡ true → o ≡ outcomes.Done
done_is stop d js outcomes.Done e t = refl
done_is stop d js outcomes.Idle e t = absurd (never_idle stop d js e)
done_is stop d js outcomes.Refused e t = absurd (never_refused stop d js e)
done_is stop d js outcomes.Cut e t = cc
done_is stop d js outcomes.Journal e t = cc

voter_ruled : (made : EngineMade) (past : List Did) (taken : Taken) (input : VoterInput) (now : ℕ) (stop : Stop)
    → given_to_voter (by_voter taken now stop (step_given (voter_in made past) (voter_past past) input now stop)) ≡ Some (Stepped input now stop)
    → IsRuled made past (by_voter taken now stop (step_given (voter_in made past) (voter_past past) input now stop))
voter_ruled made past taken input now stop given t =
    at (voter.stepped v.rules now place.standing input) refl ∙ ap (λ g. map packet_of (votes_for made past g)) (sym given)
  where
    v : VoterMade
    v = voter_in made past

    place : Place
    place = place_of (voter_in made past) (voter_past past)

    at : (o : Option Doing) → voter.stepped v.rules now place.standing input ≡ o
        → vote_packets (step_given v (voter_past past) input now stop).out.calls ≡ map packet_of (votes_by_rule v.rules now place.standing input)
    at None e =
        ap (λ (x : Performed). vote_packets x.out.calls) (step_gives v (voter_past past) input now stop None e)
        ∙ ap (map packet_of) (sym (nothing_acted v.rules now place.standing input e))
    at (Some d) e =
        let gives = step_gives v (voter_past past) input now stop (Some d) e in
        let whole_is : is_whole (performed stop d place.sections).outcome ≡ true = subst (λ (x : Performed). is_whole x.outcome ≡ true) gives t in
        let done = done_is stop d place.sections (performed stop d place.sections).outcome refl whole_is in
        let tells = step_tells v.rules now input place.standing d e in
        ap (λ (x : Performed). vote_packets x.out.calls) (gives ∙ done_wholly stop d place.sections done) ∙ tells.packets

cut_unsent : (stop : Stop) (out : StepOut) → Each NoVote out.calls → Each NoVote (cut_short stop out).1.calls
cut_unsent stops.None out h = h
cut_unsent (stops.Fail call keep) out h = h
cut_unsent (stops.Cut call keep) out h = at (nat_lt 0 call && nat_le call (length out.calls))
  where
    pair : Bool → Outcome × StepOut
    pair b = if b then (outcomes.Cut, record no_out { calls = take (call - 1) out.calls }) else (outcomes.Done, out)

    at : (b : Bool) → Each NoVote (pair b).1.calls
    at true = Each-take NoVote (call - 1) out.calls h
    at false = h

batcher_unsent : (made : EngineMade) (past : List Did) (taken : Taken) (input : BatcherInput) (now : ℕ) (stop : Stop) → Each NoVote (by_batcher made past taken input now stop).out.calls
unfolding by_batcher
batcher_unsent made past taken input now stop =
    let given : batcher.Timed = record { input = input; now = now } in
    let out = batcher.step_out made.batcher (engine.batcher_past past) given in
    cut_unsent stop out (hushed out.calls (batcher_hush made.batcher (engine.batcher_past past) given).0)

-- a resolver sends no vote
unvoted : (cs : List Call) → list_all is_call_of_resolver cs ≡ true → Each NoVote cs
unvoted [] e = tt
unvoted (calls.Block who why ∷ cs) e = (tt, unvoted cs e)
unvoted (calls.Send channels.Resolver to bytes ∷ cs) e = (tt, unvoted cs e)
unvoted (calls.Send channels.Vote to bytes ∷ cs) e = cc
unvoted (calls.Send channels.Certificate to bytes ∷ cs) e = cc
unvoted (calls.Append n a ∷ cs) e = cc
unvoted (calls.Sync n ∷ cs) e = cc
unvoted (calls.Prune n ∷ cs) e = cc
unvoted (calls.Report a ∷ cs) e = cc
unvoted (calls.Relay payload plan ∷ cs) e = cc

resolver_ruled : (made : EngineMade) (past : List Did) (did : Did) → IsOfResolver did.out → IsApart did → IsRuled made past did
resolver_ruled made past did r apart = quietly_ruled made past did (unvoted did.out.calls r.calls) apart.voter

refused_or : (made : EngineMade) (past : List Did) (sender : ℕ) (channel : Channel) (bytes : List ℕ) (now : ℕ) → IsRuled made past (engine.let_in made past sender channel bytes now)
    → IsRuled made past (engine.heard made past sender channel bytes now)
refused_or made past sender channel bytes now l = heard_either (IsRuled made past) made past sender channel bytes now (λ t. refl) l

heard_ruled : (made : EngineMade) (past : List Did) (sender : ℕ) (channel : Channel) (bytes : List ℕ) (now : ℕ) → IsRuled made past (engine.heard made past sender channel bytes now)
unfolding engine.let_in by_batcher
heard_ruled made past sender channels.Vote bytes now =
    refused_or made past sender channels.Vote bytes now
    (quietly_ruled made past (by_batcher made past (engine.Heard sender channels.Vote bytes) (batcher_inputs.Vote sender bytes) now stops.None)
    (batcher_unsent made past (engine.Heard sender channels.Vote bytes) (batcher_inputs.Vote sender bytes) now stops.None) refl)
heard_ruled made past sender channels.Certificate bytes now =
    refused_or made past sender channels.Certificate bytes now
    (quietly_ruled made past (by_batcher made past (engine.Heard sender channels.Certificate bytes) (batcher_inputs.Certificate sender bytes) now stops.None)
    (batcher_unsent made past (engine.Heard sender channels.Certificate bytes) (batcher_inputs.Certificate sender bytes) now stops.None) refl)
heard_ruled made past sender channels.Resolver bytes now =
    resolver_ruled made past (engine.heard made past sender channels.Resolver bytes now) (heard_by_resolver made past sender bytes now) (heard_apart made past sender bytes now)

batcher_mail_ruled : (made : EngineMade) (past : List Did) (now : ℕ) (stop : Stop) (o : Option batcher_message.Message) → IsRuled made past (engine.on_batcher_mail made past now stop o)
unfolding by_batcher
batcher_mail_ruled made past now stop None = λ t. refl
batcher_mail_ruled made past now stop (Some message) =
    quietly_ruled made past (engine.on_batcher_mail made past now stop (Some message))
    (batcher_unsent made past (engine.Took sources.Batcher (Some (handed.Batcher message))) (batcher_inputs.Mail message) now stop) refl

voter_mail_ruled : (made : EngineMade) (past : List Did) (now : ℕ) (stop : Stop) (o : Option voter_message.Message) → IsRuled made past (engine.on_voter_mail made past now stop o)
voter_mail_ruled made past now stop None = λ t. refl
voter_mail_ruled made past now stop (Some message) = voter_ruled made past (engine.Took sources.Voter (Some (handed.Voter message))) (voter_inputs.Mail message) now stop refl

step_ruled : (made : EngineMade) (past : List Did) (source : StepSource) (now : ℕ) (stop : Stop) → IsRuled made past (engine.stepped made past source now stop)
unfolding engine.stepped
step_ruled made past sources.Batcher now stop = batcher_mail_ruled made past now stop (received (engine.batcher_mail made past))
step_ruled made past sources.Voter now stop = voter_mail_ruled made past now stop (received (engine.voter_mail made past))
step_ruled made past sources.Timer now stop = voter_ruled made past (engine.Took sources.Timer None) voter_inputs.Timer now stop refl
step_ruled made past sources.Propose now stop = voter_ruled made past (engine.Took sources.Propose None) voter_inputs.Propose now stop refl
step_ruled made past sources.Verify now stop = voter_ruled made past (engine.Took sources.Verify None) voter_inputs.Verify now stop refl
step_ruled made past sources.Certify now stop = voter_ruled made past (engine.Took sources.Certify None) voter_inputs.Certify now stop refl
step_ruled made past sources.Resolver now stop = resolver_ruled made past (engine.stepped made past sources.Resolver now stop) (stepped_resolver made past now stop) (stepped_resolver_apart made past now stop)
step_ruled made past sources.Handler now stop = resolver_ruled made past (engine.stepped made past sources.Handler now stop) (stepped_handler made past now stop) (stepped_handler_apart made past now stop)
step_ruled made past sources.Fetch now stop = resolver_ruled made past (engine.stepped made past sources.Fetch now stop) (stepped_fetcher made past now stop) (stepped_fetcher_apart made past now stop)

-- a start sends nothing
performed_unsent : (stop : Stop) (d : Doing) (js : List Section) → Each NoVote d.calls → Each NoVote (performed stop d js).out.calls
unfolding performed
performed_unsent stop d js h = at (stop_place stop d.calls)
  where
    at : (o : Option ℕ) → Each NoVote (option_map_or (broken stop d js) o (whole d js)).out.calls
    at None = h
    at (Some place) = Each-take NoVote place d.calls h

start_unsent : (stop : Stop) (floor : Floor) (d : Doing) (js : List Section) → Each NoVote d.calls → Each NoVote (start_performed stop floor d js).out.calls
unfolding start_performed
start_unsent stops.None floor d js h = performed_unsent stops.None d js h
start_unsent (stops.Cut call keep) floor d js h = performed_unsent (stops.Cut call keep) d js h
start_unsent (stops.Fail call keep) floor d js h = at (call == 1)
  where
    at : (b : Bool) → Each NoVote (if b then unread floor d keep js else performed (stops.Fail (call - 1) keep) d js).out.calls
    at true = Each-take NoVote (before_reading floor) d.calls h
    at false = performed_unsent (stops.Fail (call - 1) keep) d js h

begun_unsent : (setting : Setting) (node : Node) (floor : Option Finalization) (js : List Section) (now : ℕ) (stop : Stop) → vote_packets (engine.begun (engine_at setting node floor js) now stop).out.calls ≡ []
begun_unsent setting node floor js now stop =
    let f = floor_of setting.genesis floor in
    let rules = rules_of setting node.member now in
    let sound = start_sound rules now f (replayed js) in
    ap (λ (d : Did). vote_packets d.out.calls) (begun_gives setting node floor js now stop)
    ∙ no_packets (given_start setting node floor js now stop).out.calls (start_unsent stop f (voter.started rules now f (replayed js)) js (unsent (voter.started rules now f (replayed js)).calls sound.silent))

-- ---- an event

abbrev IsByRule : Life → Noted → Type 0
IsByRule l noted = is_whole noted.entry.outcome ≡ true → vote_packets noted.entry.calls ≡ map packet_of (votes_due l noted.did)

-- an event of the node, by its rule there
record Ruling (setting : Setting) (before : List Noted) (at : Node) (noted : Noted) : Type 0 where
  pub of : (node : Node) → is_of node noted.event ≡ is_same_node at node
  pub ruled : IsByRule (life_in setting before at) noted

by_ruling : (setting : Setting) (before : List Noted) (at node : Node) (noted : Noted) → Ruling setting before at noted → is_of node noted.event ≡ true → IsByRule (life_in setting before node) noted
by_ruling setting before at node noted r e = subst (λ n. IsByRule (life_in setting before n) noted) (same_node at node (sym (r.of node) ∙ e)) r.ruled

taken_ruled : (setup : Setup) (before : List Noted) (at : Node) (made : EngineMade) (past : List Did) (did : Did) → IsTaken setup before at made past did → IsRuled made past did
taken_ruled setup before at made past did t = elim t [
  | inl p ↦ subst (IsRuled made past) (sym p.is) (heard_ruled made past p.packet.from.member p.packet.channel p.packet.bytes (clock_of before))
  | inr other ↦ elim other [
    | inl s ↦ subst (IsRuled made past) (sym s.is) (step_ruled made past s.source (clock_of before) s.stop)
    | inr r ↦ subst (IsRuled made past) (sym r.is) (λ t. refl)
  ]
]

beginning_ruled : (setting : Setting) (before : List Noted) (event : Event) (noted : Noted) → (b : IsBeginning setting before event noted) → Ruling setting before b.at noted
beginning_ruled setting before event noted b =
    let did = engine.begun (engine_of setting b.at.member (floor_of setting.genesis b.floor) b.sections) (clock_of before) b.stop in
    let new = noted_with setting.setup before (events.Start b.at b.floor b.stop) b.at (Some tooks.Floor) did in
    subst (Ruling setting before b.at) b.is
    (record { of = λ node. refl; ruled = subst (λ l. IsByRule l new) (sym b.stopped) (λ t. begun_unsent setting b.at b.floor b.sections (clock_of before) b.stop) })

going_ruled : (setting : Setting) (before : List Noted) (event : Event) (noted : Noted) → (g : IsGoing setting before event noted) → Ruling setting before g.at noted
going_ruled setting before event noted g =
    let new = noted_with setting.setup before event g.at g.took g.did in
    subst (Ruling setting before g.at) g.is
    (record { of = g.of; ruled = subst (λ l. IsByRule l new) (sym g.running) (taken_ruled setting.setup before g.at g.made g.past g.did g.taken) })

crash_ruled : (setting : Setting) (before : List Noted) (event : Event) (noted : Noted) → (c : IsCrash setting before event noted) → Ruling setting before c.at noted
crash_ruled setting before event noted c =
    let new = noted_blank before (events.Crash c.at) (Some c.at) in
    subst (Ruling setting before c.at) c.is (record { of = λ node. refl; ruled = subst (λ l. IsByRule l new) (sym c.running) (λ t. refl) })

pub event_ruled : (setting : Setting) (before : List Noted) (event : Event) (noted : Noted) (node : Node) → ¬ (Contains (faulty_of setting.setup) node.member) → entry_of setting before event ≡ Ok noted → is_of node noted.event ≡ true → IsByRule (life_in setting before node) noted
event_ruled setting before event noted node honest e of = elim (entry_turn setting before event noted e) [
  | inl b ↦ by_ruling setting before b.at node noted (beginning_ruled setting before event noted b) of
  | inr other ↦ elim other [
    | inl g ↦ by_ruling setting before g.at node noted (going_ruled setting before event noted g) of
    | inr rest ↦ elim rest [
      | inl c ↦ by_ruling setting before c.at node noted (crash_ruled setting before event noted c) of
      | inr last ↦ elim last [
        | inl t ↦ (let never : is_of node (events.Tick t.ms) ≡ true = subst (λ (n : Noted). is_of node n.event ≡ true) (sym t.is) of in cc)
        | inr a ↦ absurd (both_ways (sym (a.honest node honest) ∙ of))
      ]
    ]
  ]
]
  where
    both_ways : false ≡ true → ⊥
    both_ways h = cc

pub run_by_rule : (setting : Setting) (noted : List Noted) (node : Node) → ¬ (Contains (faulty_of setting.setup) node.member) → IsRun setting noted → AreByRule setting node noted
unfolding IsRun AreByRule
run_by_rule setting [] node honest ran = tt
run_by_rule setting (noted ∷ before) node honest ran = (event_ruled setting before ran.0 noted node honest ran.1, run_by_rule setting before node honest ran.2)
