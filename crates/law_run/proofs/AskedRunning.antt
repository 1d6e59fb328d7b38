-- Along a run, what a node knows and asks.
use Rattle.std.proofs.Common.{◌≡◌, ℕ, ◌+◌, ◌-◌, ◌^◌, ◌==◌, ◌&&◌, ◌++◌, nat_lt, nat_le, Bool, true, false, List, [], ◌∷◌, length, take, Contains, Option, Some, None, Result, Ok, Err, refl, sym, ap, subst, ◌∙◌, inl, inr, ◌⊎◌, append-nil, if◌then◌else◌}
use Rattle.std.specs.List.{slice_get, list_all}
use Rattle.std.specs.Option.{IfSome, option_map, option_map_or}
use Rattle.std.proofs.lemmas.List.Elements.{Contains-append_cases}
use Rattle.simplex_values.specs.declared.answer.Answer.{Answer}
use Rattle.simplex_values.specs.declared.plan.Channel.{Channel}
use Rattle.simplex_values.specs.declared.plan.Channel.TheVariants as channels
use Rattle.simplex_values.specs.declared.proposal.Proposal.{Proposal}
use Rattle.simplex_values.specs.declared.proposal.Subject.TheVariants as subjects
use Rattle.simplex_wire.specs.declared.artifact.Artifact.{Artifact}
use Rattle.simplex_wire.specs.declared.artifact.Artifact.TheVariants as artifacts
use Rattle.simplex_wire.specs.declared.certificate.Finalization.{Finalization}
use Rattle.simplex_types.specs.declared.floor.Floor.{Floor}
use Rattle.model_rules.specs.declared.request.Asked.{Asked}
use Rattle.model_rules.specs.declared.request.ProposalState.{ProposalState}
use Rattle.model_rules.specs.Known.{Fact}
use Rattle.model_rules.specs.Pending.{Pending, Opened}
use Rattle.simplex_journal.specs.Journal.{Section, replayed}
use Rattle.simplex_mailbox.specs.Mail.{received}
use Rattle.simplex_messages.specs.declared.batcher.BatcherInput.{BatcherInput}
use Rattle.simplex_messages.specs.declared.batcher.BatcherInput.TheVariants as batcher_inputs
use Rattle.simplex_messages.specs.declared.batcher.Message as batcher_message
use Rattle.simplex_messages.specs.declared.call.Call.{Call}
use Rattle.simplex_messages.specs.declared.call.Call.TheVariants as calls
use Rattle.simplex_messages.specs.declared.handed.Handed.TheVariants as handed
use Rattle.simplex_messages.specs.declared.step.Outcome.{Outcome}
use Rattle.simplex_messages.specs.declared.step.Outcome.TheVariants as outcomes
use Rattle.simplex_messages.specs.declared.step.Stop.{Stop}
use Rattle.simplex_messages.specs.declared.step.Stop.TheVariants as stops
use Rattle.simplex_messages.specs.declared.step.StepOut.{StepOut}
use Rattle.simplex_messages.specs.Step.{no_out}
use Rattle.simplex_messages.specs.declared.voter.Message as voter_message
use Rattle.simplex_messages.specs.declared.voter.VoterInput.{VoterInput}
use Rattle.simplex_messages.specs.declared.voter.VoterInput.TheVariants as voter_inputs
use Rattle.simplex_transcript.specs.declared.entry.Packet.{Packet}
use Rattle.simplex_transcript.specs.declared.event.Event.{Event}
use Rattle.simplex_transcript.specs.declared.event.Event.TheVariants as events
use Rattle.simplex_transcript.specs.declared.event.StepSource.{StepSource}
use Rattle.simplex_transcript.specs.declared.event.StepSource.TheVariants as sources
use Rattle.simplex_transcript.specs.declared.node.Node.{Node}
use Rattle.simplex_transcript.specs.declared.node.Ref.{Ref}
use Rattle.simplex_transcript.specs.declared.refusal.RunError.{RunError}
use Rattle.model_steps.specs.Desk.{Doing}
use Rattle.model_steps.specs.Performed.{Performed, stop_place, stop_outcome, whole, broken, performed}
use Rattle.model_steps.specs.Voter as voter
use Rattle.model_steps.specs.Voter.{Standing}
use Rattle.model_steps.specs.VoterLife.{VoterMade, Place, Started, Stepped, Answered, place_of, start_at, rest, unread, before_reading, start_performed, step_given}
use Rattle.model_steps.specs.Batcher as batcher
use Rattle.model_steps.specs.Engine as engine
use Rattle.model_steps.specs.Engine.{EngineMade, Did, Began, started_at, given_to_voter, voter_in, voter_past, batcher_past, by_voter, runs, sections_of, cut_short, is_whole}
use Rattle.model_steps.specs.ResolverSteps.{is_call_of_resolver, IsOfResolver, IsApart}
use Rattle.model_steps.proofs.ResolverSteps.{heard_by_resolver, heard_apart, stepped_resolver, stepped_resolver_apart, stepped_handler, stepped_handler_apart, stepped_fetcher, stepped_fetcher_apart}
use Rattle.model_run.specs.Setting.{Setting}
use Rattle.model_run.specs.Kinds.{is_honest, runs_engine, members_of, is_node}
use Rattle.model_run.specs.Life.{Noted, Life, Stopped, Running, clock_of, is_of, going_on, sections_in, after, life_in}
use Rattle.model_run.specs.Members.{is_same_node, floor_of, rules_of, engine_of}
use Rattle.model_run.specs.Requests.{is_start, request_number, packet_for}
use Rattle.simplex_transcript.specs.declared.entry.Took.TheVariants as tooks
use Rattle.model_run.specs.Entries.{noted_with, noted_idle, is_own_floor, is_at_end, on_start, on_packet, on_deliver, on_step, on_request, on_answer, on_crash, on_hearing, by_engine, made_of}
use Rattle.model_run.proofs.Honest.{was_made}
use Rattle.law_member.specs.Life.{vote_in, voted}
use Rattle.law_agreement.proofs.ListFacts.{not_in_empty, Contains-cons_cases}
use Rattle.law_run.specs.Histories.{IsRun, IsStartAbove, AreFloors, calls_of}
use Rattle.law_run.specs.Sayings.{Each}
use Rattle.law_run.proofs.Letting.{heard_either, heard_no_start}
use Rattle.law_run.proofs.Speaking.{Each-append, Each-weaker}
use Rattle.law_run.proofs.Events.{place_in, engine_at, given_start, begun_gives, step_gives, place_same, place_then, step_place, idle_place}
use Rattle.law_run.proofs.Further.{same_self, same_node, life_then, life_still}
use Rattle.law_run.proofs.Nodes.{resolver_no_start, handler_no_start, fetcher_no_start}
use Rattle.law_run.proofs.NodeQuiet.{AllHush, batcher_hush}
use Rattle.law_run.proofs.Telling.{Each-take}
use Rattle.law_run.specs.Answers.{vouched_in}
use Rattle.law_run.specs.Asked.{asked_of}
use Rattle.law_run.specs.Answered.{IsAnsweredBy, AnswersFor, AllAnswersAre}
use Rattle.law_run.specs.Rooted.{IsRooted, AreRooted}
use Rattle.law_run.proofs.AskedListing.{place_front}
use Rattle.law_run.proofs.Asking as asking
use Rattle.law_run.proofs.Numbers.{number_names}
use Rattle.law_run.proofs.AskedStepping as stepping
use Rattle.law_run.proofs.AskedStepping.{CallFrom, FloorStands, start_fine, step_fine}

-- ---- what was asked so far grows

module _ (P : List ℕ → Type 0) (genesis : List ℕ) (earlier more : List Asked) where
  good_grown : (given : ℕ × Answer) → stepping.IsGood P genesis earlier given → stepping.IsGood P genesis (earlier ++ more) given
  good_grown given g = record { asked = g.asked; is = place_front earlier more given.0 g.asked g.is; good = g.good }

  given_grown : (known : List Fact) (o : Option Opened) → IfSome o (asking.IsAsked P genesis earlier known more) → IfSome o (asking.IsAsked P genesis (earlier ++ more) known [])
  given_grown known None h = tt
  given_grown known (Some v) h =
      record { context = h.context; proposal = h.proposal; asks = ap (λ (xs : List Asked). slice_get xs v.number) (append-nil (earlier ++ more)) ∙ h.asks; known_so = h.known_so }

  sound_grown : (known : List Fact) (p : Option Pending) (v : Option Opened) (opened : ℕ) → asking.IsSound P genesis earlier known p v more opened → asking.IsSound P genesis (earlier ++ more) known p v [] opened
  sound_grown known p v opened n =
      record { facts = n.facts; stands = n.stands; held = held p n.held; given = given_grown known v n.given; rooted = tt; count = n.count ∙ ap length (sym (append-nil (earlier ++ more))) }
    where
      held : (o : Option Pending) → asking.PendingFrom P genesis earlier o → asking.PendingFrom P genesis (earlier ++ more) o
      held None h = tt
      held (Some p) h = at p.state h
        where
          at : (s : ProposalState) → asking.StateFrom P genesis earlier s → asking.StateFrom P genesis (earlier ++ more) s
          at s k = k

-- ---- a step as it was made

module _ (P : List ℕ → Type 0) (genesis : List ℕ) where
  -- what it called was answered for; it asked what it would have, where it is whole, and else nothing
  record IsMade (d : Doing) (p : Performed) : Type 0 where
    pub calls : Each (CallFrom P) p.out.calls
    pub asked : Each (IsRooted genesis) p.out.asked
    pub all : is_whole p.outcome ≡ true → p.out.asked ≡ d.desk.asked

  module _ (earlier : List Asked) (d : Doing) (js : List Section) (a : stepping.AllFine P genesis earlier d) where
    made_whole : IsMade d (whole d js)
    made_whole = record { calls = a.calls; asked = (let n = a.desk in n.rooted); all = λ t. refl }

    made_broken : (stop : Stop) (place : ℕ) → is_whole (stop_outcome stop) ≡ false → IsMade d (broken stop d js place)
    made_broken stop place e = record { calls = Each-take (CallFrom P) place d.calls a.calls; asked = tt; all = λ t. absurd (never (sym e ∙ t)) }
      where
        never : false ≡ true → ⊥
        never e = cc

    made_at : (stop : Stop) (o : Option ℕ) → is_whole (stop_outcome stop) ≡ false → IsMade d (option_map_or (broken stop d js) o (whole d js))
    made_at stop None e = made_whole
    made_at stop (Some place) e = made_broken stop place e

    performed_made : (stop : Stop) → IsMade d (performed stop d js)
    unfolding performed stop_place
    performed_made stops.None = made_whole
    performed_made (stops.Cut call keep) = made_at (stops.Cut call keep) (stop_place (stops.Cut call keep) d.calls) refl
    performed_made (stops.Fail call keep) = made_at (stops.Fail call keep) (stop_place (stops.Fail call keep) d.calls) refl

    start_made : (stop : Stop) (floor : Floor) → IsMade d (start_performed stop floor d js)
    unfolding start_performed
    start_made stops.None floor = performed_made stops.None
    start_made (stops.Cut call keep) floor = performed_made (stops.Cut call keep)
    start_made (stops.Fail call keep) floor = at (call == 1)
      where
        at : (b : Bool) → IsMade d (if b then unread floor d keep js else performed (stops.Fail (call - 1) keep) d js)
        at true = record { calls = Each-take (CallFrom P) (before_reading floor) d.calls a.calls; asked = tt; all = λ t. cc }
        at false = performed_made (stops.Fail (call - 1) keep)

  -- ---- one turn of an engine

  record IsReadyEngine (earlier : List Asked) (made : EngineMade) (past : List Did) : Type 0 where
    pub rules : (start : ℕ) → (made.voter start).rules.genesis ≡ genesis
    pub ready : stepping.IsReady P genesis earlier (place_in made past).standing

  record IsTurned (earlier : List Asked) (made : EngineMade) (past : List Did) (did : Did) : Type 0 where
    pub calls : Each (CallFrom P) did.out.calls
    pub asked : Each (IsRooted genesis) did.out.asked
    pub ready : runs (did ∷ past) ≡ true → stepping.IsReady P genesis (earlier ++ did.out.asked) (place_in made (did ∷ past)).standing

  ready_rest : (earlier : List Asked) (d : Doing) (given : List (ℕ × Answer)) → stepping.AllFine P genesis earlier d → Each (stepping.IsGood P genesis earlier) given
      → stepping.IsReady P genesis (earlier ++ d.desk.asked) (rest d given)
  ready_rest earlier d given a g = record {
    quiet = refl;
    desk = sound_grown P genesis earlier d.desk.asked d.desk.known d.desk.proposal d.desk.verify d.desk.opened a.desk;
    answers = Each-weaker (stepping.IsGood P genesis earlier) (stepping.IsGood P genesis (earlier ++ d.desk.asked)) (good_grown P genesis earlier d.desk.asked) given g;
  }

  same_asked : (earlier asked : List Asked) (s : Standing) → asked ≡ [] → stepping.IsReady P genesis earlier s → stepping.IsReady P genesis (earlier ++ asked) s
  same_asked earlier asked s e r = subst (λ (xs : List Asked). stepping.IsReady P genesis xs s) (sym (ap (λ (xs : List Asked). earlier ++ xs) e ∙ append-nil earlier)) r

  unseen_ready : (earlier : List Asked) (made : EngineMade) (did : Did) (past : List Did) → given_to_voter did ≡ None → engine.is_start did.taken ≡ false → did.out.asked ≡ []
      → stepping.IsReady P genesis earlier (place_in made past).standing → stepping.IsReady P genesis (earlier ++ did.out.asked) (place_in made (did ∷ past)).standing
  unseen_ready earlier made did past n f e r =
      let p = place_same made did past n f in
      same_asked earlier did.out.asked (place_in made (did ∷ past)).standing e
      (subst (λ (q : Place). stepping.IsReady P genesis earlier q.standing) (sym (ap (λ v. place_of v (voter_past (did ∷ past))) p.0 ∙ ap (place_of (voter_in made past)) p.1)) r)

  module _ (earlier : List Asked) (made : EngineMade) (past : List Did) (h : IsReadyEngine earlier made past) where
    voter_turn : (did : Did) (input : VoterInput) (now : ℕ) (stop : Stop) → given_to_voter did ≡ Some (Stepped input now stop) → engine.is_start did.taken ≡ false
        → did.out ≡ (step_given (voter_in made past) (voter_past past) input now stop).out → did.outcome ≡ (step_given (voter_in made past) (voter_past past) input now stop).outcome → IsTurned earlier made past did
    unfolding runs
    voter_turn did input now stop n f out outcome = at (voter.stepped (voter_in made past).rules now (place_in made past).standing input) refl
      where
        p : (voter_in made (did ∷ past) ≡ voter_in made past) × (voter_past (did ∷ past) ≡ Stepped input now stop ∷ voter_past past)
        p = place_then made did past (Stepped input now stop) n f

        there : (asked : List Asked) (q : Place) → place_of (voter_in made past) (Stepped input now stop ∷ voter_past past) ≡ q → stepping.IsReady P genesis asked q.standing
            → stepping.IsReady P genesis asked (place_in made (did ∷ past)).standing
        there asked q same k = subst (λ (x : Place). stepping.IsReady P genesis asked x.standing) (sym (ap (λ v. place_of v (voter_past (did ∷ past))) p.0 ∙ ap (place_of (voter_in made past)) p.1 ∙ same)) k

        at : (o : Option Doing) → voter.stepped (voter_in made past).rules now (place_in made past).standing input ≡ o → IsTurned earlier made past did
        at None g =
            let gives = out ∙ ap (λ (x : Performed). x.out) (step_gives (voter_in made past) (voter_past past) input now stop None g) in
            record {
              calls = subst (λ (x : StepOut). Each (CallFrom P) x.calls) (sym gives) tt;
              asked = subst (λ (x : StepOut). Each (IsRooted genesis) x.asked) (sym gives) tt;
              ready = λ r. same_asked earlier did.out.asked (place_in made (did ∷ past)).standing (ap (λ (x : StepOut). x.asked) gives)
                  (there earlier (place_in made past) (idle_place (voter_in made past) (voter_past past) input now stop g) h.ready);
            }
        at (Some d) g =
            let js = (place_in made past).sections in
            let fine = step_fine P genesis earlier (voter_in made past).rules now (place_in made past).standing input d (h.rules (started_at past)) h.ready g in
            let m = performed_made earlier d js fine stop in
            let same = step_gives (voter_in made past) (voter_past past) input now stop (Some d) g in
            let gives = out ∙ ap (λ (x : Performed). x.out) same in
            let ends = outcome ∙ ap (λ (x : Performed). x.outcome) same in
            let later : Place = record { standing = rest d (place_in made past).standing.answers; sections = (performed stop d js).sections } in
            let k = h.ready in
            record {
              calls = subst (λ (x : StepOut). Each (CallFrom P) x.calls) (sym gives) m.calls;
              asked = subst (λ (x : StepOut). Each (IsRooted genesis) x.asked) (sym gives) m.asked;
              ready = λ r.
                  let asked : did.out.asked ≡ d.desk.asked = ap (λ (x : StepOut). x.asked) gives ∙ m.all (ap is_whole (sym ends) ∙ r) in
                  subst (λ (xs : List Asked). stepping.IsReady P genesis (earlier ++ xs) (place_in made (did ∷ past)).standing) (sym asked)
                  (there (earlier ++ d.desk.asked) later (step_place (voter_in made past) (voter_past past) input now stop d g) (ready_rest earlier d (place_in made past).standing.answers fine k.answers));
            }

    held_nothing : (source : StepSource) (now : ℕ) (stop : Stop) → given_to_voter (engine.nothing_held source now stop) ≡ None → IsTurned earlier made past (engine.nothing_held source now stop)
    held_nothing source now stop n =
        record { calls = tt; asked = tt; ready = λ r. unseen_ready earlier made (engine.nothing_held source now stop) past n refl refl h.ready }

    quiet_calls : (cs : List Call) → AllHush cs → Each (CallFrom P) cs
    quiet_calls [] q = tt
    quiet_calls (calls.Report a ∷ rest) q = (tt, quiet_calls rest q.1)
    quiet_calls (calls.Relay payload plan ∷ rest) q = (tt, quiet_calls rest q.1)
    quiet_calls (calls.Block who cause ∷ rest) q = (tt, quiet_calls rest q.1)
    quiet_calls (calls.Append n a ∷ rest) q = absurd q.0
    quiet_calls (calls.Sync n ∷ rest) q = absurd q.0
    quiet_calls (calls.Prune n ∷ rest) q = absurd q.0
    quiet_calls (calls.Send channel to bytes ∷ rest) q = absurd q.0

    cut_plain : (stop : Stop) (out : StepOut) → Each (CallFrom P) out.calls → out.asked ≡ [] → Each (CallFrom P) (cut_short stop out).1.calls × ((cut_short stop out).1.asked ≡ [])
    cut_plain stops.None out n e = (n, e)
    cut_plain (stops.Fail call keep) out n e = (n, e)
    cut_plain (stops.Cut call keep) out n e = at (nat_lt 0 call && nat_le call (length out.calls))
      where
        pair : Bool → Outcome × StepOut
        pair b = if b then (outcomes.Cut, record no_out { calls = take (call - 1) out.calls }) else (outcomes.Done, out)

        at : (b : Bool) → Each (CallFrom P) (pair b).1.calls × ((pair b).1.asked ≡ [])
        at true = (Each-take (CallFrom P) (call - 1) out.calls n, refl)
        at false = (n, e)

    batcher_turn : (taken : engine.Taken) (input : BatcherInput) (now : ℕ) (stop : Stop)
        → ((n : ℕ) (s : Stop) (o : Outcome) (out : StepOut) → (given_to_voter (engine.did_of taken n s o out) ≡ None) × (engine.is_start taken ≡ false)) → IsTurned earlier made past (engine.by_batcher made past taken input now stop)
    unfolding engine.by_batcher batcher.step_out
    batcher_turn taken input now stop unseen =
        let given : batcher.Timed = record { input = input; now = now } in
        let out = batcher.step_out made.batcher (batcher_past past) given in
        let did = engine.by_batcher made past taken input now stop in
        let cut = cut_plain stop out (quiet_calls out.calls (batcher_hush made.batcher (batcher_past past) given).0) refl in
        record {
          calls = cut.0;
          asked = subst (Each (IsRooted genesis)) (sym cut.1) tt;
          ready = λ r. unseen_ready earlier made did past (unseen did.now did.stop did.outcome did.out).0 (unseen did.now did.stop did.outcome did.out).1 cut.1 h.ready;
        }

    resolver_calls : (cs : List Call) → list_all is_call_of_resolver cs ≡ true → Each (CallFrom P) cs
    resolver_calls [] e = tt
    resolver_calls (calls.Block who cause ∷ cs) e = (tt, resolver_calls cs e)
    resolver_calls (calls.Send channels.Resolver to bytes ∷ cs) e = (tt, resolver_calls cs e)
    resolver_calls (calls.Send channels.Vote to bytes ∷ cs) e = cc
    resolver_calls (calls.Send channels.Certificate to bytes ∷ cs) e = cc
    resolver_calls (calls.Append n a ∷ cs) e = cc
    resolver_calls (calls.Sync n ∷ cs) e = cc
    resolver_calls (calls.Prune n ∷ cs) e = cc
    resolver_calls (calls.Report a ∷ cs) e = cc
    resolver_calls (calls.Relay payload plan ∷ cs) e = cc

    resolver_turn : (did : Did) → IsOfResolver did.out → IsApart did → engine.is_start did.taken ≡ false → IsTurned earlier made past did
    resolver_turn did r apart no_start =
        record {
          calls = resolver_calls did.out.calls r.calls;
          asked = subst (Each (IsRooted genesis)) (sym r.asked) tt;
          ready = λ t. unseen_ready earlier made did past apart.voter no_start r.asked h.ready;
        }

    batcher_step : (now : ℕ) (stop : Stop) (o : Option batcher_message.Message) → IsTurned earlier made past (engine.on_batcher_mail made past now stop o)
    batcher_step now stop None = held_nothing sources.Batcher now stop refl
    batcher_step now stop (Some message) = batcher_turn (engine.Took sources.Batcher (Some (handed.Batcher message))) (batcher_inputs.Mail message) now stop (λ n s o out. (refl, refl))

    voter_step : (now : ℕ) (stop : Stop) (o : Option voter_message.Message) → IsTurned earlier made past (engine.on_voter_mail made past now stop o)
    voter_step now stop None = held_nothing sources.Voter now stop refl
    voter_step now stop (Some message) = voter_turn (engine.on_voter_mail made past now stop (Some message)) (voter_inputs.Mail message) now stop refl refl refl refl

    own_step : (source : StepSource) (input : VoterInput) (now : ℕ) (stop : Stop) → given_to_voter (engine.on_voter made past source input now stop) ≡ Some (Stepped input now stop)
        → IsTurned earlier made past (engine.on_voter made past source input now stop)
    own_step source input now stop q = voter_turn (engine.on_voter made past source input now stop) input now stop q refl refl refl

    any_step : (source : StepSource) (now : ℕ) (stop : Stop) → IsTurned earlier made past (engine.stepped made past source now stop)
    unfolding engine.stepped
    any_step sources.Batcher now stop = batcher_step now stop (received (engine.batcher_mail made past))
    any_step sources.Voter now stop = voter_step now stop (received (engine.voter_mail made past))
    any_step sources.Timer now stop = own_step sources.Timer voter_inputs.Timer now stop refl
    any_step sources.Propose now stop = own_step sources.Propose voter_inputs.Propose now stop refl
    any_step sources.Verify now stop = own_step sources.Verify voter_inputs.Verify now stop refl
    any_step sources.Certify now stop = own_step sources.Certify voter_inputs.Certify now stop refl
    any_step sources.Resolver now stop = resolver_turn (engine.stepped made past sources.Resolver now stop) (stepped_resolver made past now stop) (stepped_resolver_apart made past now stop) (resolver_no_start made past now stop)
    any_step sources.Handler now stop = resolver_turn (engine.stepped made past sources.Handler now stop) (stepped_handler made past now stop) (stepped_handler_apart made past now stop) (handler_no_start made past now stop)
    any_step sources.Fetch now stop = resolver_turn (engine.stepped made past sources.Fetch now stop) (stepped_fetcher made past now stop) (stepped_fetcher_apart made past now stop) (fetcher_no_start made past now stop)

    refused_step : (sender : ℕ) (channel : Channel) (bytes : List ℕ) (now : ℕ) → IsTurned earlier made past (engine.refused sender channel bytes now)
    refused_step sender channel bytes now =
        record { calls = tt; asked = tt; ready = λ r. unseen_ready earlier made (engine.refused sender channel bytes now) past refl refl refl h.ready }

    refused_or : (sender : ℕ) (channel : Channel) (bytes : List ℕ) (now : ℕ) → IsTurned earlier made past (engine.let_in made past sender channel bytes now)
        → IsTurned earlier made past (engine.heard made past sender channel bytes now)
    refused_or sender channel bytes now l = heard_either (IsTurned earlier made past) made past sender channel bytes now (refused_step sender channel bytes now) l

    heard_step : (sender : ℕ) (channel : Channel) (bytes : List ℕ) (now : ℕ) → IsTurned earlier made past (engine.heard made past sender channel bytes now)
    unfolding engine.let_in
    heard_step sender channels.Vote bytes now =
        refused_or sender channels.Vote bytes now (batcher_turn (engine.Heard sender channels.Vote bytes) (batcher_inputs.Vote sender bytes) now stops.None (λ n s o out. (refl, refl)))
    heard_step sender channels.Certificate bytes now =
        refused_or sender channels.Certificate bytes now (batcher_turn (engine.Heard sender channels.Certificate bytes) (batcher_inputs.Certificate sender bytes) now stops.None (λ n s o out. (refl, refl)))
    heard_step sender channels.Resolver bytes now =
        resolver_turn (engine.heard made past sender channels.Resolver bytes now) (heard_by_resolver made past sender bytes now) (heard_apart made past sender bytes now)
        (heard_no_start made past sender channels.Resolver bytes now)

    -- an answer that stands for such a payload waits for its step
    replied_turn : (number : ℕ) (answer : Answer) (now : ℕ) → stepping.IsGood P genesis earlier (number, answer) → IsTurned earlier made past (engine.replied number answer now)
    unfolding place_of voter.answered
    replied_turn number answer now g =
        let did = engine.replied number answer now in
        let s = (place_in made past).standing in
        let p = place_then made did past (Answered number answer) refl refl in
        record {
          calls = tt;
          asked = tt;
          ready = λ r. same_asked earlier [] (place_in made (did ∷ past)).standing refl
              (subst (λ (q : Place). stepping.IsReady P genesis earlier q.standing) (sym (ap (λ v. place_of v (voter_past (did ∷ past))) p.0 ∙ ap (place_of (voter_in made past)) p.1))
              (at (voter.takes_answer s number answer)));
        }
      where
        one : (p : Pending) (b : Bool) → asking.StateFrom P genesis earlier p.state → asking.StateFrom P genesis earlier (if b then record p { is_answered = true } else p).state
        one p true n = n
        one p false n = n

        marked : (o : Option Pending) → asking.PendingFrom P genesis earlier o → asking.PendingFrom P genesis earlier (option_map (voter.marked_answered number) o)
        marked None n = tt
        marked (Some p) n = one p (p.number == number) n

        at : (b : Bool) → (let s = (place_in made past).standing in stepping.IsReady P genesis earlier (if b
            then record {
              desk = record s.desk { proposal = option_map (voter.marked_answered number) s.desk.proposal };
              answers = s.answers ++ (number, answer) ∷ [];
            }
            else s))
        at true =
            let s = (place_in made past).standing in
            let r = h.ready in
            let k = r.desk in
            record {
              quiet = r.quiet;
              desk = asking.settled P genesis earlier s.desk.known s.desk.proposal (option_map (voter.marked_answered number) s.desk.proposal) s.desk.verify s.desk.asked s.desk.opened (marked s.desk.proposal k.held) k;
              answers = Each-append (stepping.IsGood P genesis earlier) s.answers ((number, answer) ∷ []) r.answers (g, tt);
            }
        at false = h.ready

-- ---- a start

rules_genesis : (setting : Setting) (member start : ℕ) → (rules_of setting member start).genesis ≡ setting.genesis
unfolding rules_of
rules_genesis setting member start = refl

engine_rules : (setting : Setting) (at : Node) (floor : Option Finalization) (js : List Section) (start : ℕ) → ((engine_at setting at floor js).voter start).rules.genesis ≡ setting.genesis
unfolding engine_of
engine_rules setting at floor js start = rules_genesis setting at.member start

floor_stands : (setting : Setting) (at : Node) (floor : Option Finalization) (stop : Stop) → IsStartAbove (events.Start at floor stop) → FloorStands setting.genesis (floor_of setting.genesis floor)
floor_stands setting at None stop above = refl
floor_stands setting at (Some f) stop above = above

module _ (P : List ℕ → Type 0) (setting : Setting) where
  start_ready : (made : VoterMade) (now : ℕ) (stop : Stop) → stepping.AllFine P setting.genesis [] (start_at made now made.sections)
      → is_whole (start_performed stop made.floor (start_at made now made.sections) made.sections).outcome ≡ true
      → stepping.IsReady P setting.genesis (start_at made now made.sections).desk.asked (place_of made (Started now stop ∷ [])).standing
  unfolding place_of start_performed
  start_ready made now stops.None a t = ready_rest P setting.genesis [] (start_at made now made.sections) [] a tt
  start_ready made now (stops.Cut call keep) a t = ready_rest P setting.genesis [] (start_at made now made.sections) [] a tt
  start_ready made now (stops.Fail call keep) a t = at (call == 1) t
    where
      at : (b : Bool) → is_whole (if b then unread made.floor (start_at made now made.sections) keep made.sections else performed (stops.Fail (call - 1) keep) (start_at made now made.sections) made.sections).outcome ≡ true
          → stepping.IsReady P setting.genesis (start_at made now made.sections).desk.asked (if b then (place_of made []).standing else rest (start_at made now made.sections) [])
      at true t = cc
      at false t = ready_rest P setting.genesis [] (start_at made now made.sections) [] a tt

  begun_turn : (at : Node) (floor : Option Finalization) (stop : Stop) (js : List Section) (now : ℕ) → FloorStands setting.genesis (floor_of setting.genesis floor)
      → IsTurned P setting.genesis [] (engine_at setting at floor js) [] (by_voter Began now stop (given_start setting at floor js now stop))
  unfolding started_at voter_past engine_of runs
  begun_turn at floor stop js now f =
      let made = (engine_at setting at floor js).voter now in
      let fine = start_fine P setting.genesis (rules_of setting at.member now) now (floor_of setting.genesis floor) (replayed js) (rules_genesis setting at.member now) f in
      let m = start_made P setting.genesis [] (start_at made now js) js fine stop (floor_of setting.genesis floor) in
      record {
        calls = m.calls;
        asked = m.asked;
        ready = λ r. subst (λ (xs : List Asked). stepping.IsReady P setting.genesis xs (place_of made (Started now stop ∷ [])).standing) (sym (m.all r)) (start_ready made now stop fine r);
      }

-- ---- the life of one node

module _ (P : List ℕ → Type 0) (setting : Setting) (node : Node) (good : runs_engine setting.setup node.member ≡ true) where
  abbrev IsReadyLife : List Asked → Life → Type 0
  IsReadyLife earlier (Stopped sections) = Unit {0}
  IsReadyLife earlier (Running made past) = IsReadyEngine P setting.genesis earlier made past

  unfoldable AreNodeRooted : List Noted → Type 0
  AreNodeRooted [] = Unit {0}
  AreNodeRooted (noted ∷ before) = (is_of node noted.event ≡ true → Each (IsRooted setting.genesis) noted.entry.asked) × AreNodeRooted before

  record IsGoingOn (noted : List Noted) : Type 0 where
    pub calls : Each (CallFrom P) (calls_of node noted)
    pub rooted : AreNodeRooted noted
    pub life : IsReadyLife (asked_of noted node) (life_in setting noted node)

  ready_on : (earlier : List Asked) (made : EngineMade) (past : List Did) → ((start : ℕ) → (made.voter start).rules.genesis ≡ setting.genesis)
      → (runs past ≡ true → stepping.IsReady P setting.genesis earlier (place_in made past).standing) → IsReadyLife earlier (going_on made past)
  ready_on earlier made past rules r = at (runs past) refl
    where
      at : (b : Bool) → runs past ≡ b → IsReadyLife earlier (if b then Running made past else Stopped (sections_of made past))
      at true e = record { rules = rules; ready = r e }
      at false e = tt

  module _ (before : List Noted) (old : IsGoingOn before) where
    still : (noted : Noted) → is_of node noted.event ≡ false → IsGoingOn (noted ∷ before)
    unfolding AreNodeRooted calls_of asked_of
    still noted e =
        record {
          calls = subst (λ b. Each (CallFrom P) (if b then calls_of node before ++ noted.entry.calls else calls_of node before)) (sym e) old.calls;
          rooted = (λ t. absurd (never (sym t ∙ e)), old.rooted);
          life = subst (IsReadyLife (asked_of (noted ∷ before) node)) (sym (life_still setting noted before node e))
              (subst (λ b. IsReadyLife (if b then (if is_start noted.event then noted.entry.asked else asked_of before node ++ noted.entry.asked) else asked_of before node) (life_in setting before node)) (sym e) old.life);
        }
      where
        never : true ≡ false → ⊥
        never e = cc

    goes : (noted : Noted) (s : Bool) → is_of node noted.event ≡ true → is_start noted.event ≡ s → Each (CallFrom P) noted.entry.calls → Each (IsRooted setting.genesis) noted.entry.asked
        → IsReadyLife (if s then noted.entry.asked else asked_of before node ++ noted.entry.asked) (after setting noted.event noted.did (life_in setting before node)) → IsGoingOn (noted ∷ before)
    unfolding AreNodeRooted calls_of asked_of
    goes noted s e f c a l =
        record {
          calls = subst (λ b. Each (CallFrom P) (if b then calls_of node before ++ noted.entry.calls else calls_of node before)) (sym e) (Each-append (CallFrom P) (calls_of node before) noted.entry.calls old.calls c);
          rooted = (λ t. a, old.rooted);
          life = subst (IsReadyLife (asked_of (noted ∷ before) node)) (sym (life_then setting noted before node e))
              (subst (λ b. IsReadyLife (if b then (if is_start noted.event then noted.entry.asked else asked_of before node ++ noted.entry.asked) else asked_of before node) (after setting noted.event noted.did (life_in setting before node))) (sym e)
              (subst (λ b. IsReadyLife (if b then noted.entry.asked else asked_of before node ++ noted.entry.asked) (after setting noted.event noted.did (life_in setting before node))) (sym f) l));
        }

    -- where the event is such, the run goes on
    abbrev Goes : Result Noted RunError → Type 0
    Goes (Ok noted) = IsStartAbove noted.event → AnswersFor P before node noted.event → IsGoingOn (noted ∷ before)
    Goes (Err error) = Unit {0}

    if_goes : (b : Bool) (x y : Result Noted RunError) → Goes x → Goes y → Goes (if b then x else y)
    if_goes true x y p q = p
    if_goes false x y p q = q

    engine_goes : (at : Node) (x y : Result Noted RunError) → Goes x → (runs_engine setting.setup at.member ≡ false → Goes y) → Goes (by_engine setting.setup at x y)
    engine_goes at x y p q = if_goes (is_node setting.setup at) _ _ (by (runs_engine setting.setup at.member) refl) tt
      where
        by : (b : Bool) → runs_engine setting.setup at.member ≡ b → Goes (if b then x else y)
        by true e = p
        by false e = q e

    -- of the node itself, or of another
    either_node : (at : Node) (Q : Node → Type 0) → Q node → (is_same_node at node ≡ false → Q at) → Q at
    either_node at Q p q = by (is_same_node at node) refl
      where
        by : (b : Bool) → is_same_node at node ≡ b → Q at
        by true e = subst Q (sym (same_node at node e)) p
        by false e = q e

    -- the node runs an engine, so nothing else happens to it
    never_without : (at : Node) (y : Result Noted RunError) → (is_same_node at node ≡ false → Goes y) → runs_engine setting.setup at.member ≡ false → Goes y
    never_without at y q none = by (is_same_node at node) refl
      where
        by : (b : Bool) → is_same_node at node ≡ b → Goes y
        by true e = absurd (never (sym good ∙ sym (ap (λ (n : Node). runs_engine setting.setup n.member) (same_node at node e)) ∙ none))
          where
            never : true ≡ false → ⊥
            never e = cc
        by false e = q e

    -- one more turn of the running engine
    turn_goes : (made : EngineMade) (past : List Did) (noted : Noted) (did : Did) → life_in setting before node ≡ Running made past → is_of node noted.event ≡ true → is_start noted.event ≡ false
        → noted.entry.calls ≡ did.out.calls → noted.entry.asked ≡ did.out.asked → after setting noted.event noted.did (Running made past) ≡ going_on made (did ∷ past)
        → (IsReadyEngine P setting.genesis (asked_of before node) made past → IsTurned P setting.genesis (asked_of before node) made past did) → IsGoingOn (noted ∷ before)
    turn_goes made past noted did running of start same_calls same_asked_of on turn =
        let ready : IsReadyEngine P setting.genesis (asked_of before node) made past = subst (IsReadyLife (asked_of before node)) running old.life in
        let t = turn ready in
        goes noted false of start (subst (Each (CallFrom P)) (sym same_calls) t.calls) (subst (Each (IsRooted setting.genesis)) (sym same_asked_of) t.asked)
        (subst (λ (xs : List Asked). IsReadyLife (asked_of before node ++ xs) (after setting noted.event noted.did (life_in setting before node))) (sym same_asked_of)
        (subst (λ (l : Life). IsReadyLife (asked_of before node ++ did.out.asked) (after setting noted.event noted.did l)) (sym running)
        (subst (IsReadyLife (asked_of before node ++ did.out.asked)) (sym on) (ready_on (asked_of before node ++ did.out.asked) made (did ∷ past) ready.rules t.ready))))

    begins : (floor : Option Finalization) (stop : Stop) (js : List Section) → IsStartAbove (events.Start node floor stop) → life_in setting before node ≡ Stopped js
        → IsGoingOn (noted_with setting.setup before (events.Start node floor stop) node (Some tooks.Floor) (engine.begun (engine_at setting node floor js) (clock_of before) stop) ∷ before)
    unfolding after
    begins floor stop js above stopped =
        let now = clock_of before in
        let made = engine_at setting node floor js in
        let did = engine.begun made now stop in
        let same : did ≡ by_voter Began now stop (given_start setting node floor js now stop) = begun_gives setting node floor js now stop in
        let t : IsTurned P setting.genesis [] made [] did = subst (IsTurned P setting.genesis [] made []) (sym same) (begun_turn P setting node floor stop js now (floor_stands setting node floor stop above)) in
        goes (noted_with setting.setup before (events.Start node floor stop) node (Some tooks.Floor) did) true (same_self node) refl t.calls t.asked
        (subst (λ (l : Life). IsReadyLife did.out.asked (going_on (engine_of setting node.member (floor_of setting.genesis floor) (sections_in l)) (did ∷ []))) (sym stopped)
        (ready_on did.out.asked made (did ∷ []) (engine_rules setting node floor js) t.ready))

    start_goes : (floor : Option Finalization) (stop : Stop) (l : Life) → life_in setting before node ≡ l → Goes (on_start setting before node floor stop l)
    start_goes floor stop (Running made past) e = tt
    start_goes floor stop (Stopped js) e = if_goes (is_own_floor setting.setup before floor) _ _ (λ above answers. begins floor stop js above e) tt

    start_apart : (at : Node) (floor : Option Finalization) (stop : Stop) (l : Life) → is_same_node at node ≡ false → Goes (on_start setting before at floor stop l)
    start_apart at floor stop (Running made past) e = tt
    start_apart at floor stop (Stopped js) e = if_goes (is_own_floor setting.setup before floor) _ _ (λ above answers. still _ e) tt

    packet_goes : (ref : Ref) (o : Option Packet) (made : EngineMade) (past : List Did) → life_in setting before node ≡ Running made past → Goes (on_packet setting.setup before node ref o made past)
    unfolding after
    packet_goes ref None made past e = tt
    packet_goes ref (Some packet) made past e =
        if_goes (is_at_end setting.setup made past) _ _ tt (λ above answers.
        turn_goes made past _ (engine.heard made past packet.from.member packet.channel packet.bytes (clock_of before)) e (same_self node) refl refl refl refl
        (λ h. heard_step P setting.genesis (asked_of before node) made past h packet.from.member packet.channel packet.bytes (clock_of before)))

    deliver_goes : (ref : Ref) (l : Life) → life_in setting before node ≡ l → Goes (on_deliver setting.setup before node ref l)
    deliver_goes ref (Stopped js) e = tt
    deliver_goes ref (Running made past) e = packet_goes ref (packet_for before node ref) made past e

    packet_apart : (at : Node) (ref : Ref) (o : Option Packet) (made : EngineMade) (past : List Did) → is_same_node at node ≡ false → Goes (on_packet setting.setup before at ref o made past)
    packet_apart at ref None made past e = tt
    packet_apart at ref (Some packet) made past e = if_goes (is_at_end setting.setup made past) _ _ tt (λ above answers. still _ e)

    deliver_apart : (at : Node) (ref : Ref) (l : Life) → is_same_node at node ≡ false → Goes (on_deliver setting.setup before at ref l)
    deliver_apart at ref (Stopped js) e = tt
    deliver_apart at ref (Running made past) e = packet_apart at ref (packet_for before at ref) made past e

    hearing_apart : (at : Node) (ref : Ref) (o : Option Packet) → is_same_node at node ≡ false → Goes (on_hearing setting.setup before at ref o)
    hearing_apart at ref None e = tt
    hearing_apart at ref (Some packet) e = λ above answers. still _ e

    step_goes : (source : StepSource) (stop : Stop) (l : Life) → life_in setting before node ≡ l → Goes (on_step setting.setup before node source stop l)
    unfolding after
    step_goes source stop (Stopped js) e = tt
    step_goes source stop (Running made past) e =
        if_goes (is_at_end setting.setup made past) _ _ tt (λ above answers.
        turn_goes made past _ (engine.stepped made past source (clock_of before) stop) e (same_self node) refl refl refl refl
        (λ h. any_step P setting.genesis (asked_of before node) made past h source (clock_of before) stop))

    step_apart : (at : Node) (source : StepSource) (stop : Stop) (l : Life) → is_same_node at node ≡ false → Goes (on_step setting.setup before at source stop l)
    step_apart at source stop (Stopped js) e = tt
    step_apart at source stop (Running made past) e = if_goes (is_at_end setting.setup made past) _ _ tt (λ above answers. still _ e)

    named_good : (ref : Ref) (number : ℕ) (answer : Answer) → request_number before node ref ≡ Some number → IsAnsweredBy P before ref answer → stepping.IsGood P setting.genesis (asked_of before node) (number, answer)
    named_good ref number answer e fits =
        let n = number_names before node ref number e in
        record { asked = n.0; is = n.1; good = λ payload v. fits payload (ap (λ (o : Option Asked). vouched_in o answer) n.2 ∙ v) }

    request_goes : (ref : Ref) (answer : Answer) (o : Option ℕ) (made : EngineMade) (past : List Did) → request_number before node ref ≡ o → life_in setting before node ≡ Running made past
        → Goes (on_request setting.setup before node ref answer o made past)
    unfolding after
    request_goes ref answer None made past f e = tt
    request_goes ref answer (Some number) made past f e =
        if_goes (engine.takes_reply made past number answer) _ _ (λ above answers.
        turn_goes made past _ (engine.replied number answer (clock_of before)) e (same_self node) refl refl refl refl
        (λ h. replied_turn P setting.genesis (asked_of before node) made past h number answer (clock_of before) (named_good ref number answer f (answers (same_self node))))) tt

    answer_goes : (ref : Ref) (answer : Answer) (l : Life) → life_in setting before node ≡ l → Goes (on_answer setting.setup before node ref answer l)
    answer_goes ref answer (Stopped js) e = tt
    answer_goes ref answer (Running made past) e = request_goes ref answer (request_number before node ref) made past refl e

    request_apart : (at : Node) (ref : Ref) (answer : Answer) (o : Option ℕ) (made : EngineMade) (past : List Did) → is_same_node at node ≡ false → Goes (on_request setting.setup before at ref answer o made past)
    request_apart at ref answer None made past e = tt
    request_apart at ref answer (Some number) made past e = if_goes (engine.takes_reply made past number answer) _ _ (λ above answers. still _ e) tt

    answer_apart : (at : Node) (ref : Ref) (answer : Answer) (l : Life) → is_same_node at node ≡ false → Goes (on_answer setting.setup before at ref answer l)
    answer_apart at ref answer (Stopped js) e = tt
    answer_apart at ref answer (Running made past) e = request_apart at ref answer (request_number before at ref) made past e

    crash_goes : (l : Life) → Goes (on_crash before node l)
    unfolding after
    crash_goes (Stopped js) = tt
    crash_goes (Running made past) = λ above answers. goes _ false (same_self node) refl tt tt tt

    crash_apart : (at : Node) (l : Life) → is_same_node at node ≡ false → Goes (on_crash before at l)
    crash_apart at (Stopped js) e = tt
    crash_apart at (Running made past) e = λ above answers. still _ e

    idle_step : (at : Node) (source : StepSource) (stop : Stop) → is_same_node at node ≡ false → Goes (Ok (noted_idle before (events.Step at source stop) at))
    idle_step at source stop e = λ above answers. still (noted_idle before (events.Step at source stop) at) e

    idle_crash : (at : Node) → is_same_node at node ≡ false → Goes (Ok (noted_idle before (events.Crash at) at))
    idle_crash at e = λ above answers. still (noted_idle before (events.Crash at) at) e

    made_goes : (event : Event) → Goes (made_of setting before event)
    unfolding made_of
    made_goes (events.Start at floor stop) =
        engine_goes at _ _ (either_node at (λ n. Goes (on_start setting before n floor stop (life_in setting before n))) (start_goes floor stop (life_in setting before node) refl)
        (λ e. start_apart at floor stop (life_in setting before at) e)) (λ none. tt)
    made_goes (events.Tick ms) = if_goes (nat_le (clock_of before + ms) (2 ^ 63 - 1)) _ _ (λ above answers. still _ refl) tt
    made_goes (events.Deliver at ref) =
        engine_goes at _ _ (either_node at (λ n. Goes (on_deliver setting.setup before n ref (life_in setting before n))) (deliver_goes ref (life_in setting before node) refl)
        (λ e. deliver_apart at ref (life_in setting before at) e)) (never_without at (on_hearing setting.setup before at ref (packet_for before at ref)) (λ e. hearing_apart at ref (packet_for before at ref) e))
    made_goes (events.Step at source stop) =
        engine_goes at _ _ (either_node at (λ n. Goes (on_step setting.setup before n source stop (life_in setting before n))) (step_goes source stop (life_in setting before node) refl)
        (λ e. step_apart at source stop (life_in setting before at) e)) (never_without at (Ok (noted_idle before (events.Step at source stop) at)) (λ e. idle_step at source stop e))
    made_goes (events.Answer at ref answer) =
        engine_goes at _ _ (either_node at (λ n. Goes (on_answer setting.setup before n ref answer (life_in setting before n))) (answer_goes ref answer (life_in setting before node) refl)
        (λ e. answer_apart at ref answer (life_in setting before at) e)) (λ none. tt)
    made_goes (events.Crash at) =
        engine_goes at _ _ (either_node at (λ n. Goes (on_crash before n (life_in setting before n))) (crash_goes (life_in setting before node))
        (λ e. crash_apart at (life_in setting before at) e)) (never_without at (Ok (noted_idle before (events.Crash at) at)) (λ e. idle_crash at e))
    made_goes (events.Inject who channel to bytes) =
        if_goes (nat_lt who (members_of setting.setup) && list_all (is_node setting.setup) to) _ _ (if_goes (is_honest setting.setup who) _ _ tt (λ above answers. still _ refl)) tt

  run_goes : (noted : List Noted) → IsRun setting noted → AreFloors noted → AllAnswersAre P node noted → IsGoingOn noted
  unfolding IsRun AreFloors AllAnswersAre AreNodeRooted calls_of life_in
  run_goes [] r f a = record { calls = tt; rooted = tt; life = tt }
  run_goes (noted ∷ before) r f a =
      let old = run_goes before r.2 f.1 a.1 in
      let g : Goes before old (Ok noted) = subst (Goes before old) (was_made setting before r.0 noted r.1) (made_goes before old r.0) in
      g f.0 a.0

-- ---- the votes of a node

vote_from : (P : List ℕ → Type 0) (a : Artifact) (p : Proposal) → stepping.RecordFrom P a → Contains (vote_in a) (subjects.Notarize p) → P p.payload
vote_from P (artifacts.Notarize v) p n k = elim (Contains-cons_cases (subjects.Notarize v.proposal) [] (subjects.Notarize p) k) [
  | inl e ↦ (let same : v.proposal ≡ p = cc in subst (λ (q : Proposal). P q.payload) same n)
  | inr r ↦ absurd (not_in_empty _ r)
]
vote_from P (artifacts.Nullify v) p n k = elim (Contains-cons_cases (subjects.Nullify v.round) [] (subjects.Notarize p) k) [
  | inl e ↦ cc
  | inr r ↦ absurd (not_in_empty _ r)
]
vote_from P (artifacts.Finalize v) p n k = elim (Contains-cons_cases (subjects.Finalize v.proposal) [] (subjects.Notarize p) k) [
  | inl e ↦ cc
  | inr r ↦ absurd (not_in_empty _ r)
]
vote_from P (artifacts.Notarization c) p n k = absurd (not_in_empty _ k)
vote_from P (artifacts.Nullification c) p n k = absurd (not_in_empty _ k)
vote_from P (artifacts.Finalization c) p n k = absurd (not_in_empty _ k)
vote_from P (artifacts.Certification r good) p n k = absurd (not_in_empty _ k)

voted_from : (P : List ℕ → Type 0) (cs : List Call) (p : Proposal) → Each (CallFrom P) cs → Contains (voted cs) (subjects.Notarize p) → P p.payload
unfolding voted
voted_from P [] p n k = absurd (not_in_empty _ k)
voted_from P (calls.Append section a ∷ rest) p n k = elim (Contains-append_cases (vote_in a) (voted rest) (subjects.Notarize p) k) [
  | inl h ↦ vote_from P a p n.0 h
  | inr r ↦ voted_from P rest p n.1 r
]
voted_from P (calls.Sync section ∷ rest) p n k = voted_from P rest p n.1 k
voted_from P (calls.Prune least ∷ rest) p n k = voted_from P rest p n.1 k
voted_from P (calls.Send channel to bytes ∷ rest) p n k = voted_from P rest p n.1 k
voted_from P (calls.Report activity ∷ rest) p n k = voted_from P rest p n.1 k
voted_from P (calls.Relay payload plan ∷ rest) p n k = voted_from P rest p n.1 k
voted_from P (calls.Block who cause ∷ rest) p n k = voted_from P rest p n.1 k

pub notarized_from : (P : List ℕ → Type 0) (setting : Setting) (noted : List Noted) (node : Node) (p : Proposal) → IsRun setting noted → AreFloors noted → runs_engine setting.setup node.member ≡ true
    → AllAnswersAre P node noted → Contains (voted (calls_of node noted)) (subjects.Notarize p) → P p.payload
notarized_from P setting noted node p r f good a k = (let g = run_goes P setting node good noted r f a in voted_from P (calls_of node noted) p g.calls k)

-- ---- all requests

-- an entry asks nothing, or is of a node that runs an engine
abbrev IsAskedBy : Setting → Noted → Type 0
IsAskedBy setting noted = (noted.entry.asked ≡ []) ⊎ ((at : Node) × (is_of at noted.event ≡ true) × (runs_engine setting.setup at.member ≡ true))

abbrev AsksBy : Setting → Result Noted RunError → Type 0
AsksBy setting (Ok noted) = IsAskedBy setting noted
AsksBy setting (Err error) = Unit {0}

if_asks : (setting : Setting) (b : Bool) (x y : Result Noted RunError) → AsksBy setting x → AsksBy setting y → AsksBy setting (if b then x else y)
if_asks setting true x y p q = p
if_asks setting false x y p q = q

module _ (setting : Setting) (before : List Noted) (at : Node) (good : runs_engine setting.setup at.member ≡ true) where
  start_asks : (floor : Option Finalization) (stop : Stop) (l : Life) → AsksBy setting (on_start setting before at floor stop l)
  start_asks floor stop (Running made past) = tt
  start_asks floor stop (Stopped js) = if_asks setting (is_own_floor setting.setup before floor) _ _ (inr (at, same_self at, good)) tt

  packet_asks : (ref : Ref) (o : Option Packet) (made : EngineMade) (past : List Did) → AsksBy setting (on_packet setting.setup before at ref o made past)
  packet_asks ref None made past = tt
  packet_asks ref (Some packet) made past = if_asks setting (is_at_end setting.setup made past) _ _ tt (inr (at, same_self at, good))

  deliver_asks : (ref : Ref) (l : Life) → AsksBy setting (on_deliver setting.setup before at ref l)
  deliver_asks ref (Stopped js) = tt
  deliver_asks ref (Running made past) = packet_asks ref (packet_for before at ref) made past

  step_asks : (source : StepSource) (stop : Stop) (l : Life) → AsksBy setting (on_step setting.setup before at source stop l)
  step_asks source stop (Stopped js) = tt
  step_asks source stop (Running made past) = if_asks setting (is_at_end setting.setup made past) _ _ tt (inr (at, same_self at, good))

  request_asks : (ref : Ref) (answer : Answer) (o : Option ℕ) (made : EngineMade) (past : List Did) → AsksBy setting (on_request setting.setup before at ref answer o made past)
  request_asks ref answer None made past = tt
  request_asks ref answer (Some number) made past = if_asks setting (engine.takes_reply made past number answer) _ _ (inl refl) tt

  answer_asks : (ref : Ref) (answer : Answer) (l : Life) → AsksBy setting (on_answer setting.setup before at ref answer l)
  answer_asks ref answer (Stopped js) = tt
  answer_asks ref answer (Running made past) = request_asks ref answer (request_number before at ref) made past

crash_asks : (setting : Setting) (before : List Noted) (at : Node) (l : Life) → AsksBy setting (on_crash before at l)
crash_asks setting before at (Stopped js) = tt
crash_asks setting before at (Running made past) = inl refl

hearing_asks : (setting : Setting) (before : List Noted) (at : Node) (ref : Ref) (o : Option Packet) → AsksBy setting (on_hearing setting.setup before at ref o)
hearing_asks setting before at ref None = tt
hearing_asks setting before at ref (Some packet) = inl refl

engine_asks : (setting : Setting) (at : Node) (x y : Result Noted RunError) → (runs_engine setting.setup at.member ≡ true → AsksBy setting x) → AsksBy setting y → AsksBy setting (by_engine setting.setup at x y)
engine_asks setting at x y p q = if_asks setting (is_node setting.setup at) _ _ (by (runs_engine setting.setup at.member) refl) tt
  where
    by : (b : Bool) → runs_engine setting.setup at.member ≡ b → AsksBy setting (if b then x else y)
    by true e = p e
    by false e = q

made_asks : (setting : Setting) (before : List Noted) (event : Event) → AsksBy setting (made_of setting before event)
unfolding made_of
made_asks setting before (events.Start at floor stop) = engine_asks setting at _ _ (λ good. start_asks setting before at good floor stop (life_in setting before at)) tt
made_asks setting before (events.Tick ms) = if_asks setting (nat_le (clock_of before + ms) (2 ^ 63 - 1)) _ _ (inl refl) tt
made_asks setting before (events.Deliver at ref) =
    engine_asks setting at _ _ (λ good. deliver_asks setting before at good ref (life_in setting before at)) (hearing_asks setting before at ref (packet_for before at ref))
made_asks setting before (events.Step at source stop) = engine_asks setting at _ _ (λ good. step_asks setting before at good source stop (life_in setting before at)) (inl refl)
made_asks setting before (events.Answer at ref answer) = engine_asks setting at _ _ (λ good. answer_asks setting before at good ref answer (life_in setting before at)) tt
made_asks setting before (events.Crash at) = engine_asks setting at _ _ (λ good. crash_asks setting before at (life_in setting before at)) (inl refl)
made_asks setting before (events.Inject who channel to bytes) =
    if_asks setting (nat_lt who (members_of setting.setup) && list_all (is_node setting.setup) to) _ _ (if_asks setting (is_honest setting.setup who) _ _ tt (inl refl)) tt

-- every answer is for something
any_answers : (node : Node) (before : List Noted) (event : Event) → AnswersFor (λ payload. Unit {0}) before node event
any_answers node before (events.Start at floor stop) = tt
any_answers node before (events.Tick ms) = tt
any_answers node before (events.Deliver at ref) = tt
any_answers node before (events.Step at source stop) = tt
any_answers node before (events.Answer at ref answer) = λ e payload v. tt
any_answers node before (events.Crash at) = tt
any_answers node before (events.Inject who channel to bytes) = tt

any_answered : (node : Node) (noted : List Noted) → AllAnswersAre (λ payload. Unit {0}) node noted
unfolding AllAnswersAre
any_answered node [] = tt
any_answered node (noted ∷ before) = (any_answers node before noted.event, any_answered node before)

pub requests_rooted : (setting : Setting) (noted : List Noted) → IsRun setting noted → AreFloors noted → AreRooted setting.genesis noted
unfolding IsRun AreFloors AreNodeRooted
requests_rooted setting [] r f = tt
requests_rooted setting (noted ∷ before) r f =
    let asks : IsAskedBy setting noted = subst (AsksBy setting) (was_made setting before r.0 noted r.1) (made_asks setting before r.0) in (
      elim asks [
        | inl e ↦ subst (Each (IsRooted setting.genesis)) (sym e) tt
        | inr h ↦ (let g = run_goes (λ payload. Unit {0}) setting h.0 h.2 (noted ∷ before) r f (any_answered h.0 (noted ∷ before)) in g.rooted.0 h.1)
      ],
      requests_rooted setting before r.2 f.1,
    )
