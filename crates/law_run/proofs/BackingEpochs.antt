-- Own votes name the setup's epoch.
use Rattle.std.proofs.Common.{◌≡◌, ℕ, ◌-◌, ◌++◌, ◌==◌, ◌&&◌, nat_lt, nat_le, Bool, true, false, List, [], ◌∷◌, length, take, Contains, Option, Some, None, refl, sym, ap, ◌∙◌, subst, inl, inr, if◌then◌else◌}
use Rattle.std.specs.List.{list_all}
use Rattle.std.specs.Option.{option_map, option_map_or}
use Rattle.simplex_values.specs.declared.answer.Answer.{Answer}
use Rattle.simplex_values.specs.declared.plan.Channel.{Channel}
use Rattle.simplex_values.specs.declared.plan.Channel.TheVariants as channels
use Rattle.simplex_wire.specs.declared.artifact.Artifact.{Artifact}
use Rattle.simplex_wire.specs.declared.artifact.Artifact.TheVariants as artifacts
use Rattle.simplex_wire.specs.declared.certificate.Certificate.{Certificate}
use Rattle.simplex_wire.specs.declared.certificate.Certificate.TheVariants as certificates
use Rattle.simplex_wire.specs.declared.certificate.Finalization.{Finalization}
use Rattle.simplex_wire.specs.declared.vote.Vote.TheVariants as votes
use Rattle.simplex_wire.specs.Fields.{vote_subject, certificate_subject}
use Rattle.simplex_types.specs.declared.floor.Floor.{Floor}
use Rattle.model_rules.specs.Pending.{Pending}
use Rattle.simplex_journal.specs.Journal.{Section, replayed}
use Rattle.simplex_mailbox.specs.Mail.{received}
use Rattle.simplex_messages.specs.declared.batcher.Message as batcher_message
use Rattle.simplex_messages.specs.declared.batcher.Message.TheVariants as batcher_messages
use Rattle.simplex_messages.specs.declared.batcher.BatcherInput.{BatcherInput}
use Rattle.simplex_messages.specs.declared.batcher.BatcherInput.TheVariants as batcher_inputs
use Rattle.simplex_messages.specs.declared.call.Call.{Call}
use Rattle.simplex_messages.specs.declared.call.Call.TheVariants as calls
use Rattle.simplex_messages.specs.declared.voter.Message as voter_message
use Rattle.simplex_messages.specs.declared.voter.Message.TheVariants as voter_messages
use Rattle.simplex_messages.specs.declared.voter.VoterInput.{VoterInput}
use Rattle.simplex_messages.specs.declared.voter.VoterInput.TheVariants as voter_inputs
use Rattle.simplex_messages.specs.declared.handed.Handed.{Handed}
use Rattle.simplex_messages.specs.declared.handed.Handed.TheVariants as handed
use Rattle.simplex_messages.specs.declared.step.Outcome.{Outcome}
use Rattle.simplex_messages.specs.declared.step.Outcome.TheVariants as outcomes
use Rattle.simplex_messages.specs.declared.step.Stop.{Stop}
use Rattle.simplex_messages.specs.declared.step.Stop.TheVariants as stops
use Rattle.simplex_messages.specs.declared.step.StepOut.{StepOut}
use Rattle.simplex_messages.specs.Step.{no_out}
use Rattle.simplex_transcript.specs.declared.event.Event.{Event}
use Rattle.simplex_transcript.specs.declared.event.Event.TheVariants as events
use Rattle.simplex_transcript.specs.declared.event.StepSource.{StepSource}
use Rattle.simplex_transcript.specs.declared.event.StepSource.TheVariants as sources
use Rattle.simplex_transcript.specs.declared.node.Node.{Node}
use Rattle.simplex_transcript.specs.declared.entry.Took.{Took}
use Rattle.simplex_transcript.specs.declared.entry.Took.TheVariants as tooks
use Rattle.simplex_transcript.specs.declared.setup.Setup.{Setup}
use Rattle.model_steps.specs.Desk.{Doing}
use Rattle.model_steps.specs.Performed.{Performed, stop_place, whole, broken, performed}
use Rattle.model_steps.specs.Voter as voter
use Rattle.model_steps.specs.VoterLife.{VoterMade, Place, Started, Stepped, Answered, place_of, start_at, rest, unreadable, unread, before_reading, start_performed, step_given}
use Rattle.model_steps.specs.Batcher as batcher
use Rattle.model_steps.specs.Engine as engine
use Rattle.model_steps.specs.Engine.{EngineMade, Did, Began, started_at, is_start, given_to_voter, given_to_batcher, voter_in, voter_past, batcher_past, input_of_batcher, by_voter, runs, sections_of, cut_short}
use Rattle.model_run.specs.Setting.{Setting}
use Rattle.model_run.specs.Life.{Noted, Life, Stopped, Running, clock_of, is_of, going_on, sections_in, after, life_in}
use Rattle.model_run.specs.Members.{is_same_node, floor_of, rules_of, batcher_of, engine_of}
use Rattle.model_run.specs.Entries.{noted_with, noted_blank, is_own_floor}
use Rattle.law_agreement.proofs.ListFacts.{not_in_empty}
use Rattle.law_member.specs.Life.{statement_of}
use Rattle.law_run.specs.Sayings.{Each, InMessage}
use Rattle.law_run.proofs.Events.{place_in, engine_at, given_start, begun_gives, step_gives, place_same, place_then, step_place, idle_place}
use Rattle.law_run.proofs.Further.{same_self, same_node, life_then, life_still}
use Rattle.law_run.proofs.NodeKeeping.{InJournal, InAppend, crash_keeps, step_keeps, start_keeps}
use Rattle.law_run.proofs.Mails.{holds_received}
use Rattle.law_run.proofs.Letting.{heard_either, heard_no_start, each_given, given_input}
use Rattle.law_run.proofs.NodeQuiet.{AllHush, AllForVoter, batcher_hush}
use Rattle.law_run.proofs.Telling.{some_is, Each-take}
use Rattle.law_run.specs.MostlyHonest.{IsMostlyHonest}
use Rattle.law_run.specs.Safe.{AllName}
use Rattle.law_run.specs.Naming.{RecordNames, CallNames, OwnName, InputNames, IsMailOf, IsProposalOf}
use Rattle.law_run.proofs.Good.{IsGood}
use Rattle.law_run.proofs.Mailing.{InHanded, batcher_holds, voter_holds, InResolverMail}
use Rattle.law_run.proofs.BackingNaming.{Names, backed_names, backers_named}
use Rattle.law_run.proofs.Offering.{proposals_named}
use Rattle.law_run.proofs.Reporting.{reported_good}
use Rattle.law_run.proofs.Turns.{IsTaken, IsTurn, entry_turn}
use Rattle.law_run.proofs.NodeEpochs.{AllNamed, step_named, start_named}
use Rattle.law_run.proofs.NodeNaming.{NamesRecord, NamesCall, NamesHanded, NamesPending, NamesInput, NamesFloor, NamesDesk}
use Rattle.law_run.proofs.Worlds.{backers_of, fine_of, earlier, people_of, floors_hold, good_backed}
use Rattle.simplex_messages.specs.declared.resolver.MailboxMessage.{MailboxMessage}
use Rattle.simplex_messages.specs.declared.resolver.MailboxMessage.TheVariants as resolver_messages
use Rattle.model_steps.specs.ResolverSteps.{is_call_of_resolver, is_handed_by_resolver, IsOfResolver, IsApart}
use Rattle.model_steps.proofs.ResolverSteps.{heard_by_resolver, heard_apart, stepped_resolver, stepped_resolver_apart, stepped_handler, stepped_handler_apart, stepped_fetcher, stepped_fetcher_apart}
use Rattle.model_run.specs.Kinds.{runs_engine}
use Rattle.law_run.specs.Histories.{IsRun}
use Rattle.law_run.proofs.Nodes.{resolver_no_start, handler_no_start, fetcher_no_start}

-- ---- what names the epoch

abbrev BatcherNames : ℕ → batcher_message.Message → Type 0
BatcherNames e (batcher_messages.Constructed v) = Names e (vote_subject v)
BatcherNames e (batcher_messages.Update current leader finalized proposal) = Unit {0}

abbrev VoterNames : ℕ → voter_message.Message → Type 0
VoterNames e (voter_messages.Verified c) = Names e (certificate_subject c)
VoterNames e (voter_messages.Proposal p) = p.round.epoch ≡ e
VoterNames e (voter_messages.Timeout round reason) = Unit {0}

abbrev HandedNames : ℕ → Handed → Type 0
HandedNames e = InHanded (BatcherNames e) (VoterNames e) (λ c. Unit {0})

record IsNamedDid (e : ℕ) (did : Did) : Type 0 where
  pub handed : Each (HandedNames e) did.out.handed
  pub taken : (given : batcher.Timed) → given_to_batcher did ≡ Some given → InputNames e given.input

record IsPlaceNamed (e : ℕ) (place : Place) : Type 0 where
  pub desk : NamesDesk e place.standing.desk
  pub records : InJournal (NamesRecord e) place.sections

record IsNamedEngine (e : ℕ) (made : EngineMade) (past : List Did) : Type 0 where
  pub batcher : made.batcher.epoch ≡ e
  pub rules : (start : ℕ) → (made.voter start).rules.epoch ≡ e
  pub history : Each (IsNamedDid e) past
  pub place : IsPlaceNamed e (place_in made past)

abbrev IsLifeNamed : ℕ → Life → Type 0
IsLifeNamed e (Stopped sections) = InJournal (NamesRecord e) sections
IsLifeNamed e (Running made past) = IsNamedEngine e made past

life_records : (e : ℕ) (l : Life) → IsLifeNamed e l → InJournal (NamesRecord e) (sections_in l)
unfolding sections_of
life_records e (Stopped sections) h = h
life_records e (Running made past) h = h.place.records

record IsNamedRun (setting : Setting) (noted : List Noted) : Type 0 where
  pub own : OwnName setting.setup noted
  pub lives : (node : Node) → runs_engine setting.setup node.member ≡ true → IsLifeNamed setting.setup.epoch (life_in setting noted node)

all_handed : (e : ℕ) (past : List Did) → Each (IsNamedDid e) past → Each (λ (did : Did). Each (HandedNames e) did.out.handed) past
all_handed e [] h = tt
all_handed e (did ∷ past) h = (let first = h.0 in first.handed, all_handed e past h.1)

inputs_named : (e : ℕ) (past : List Did) → Each (IsNamedDid e) past → Each (IsMailOf e) (batcher_past past)
unfolding batcher_past
inputs_named e [] h = tt
inputs_named e (did ∷ past) h = each_given (IsMailOf e) did past h.0.taken (inputs_named e past h.1)

-- a record that names it is an own one that does
own_record : (e : ℕ) (a : Artifact) → NamesRecord e a → RecordNames e a
own_record e (artifacts.Notarize v) n = n
own_record e (artifacts.Nullify v) n = n
own_record e (artifacts.Finalize v) n = n
own_record e (artifacts.Notarization c) n = tt
own_record e (artifacts.Nullification c) n = tt
own_record e (artifacts.Finalization c) n = tt
own_record e (artifacts.Certification r good) n = tt

own_calls : (e : ℕ) (cs : List Call) → Each (NamesCall e) cs → Each (CallNames e) cs
own_calls e [] n = tt
own_calls e (calls.Append k a ∷ rest) n = (own_record e a n.0, own_calls e rest n.1)
own_calls e (calls.Sync k ∷ rest) n = (tt, own_calls e rest n.1)
own_calls e (calls.Prune k ∷ rest) n = (tt, own_calls e rest n.1)
own_calls e (calls.Send channel to bytes ∷ rest) n = (tt, own_calls e rest n.1)
own_calls e (calls.Report activity ∷ rest) n = (tt, own_calls e rest n.1)
own_calls e (calls.Relay payload plan ∷ rest) n = (tt, own_calls e rest n.1)
own_calls e (calls.Block who why ∷ rest) n = (tt, own_calls e rest n.1)

in_appends : (e : ℕ) (cs : List Call) → Each (NamesCall e) cs → Each (InAppend (NamesRecord e)) cs
in_appends e [] n = tt
in_appends e (calls.Append k a ∷ rest) n = (n.0, in_appends e rest n.1)
in_appends e (calls.Sync k ∷ rest) n = (tt, in_appends e rest n.1)
in_appends e (calls.Prune k ∷ rest) n = (tt, in_appends e rest n.1)
in_appends e (calls.Send channel to bytes ∷ rest) n = (tt, in_appends e rest n.1)
in_appends e (calls.Report activity ∷ rest) n = (tt, in_appends e rest n.1)
in_appends e (calls.Relay payload plan ∷ rest) n = (tt, in_appends e rest n.1)
in_appends e (calls.Block who why ∷ rest) n = (tt, in_appends e rest n.1)

untold : (message : MailboxMessage) → InResolverMail (λ c. Unit {0}) message
untold (resolver_messages.Updated c) = tt
untold (resolver_messages.Certified n success) = tt
untold (resolver_messages.Resolve proposal view kind target) = tt
untold resolver_messages.Replayed = tt

voter_handed : (e : ℕ) (hs : List Handed) → Each (NamesHanded e) hs → Each (HandedNames e) hs
voter_handed e [] n = tt
voter_handed e (handed.Batcher (batcher_messages.Constructed v) ∷ rest) n = (n.0, voter_handed e rest n.1)
voter_handed e (handed.Batcher (batcher_messages.Update current leader finalized proposal) ∷ rest) n = (tt, voter_handed e rest n.1)
voter_handed e (handed.Voter message ∷ rest) n = absurd n.0
voter_handed e (handed.Resolver message ∷ rest) n = (untold message, voter_handed e rest n.1)
voter_handed e (handed.Handler message ∷ rest) n = (tt, voter_handed e rest n.1)

-- a batcher appends nothing
hush_names : (e : ℕ) (cs : List Call) → AllHush cs → Each (CallNames e) cs
hush_names e [] h = tt
hush_names e (calls.Report a ∷ rest) h = (tt, hush_names e rest h.1)
hush_names e (calls.Relay payload plan ∷ rest) h = (tt, hush_names e rest h.1)
hush_names e (calls.Block who why ∷ rest) h = (tt, hush_names e rest h.1)
hush_names e (calls.Append n a ∷ rest) h = absurd h.0
hush_names e (calls.Sync n ∷ rest) h = absurd h.0
hush_names e (calls.Prune n ∷ rest) h = absurd h.0
hush_names e (calls.Send channel to bytes ∷ rest) h = absurd h.0

-- what it hands on names the epoch where its certificates do
batcher_handed : (e : ℕ) (Good : Certificate → Type 0) (cs : List Call) (hs : List Handed) → ((c : Certificate) → Good c → Names e (certificate_subject c)) → AllForVoter hs → Each (IsProposalOf e) hs
    → Each (InMessage Good cs) hs → Each (HandedNames e) hs
batcher_handed e Good cs [] names v p g = tt
batcher_handed e Good cs (handed.Voter (voter_messages.Verified c) ∷ rest) names v p g = (names c g.0, batcher_handed e Good cs rest names v.1 p.1 g.1)
batcher_handed e Good cs (handed.Voter (voter_messages.Proposal q) ∷ rest) names v p g = (p.0, batcher_handed e Good cs rest names v.1 p.1 g.1)
batcher_handed e Good cs (handed.Voter (voter_messages.Timeout round reason) ∷ rest) names v p g = (tt, batcher_handed e Good cs rest names v.1 p.1 g.1)
batcher_handed e Good cs (handed.Batcher message ∷ rest) names v p g = absurd v.0
batcher_handed e Good cs (handed.Resolver message ∷ rest) names v p g = absurd v.0
batcher_handed e Good cs (handed.Handler message ∷ rest) names v p g = absurd v.0

-- a step that is broken hands on nothing, and makes the first of its calls
performed_handed : (e : ℕ) (stop : Stop) (d : Doing) (js : List Section) → Each (NamesHanded e) d.handed → Each (NamesHanded e) (performed stop d js).out.handed
unfolding performed
performed_handed e stop d js n = at (stop_place stop d.calls)
  where
    at : (o : Option ℕ) → Each (NamesHanded e) (option_map_or (broken stop d js) o (whole d js)).out.handed
    at None = n
    at (Some place) = tt

performed_calls : (e : ℕ) (stop : Stop) (d : Doing) (js : List Section) → Each (NamesCall e) d.calls → Each (NamesCall e) (performed stop d js).out.calls
unfolding performed
performed_calls e stop d js n = at (stop_place stop d.calls)
  where
    at : (o : Option ℕ) → Each (NamesCall e) (option_map_or (broken stop d js) o (whole d js)).out.calls
    at None = n
    at (Some place) = Each-take (NamesCall e) place d.calls n

start_handed : (e : ℕ) (stop : Stop) (floor : Floor) (d : Doing) (js : List Section) → Each (NamesHanded e) d.handed → Each (NamesHanded e) (start_performed stop floor d js).out.handed
unfolding start_performed
start_handed e stops.None floor d js n = performed_handed e stops.None d js n
start_handed e (stops.Cut call keep) floor d js n = performed_handed e (stops.Cut call keep) d js n
start_handed e (stops.Fail call keep) floor d js n = at (call == 1)
  where
    at : (b : Bool) → Each (NamesHanded e) (if b then unread floor d keep js else performed (stops.Fail (call - 1) keep) d js).out.handed
    at true = tt
    at false = performed_handed e (stops.Fail (call - 1) keep) d js n

start_calls : (e : ℕ) (stop : Stop) (floor : Floor) (d : Doing) (js : List Section) → Each (NamesCall e) d.calls → Each (NamesCall e) (start_performed stop floor d js).out.calls
unfolding start_performed
start_calls e stops.None floor d js n = performed_calls e stops.None d js n
start_calls e (stops.Cut call keep) floor d js n = performed_calls e (stops.Cut call keep) d js n
start_calls e (stops.Fail call keep) floor d js n = at (call == 1)
  where
    at : (b : Bool) → Each (NamesCall e) (if b then unread floor d keep js else performed (stops.Fail (call - 1) keep) d js).out.calls
    at true = Each-take (NamesCall e) (before_reading floor) d.calls n
    at false = performed_calls e (stops.Fail (call - 1) keep) d js n

-- ---- one turn of an engine

record IsStepNamed (e : ℕ) (Good : Certificate → Type 0) (made : EngineMade) (past : List Did) (did : Did) : Type 0 where
  pub calls : Each (CallNames e) did.out.calls
  pub handed : ((c : Certificate) → Good c → Names e (certificate_subject c)) → Each (InMessage Good did.out.calls) did.out.handed → Each (HandedNames e) did.out.handed
  pub taken : (given : batcher.Timed) → given_to_batcher did ≡ Some given → InputNames e given.input
  pub place : IsPlaceNamed e (place_in made (did ∷ past))

unseen_place : (e : ℕ) (made : EngineMade) (did : Did) (past : List Did) → given_to_voter did ≡ None → is_start did.taken ≡ false → IsPlaceNamed e (place_in made past) → IsPlaceNamed e (place_in made (did ∷ past))
unseen_place e made did past n f h =
    let p = place_same made did past n f in
    subst (IsPlaceNamed e) (sym (ap (λ v. place_of v (voter_past (did ∷ past))) p.0 ∙ ap (place_of (voter_in made past)) p.1)) h

voter_names : (e : ℕ) (made : EngineMade) (past : List Did) (input : VoterInput) (now : ℕ) (d : Doing) → (voter_in made past).rules.epoch ≡ e → NamesInput e input
    → IsPlaceNamed e (place_in made past) → voter.stepped (voter_in made past).rules now (place_in made past).standing input ≡ Some d → AllNamed e d
voter_names e made past input now d rules names h g =
    let v = (voter_in made past).rules in
    subst (λ n. AllNamed n d) rules
    (step_named v now (place_in made past).standing input d (subst (λ n. NamesInput n input) (sym rules) names)
    (subst (λ n. NamesDesk n (place_in made past).standing.desk) (sym rules) h.desk) g)

voter_turn : (e : ℕ) (Good : Certificate → Type 0) (made : EngineMade) (past : List Did) (did : Did) (input : VoterInput) (now : ℕ) (stop : Stop) → given_to_voter did ≡ Some (Stepped input now stop) → is_start did.taken ≡ false
    → did.out ≡ (step_given (voter_in made past) (voter_past past) input now stop).out → ((i : BatcherInput) → input_of_batcher did.taken ≡ Some i → InputNames e i)
    → NamesInput e input → IsNamedEngine e made past → IsStepNamed e Good made past did
voter_turn e Good made past did input now stop n f out taken names h =
    at (voter.stepped (voter_in made past).rules now (place_in made past).standing input) refl
  where
    p : (voter_in made (did ∷ past) ≡ voter_in made past) × (voter_past (did ∷ past) ≡ Stepped input now stop ∷ voter_past past)
    p = place_then made did past (Stepped input now stop) n f

    there : (q : Place) → place_of (voter_in made past) (Stepped input now stop ∷ voter_past past) ≡ q → IsPlaceNamed e q → IsPlaceNamed e (place_in made (did ∷ past))
    there q same k = subst (IsPlaceNamed e) (sym (ap (λ v. place_of v (voter_past (did ∷ past))) p.0 ∙ ap (place_of (voter_in made past)) p.1 ∙ same)) k

    at : (o : Option Doing) → voter.stepped (voter_in made past).rules now (place_in made past).standing input ≡ o → IsStepNamed e Good made past did
    at None g =
        let gives = out ∙ ap (λ (x : Performed). x.out) (step_gives (voter_in made past) (voter_past past) input now stop None g) in
        record {
          calls = subst (λ (x : StepOut). Each (CallNames e) x.calls) (sym gives) tt;
          handed = λ a b. subst (λ (x : StepOut). Each (HandedNames e) x.handed) (sym gives) tt;
          taken = λ t q. taken t.input (given_input did t q);
          place = there (place_in made past) (idle_place (voter_in made past) (voter_past past) input now stop g) h.place;
        }
    at (Some d) g =
        let named = voter_names e made past input now d (h.rules (started_at past)) names h.place g in
        let js = (place_in made past).sections in
        let gives = out ∙ ap (λ (x : Performed). x.out) (step_gives (voter_in made past) (voter_past past) input now stop (Some d) g) in
        let later : Place = record { standing = rest d (place_in made past).standing.answers; sections = (performed stop d js).sections } in
        record {
          calls = subst (λ (x : StepOut). Each (CallNames e) x.calls) (sym gives) (own_calls e (performed stop d js).out.calls (performed_calls e stop d js named.in_calls));
          handed = λ a b. subst (λ (x : StepOut). Each (HandedNames e) x.handed) (sym gives) (voter_handed e (performed stop d js).out.handed (performed_handed e stop d js named.in_handed));
          taken = λ t q. taken t.input (given_input did t q);
          place = there later (step_place (voter_in made past) (voter_past past) input now stop d g)
              (record { desk = record { known = named.in_known; pending = named.in_pending }; records = step_keeps (NamesRecord e) stop d js (in_appends e d.calls named.in_calls) h.place.records });
        }

-- nothing was held, or a packet was refused
nothing_done : (e : ℕ) (Good : Certificate → Type 0) (made : EngineMade) (past : List Did) (taken : engine.Taken) (now : ℕ) (stop : Stop) (o : Outcome)
    → given_to_voter (engine.did_of taken now stop o no_out) ≡ None → is_start taken ≡ false → ((t : batcher.Timed) → given_to_batcher (engine.did_of taken now stop o no_out) ≡ Some t → InputNames e t.input)
    → IsNamedEngine e made past → IsStepNamed e Good made past (engine.did_of taken now stop o no_out)
nothing_done e Good made past taken now stop o n f none h =
    record { calls = tt; handed = λ a b. tt; taken = none; place = unseen_place e made (engine.did_of taken now stop o no_out) past n f h.place }

held_nothing : (e : ℕ) (Good : Certificate → Type 0) (made : EngineMade) (past : List Did) (source : StepSource) (now : ℕ) (stop : Stop)
    → given_to_voter (engine.nothing_held source now stop) ≡ None → ((i : BatcherInput) → input_of_batcher (engine.Took source None) ≡ Some i → InputNames e i) → IsNamedEngine e made past
    → IsStepNamed e Good made past (engine.nothing_held source now stop)
held_nothing e Good made past source now stop n none h =
    nothing_done e Good made past (engine.Took source None) now stop outcomes.Idle n refl (λ t q. none t.input (given_input (engine.nothing_held source now stop) t q)) h

batcher_turn : (e : ℕ) (Good : Certificate → Type 0) (made : EngineMade) (past : List Did) (taken : engine.Taken) (input : BatcherInput) (now : ℕ) (stop : Stop)
    → ((i : BatcherInput) → input_of_batcher taken ≡ Some i → i ≡ input) → ((n : ℕ) (s : Stop) (o : Outcome) (out : StepOut) → (given_to_voter (engine.did_of taken n s o out) ≡ None) × (is_start taken ≡ false))
    → InputNames e input → IsNamedEngine e made past → IsStepNamed e Good made past (engine.by_batcher made past taken input now stop)
unfolding engine.by_batcher
batcher_turn e Good made past taken input now stop only unseen f h =
    let given : batcher.Timed = record { input = input; now = now } in
    let out = batcher.step_out made.batcher (batcher_past past) given in
    let hush = batcher_hush made.batcher (batcher_past past) given in
    let did = engine.by_batcher made past taken input now stop in
    let offers = proposals_named e made.batcher (batcher_past past) given h.batcher (f, inputs_named e past h.history) in
    record {
      calls = cut_calls stop out (hush_names e out.calls hush.0);
      handed = λ names g. cut_handed names stop out hush.1 offers g;
      taken = λ t q. subst (InputNames e) (sym (only t.input (given_input did t q))) f;
      place = unseen_place e made did past (unseen did.now did.stop did.outcome did.out).0 (unseen did.now did.stop did.outcome did.out).1 h.place;
    }
  where
    pair : Stop → StepOut → ℕ → Bool → Outcome × StepOut
    pair stop out call b = if b then (outcomes.Cut, record no_out { calls = take (call - 1) out.calls }) else (outcomes.Done, out)

    cut_calls : (stop : Stop) (out : StepOut) → Each (CallNames e) out.calls → Each (CallNames e) (cut_short stop out).1.calls
    cut_calls stops.None out n = n
    cut_calls (stops.Fail call keep) out n = n
    cut_calls (stops.Cut call keep) out n = at (nat_lt 0 call && nat_le call (length out.calls))
      where
        at : (b : Bool) → Each (CallNames e) (pair (stops.Cut call keep) out call b).1.calls
        at true = Each-take (CallNames e) (call - 1) out.calls n
        at false = n

    cut_handed : ((c : Certificate) → Good c → Names e (certificate_subject c)) → (stop : Stop) (out : StepOut) → AllForVoter out.handed → Each (IsProposalOf e) out.handed
        → Each (InMessage Good (cut_short stop out).1.calls) (cut_short stop out).1.handed → Each (HandedNames e) (cut_short stop out).1.handed
    cut_handed names stops.None out v p g = batcher_handed e Good out.calls out.handed names v p g
    cut_handed names (stops.Fail call keep) out v p g = batcher_handed e Good out.calls out.handed names v p g
    cut_handed names (stops.Cut call keep) out v p g = at (nat_lt 0 call && nat_le call (length out.calls)) g
      where
        at : (b : Bool) → Each (InMessage Good (pair (stops.Cut call keep) out call b).1.calls) (pair (stops.Cut call keep) out call b).1.handed → Each (HandedNames e) (pair (stops.Cut call keep) out call b).1.handed
        at true k = tt
        at false k = batcher_handed e Good out.calls out.handed names v p k

-- a step of the resolver
resolver_calls_name : (e : ℕ) (cs : List Call) → list_all is_call_of_resolver cs ≡ true → Each (CallNames e) cs
resolver_calls_name e [] h = tt
resolver_calls_name e (calls.Block who why ∷ cs) h = (tt, resolver_calls_name e cs h)
resolver_calls_name e (calls.Send channels.Resolver to bytes ∷ cs) h = (tt, resolver_calls_name e cs h)
resolver_calls_name e (calls.Send channels.Vote to bytes ∷ cs) h = cc
resolver_calls_name e (calls.Send channels.Certificate to bytes ∷ cs) h = cc
resolver_calls_name e (calls.Append n a ∷ cs) h = cc
resolver_calls_name e (calls.Sync n ∷ cs) h = cc
resolver_calls_name e (calls.Prune n ∷ cs) h = cc
resolver_calls_name e (calls.Report a ∷ cs) h = cc
resolver_calls_name e (calls.Relay payload plan ∷ cs) h = cc

resolver_hands : (e : ℕ) (Good : Certificate → Type 0) (cs : List Call) (hs : List Handed) → list_all is_handed_by_resolver hs ≡ true → ((c : Certificate) → Good c → Names e (certificate_subject c))
    → Each (InMessage Good cs) hs → Each (HandedNames e) hs
resolver_hands e Good cs [] h names g = tt
resolver_hands e Good cs (handed.Handler message ∷ hs) h names g = (tt, resolver_hands e Good cs hs h names g.1)
resolver_hands e Good cs (handed.Voter (voter_messages.Verified c) ∷ hs) h names g = (names c g.0, resolver_hands e Good cs hs h names g.1)
resolver_hands e Good cs (handed.Voter (voter_messages.Proposal p) ∷ hs) h names g = cc
resolver_hands e Good cs (handed.Voter (voter_messages.Timeout round reason) ∷ hs) h names g = cc
resolver_hands e Good cs (handed.Batcher message ∷ hs) h names g = cc
resolver_hands e Good cs (handed.Resolver message ∷ hs) h names g = cc

resolver_turn : (e : ℕ) (Good : Certificate → Type 0) (made : EngineMade) (past : List Did) (did : Did) → IsOfResolver did.out → IsApart did → is_start did.taken ≡ false → IsNamedEngine e made past → IsStepNamed e Good made past did
resolver_turn e Good made past did r apart no_start h =
    record {
      calls = resolver_calls_name e did.out.calls r.calls;
      handed = λ names g. resolver_hands e Good did.out.calls did.out.handed r.handed names g;
      taken = λ t q. absurd (never t q);
      place = unseen_place e made did past apart.voter no_start h.place;
    }
  where
    never : (t : batcher.Timed) → given_to_batcher did ≡ Some t → ⊥
    never t q = (let none : given_to_batcher did ≡ None = apart.batcher in cc)

held_or : (e : ℕ) (message : batcher_message.Message) → BatcherNames e message → InputNames e (batcher_inputs.Mail message)
held_or e (batcher_messages.Constructed (votes.Notarize v)) n = n
held_or e (batcher_messages.Constructed (votes.Nullify v)) n = n
held_or e (batcher_messages.Constructed (votes.Finalize v)) n = n
held_or e (batcher_messages.Update current leader finalized proposal) n = tt

in_voter : (e : ℕ) (message : voter_message.Message) → VoterNames e message → NamesInput e (voter_inputs.Mail message)
in_voter e (voter_messages.Verified c) n = n
in_voter e (voter_messages.Proposal p) n = n
in_voter e (voter_messages.Timeout round reason) n = tt

module _ (e : ℕ) (Good : Certificate → Type 0) (made : EngineMade) (past : List Did) where
  batcher_step : (now : ℕ) (stop : Stop) (o : Option batcher_message.Message) → received (engine.batcher_mail made past) ≡ o → IsNamedEngine e made past
      → IsStepNamed e Good made past (engine.on_batcher_mail made past now stop o)
  batcher_step now stop None q h = held_nothing e Good made past sources.Batcher now stop refl (λ input t. cc) h
  batcher_step now stop (Some message) q h =
      let mail = batcher_holds (BatcherNames e) (VoterNames e) (λ c. Unit {0}) made past (all_handed e past h.history) in
      let came = holds_received (BatcherNames e) (engine.batcher_mail made past) message mail q in
      batcher_turn e Good made past (engine.Took sources.Batcher (Some (handed.Batcher message))) (batcher_inputs.Mail message) now stop
      (λ i t. sym (some_is (batcher_inputs.Mail message) i t)) (λ n s o out. (refl, refl)) (held_or e message came) h

  voter_step : (now : ℕ) (stop : Stop) (o : Option voter_message.Message) → received (engine.voter_mail made past) ≡ o → IsNamedEngine e made past
      → IsStepNamed e Good made past (engine.on_voter_mail made past now stop o)
  voter_step now stop None q h = held_nothing e Good made past sources.Voter now stop refl (λ input t. cc) h
  voter_step now stop (Some message) q h =
      let mail = voter_holds (BatcherNames e) (VoterNames e) (λ c. Unit {0}) made past (all_handed e past h.history) in
      let came = holds_received (VoterNames e) (engine.voter_mail made past) message mail q in
      voter_turn e Good made past (engine.on_voter_mail made past now stop (Some message)) (voter_inputs.Mail message) now stop refl refl refl (λ input t. cc) (in_voter e message came) h

  own_step : (source : StepSource) (input : VoterInput) (now : ℕ) (stop : Stop)
      → given_to_voter (engine.on_voter made past source input now stop) ≡ Some (Stepped input now stop) → ((i : BatcherInput) → input_of_batcher (engine.Took source None) ≡ Some i → InputNames e i)
      → NamesInput e input → IsNamedEngine e made past → IsStepNamed e Good made past (engine.on_voter made past source input now stop)
  own_step source input now stop q none given h = voter_turn e Good made past (engine.on_voter made past source input now stop) input now stop q refl refl none given h

  any_step : (source : StepSource) (now : ℕ) (stop : Stop) → IsNamedEngine e made past → IsStepNamed e Good made past (engine.stepped made past source now stop)
  unfolding engine.stepped
  any_step sources.Batcher now stop h = batcher_step now stop (received (engine.batcher_mail made past)) refl h
  any_step sources.Voter now stop h = voter_step now stop (received (engine.voter_mail made past)) refl h
  any_step sources.Timer now stop h = own_step sources.Timer voter_inputs.Timer now stop refl (λ input t. cc) tt h
  any_step sources.Propose now stop h = own_step sources.Propose voter_inputs.Propose now stop refl (λ input t. cc) tt h
  any_step sources.Verify now stop h = own_step sources.Verify voter_inputs.Verify now stop refl (λ input t. cc) tt h
  any_step sources.Certify now stop h = own_step sources.Certify voter_inputs.Certify now stop refl (λ input t. cc) tt h
  any_step sources.Resolver now stop h = resolver_turn e Good made past (engine.stepped made past sources.Resolver now stop) (stepped_resolver made past now stop) (stepped_resolver_apart made past now stop) (resolver_no_start made past now stop) h
  any_step sources.Handler now stop h = resolver_turn e Good made past (engine.stepped made past sources.Handler now stop) (stepped_handler made past now stop) (stepped_handler_apart made past now stop) (handler_no_start made past now stop) h
  any_step sources.Fetch now stop h = resolver_turn e Good made past (engine.stepped made past sources.Fetch now stop) (stepped_fetcher made past now stop) (stepped_fetcher_apart made past now stop) (fetcher_no_start made past now stop) h

  either : (sender : ℕ) (channel : Channel) (bytes : List ℕ) (now : ℕ) → IsNamedEngine e made past → IsStepNamed e Good made past (engine.let_in made past sender channel bytes now)
      → IsStepNamed e Good made past (engine.heard made past sender channel bytes now)
  either sender channel bytes now h l =
      heard_either (IsStepNamed e Good made past) made past sender channel bytes now
      (nothing_done e Good made past (engine.Heard sender channel bytes) now stops.None outcomes.Refused refl refl (λ t q. cc) h) l

  heard_step : (sender : ℕ) (channel : Channel) (bytes : List ℕ) (now : ℕ) → IsNamedEngine e made past → IsStepNamed e Good made past (engine.heard made past sender channel bytes now)
  unfolding engine.let_in
  heard_step sender channels.Vote bytes now h =
      either sender channels.Vote bytes now h
      (batcher_turn e Good made past (engine.Heard sender channels.Vote bytes) (batcher_inputs.Vote sender bytes) now stops.None
      (λ i t. sym (some_is (batcher_inputs.Vote sender bytes) i t)) (λ n s o out. (refl, refl)) tt h)
  heard_step sender channels.Certificate bytes now h =
      either sender channels.Certificate bytes now h
      (batcher_turn e Good made past (engine.Heard sender channels.Certificate bytes) (batcher_inputs.Certificate sender bytes) now stops.None
      (λ i t. sym (some_is (batcher_inputs.Certificate sender bytes) i t)) (λ n s o out. (refl, refl)) tt h)
  heard_step sender channels.Resolver bytes now h =
      resolver_turn e Good made past (engine.heard made past sender channels.Resolver bytes now) (heard_by_resolver made past sender bytes now) (heard_apart made past sender bytes now)
      (heard_no_start made past sender channels.Resolver bytes now) h

desk_answered : (e number : ℕ) (answer : Answer) (s : voter.Standing) → NamesDesk e s.desk → NamesDesk e (voter.answered number answer s).desk
unfolding voter.answered
desk_answered e number answer s h = at (voter.takes_answer s number answer)
  where
    one : (p : Pending) (b : Bool) → p.context.round.epoch ≡ e → (if b then record p { is_answered = true } else p).context.round.epoch ≡ e
    one p true n = n
    one p false n = n

    marked : (o : Option Pending) → NamesPending e o → NamesPending e (option_map (voter.marked_answered number) o)
    marked None n = tt
    marked (Some p) n = one p (p.number == number) n

    at : (b : Bool) → NamesDesk e (if b
        then record {
          desk = record s.desk { proposal = option_map (voter.marked_answered number) s.desk.proposal };
          answers = s.answers ++ (number, answer) ∷ [];
        }
        else s).desk
    at true = record { known = h.known; pending = marked s.desk.proposal h.pending }
    at false = h

replied_place : (e : ℕ) (made : EngineMade) (past : List Did) (did : Did) (number : ℕ) (answer : Answer) → given_to_voter did ≡ Some (Answered number answer) → is_start did.taken ≡ false
    → IsPlaceNamed e (place_in made past) → IsPlaceNamed e (place_in made (did ∷ past))
unfolding place_of
replied_place e made past did number answer n f h =
    let p = place_then made did past (Answered number answer) n f in
    subst (IsPlaceNamed e) (sym (ap (λ v. place_of v (voter_past (did ∷ past))) p.0 ∙ ap (place_of (voter_in made past)) p.1))
    (record { desk = desk_answered e number answer (place_in made past).standing h.desk; records = h.records })

taken_step : (setup : Setup) (before : List Noted) (e : ℕ) (Good : Certificate → Type 0) (at : Node) (made : EngineMade) (past : List Did) (did : Did) → IsTaken setup before at made past did → IsNamedEngine e made past
    → IsStepNamed e Good made past did
taken_step setup before e Good at made past did t h = elim t [
  | inl p ↦ subst (IsStepNamed e Good made past) (sym p.is) (heard_step e Good made past p.packet.from.member p.packet.channel p.packet.bytes (clock_of before) h)
  | inr other ↦ elim other [
    | inl s ↦ subst (IsStepNamed e Good made past) (sym s.is) (any_step e Good made past s.source (clock_of before) s.stop h)
    | inr r ↦ subst (IsStepNamed e Good made past) (sym r.is) (record {
      calls = tt;
      handed = λ a b. tt;
      taken = λ t q. cc;
      place = replied_place e made past (engine.replied r.number r.answer (clock_of before)) r.number r.answer refl refl h.place;
    })
  ]
]

-- ---- a start

pub rules_epoch : (setting : Setting) (member start : ℕ) → (rules_of setting member start).epoch ≡ setting.setup.epoch
unfolding rules_of
rules_epoch setting member start = refl

engine_rules : (setting : Setting) (at : Node) (floor : Option Finalization) (js : List Section) (start : ℕ) → ((engine_at setting at floor js).voter start).rules.epoch ≡ setting.setup.epoch
unfolding engine_of
engine_rules setting at floor js start = rules_epoch setting at.member start

engine_batcher : (setting : Setting) (at : Node) (floor : Option Finalization) (js : List Section) → (engine_at setting at floor js).batcher.epoch ≡ setting.setup.epoch
unfolding engine_of batcher_of
engine_batcher setting at floor js = refl

start_names : (setting : Setting) (member now : ℕ) (floor : Floor) (records : List Artifact) → NamesFloor setting.setup.epoch floor → ((r : Artifact) → Contains records r → NamesRecord setting.setup.epoch r)
    → AllNamed setting.setup.epoch (voter.started (rules_of setting member now) now floor records)
start_names setting member now floor records f r =
    let rules = rules_of setting member now in
    let same = rules_epoch setting member now in
    subst (λ n. AllNamed n (voter.started rules now floor records)) same
    (start_named rules now floor records (subst (λ n. NamesFloor n floor) (sym same) f) (λ a k. subst (λ n. NamesRecord n a) (sym same) (r a k)))

start_place : (e : ℕ) (made : VoterMade) (now : ℕ) (stop : Stop) → AllNamed e (start_at made now made.sections) → InJournal (NamesRecord e) made.sections → IsPlaceNamed e (place_of made (Started now stop ∷ []))
unfolding place_of
start_place e made now stop named records =
    record {
      desk = at (unreadable stop);
      records = start_keeps (NamesRecord e) stop made.floor (start_at made now made.sections) made.sections (in_appends e (start_at made now made.sections).calls named.in_calls) records;
    }
  where
    at : (b : Bool) → NamesDesk e (if b then (place_of made []).standing else rest (start_at made now made.sections) []).desk
    at true = record { known = tt; pending = tt }
    at false = record { known = named.in_known; pending = named.in_pending }

start_engine : (setting : Setting) (at : Node) (floor : Option Finalization) (stop : Stop) (js : List Section) (now : ℕ) → NamesFloor setting.setup.epoch (floor_of setting.genesis floor) → InJournal (NamesRecord setting.setup.epoch) js
    → IsPlaceNamed setting.setup.epoch (place_in (engine_at setting at floor js) (by_voter Began now stop (given_start setting at floor js now stop) ∷ []))
unfolding started_at voter_past engine_of
start_engine setting at floor stop js now f records =
    start_place setting.setup.epoch ((engine_at setting at floor js).voter now) now stop (start_names setting at.member now (floor_of setting.genesis floor) (replayed js) f records) records

-- ---- the lives

lives_on : (e : ℕ) (made : EngineMade) (past : List Did) → IsNamedEngine e made past → IsLifeNamed e (going_on made past)
unfolding sections_of
lives_on e made past h = at (runs past)
  where
    at : (b : Bool) → IsLifeNamed e (if b then Running made past else Stopped (sections_of made past))
    at true = h
    at false = h.place.records

lives_then : (setting : Setting) (noted : Noted) (before : List Noted) (at : Node) → ((node : Node) → is_of node noted.event ≡ is_same_node at node)
    → IsLifeNamed setting.setup.epoch (after setting noted.event noted.did (life_in setting before at)) → ((node : Node) → runs_engine setting.setup node.member ≡ true → IsLifeNamed setting.setup.epoch (life_in setting before node))
    → (node : Node) → runs_engine setting.setup node.member ≡ true → IsLifeNamed setting.setup.epoch (life_in setting (noted ∷ before) node)
lives_then setting noted before at of life old node good = each (is_same_node at node) refl
  where
    each : (t : Bool) → is_same_node at node ≡ t → IsLifeNamed setting.setup.epoch (life_in setting (noted ∷ before) node)
    each true e =
        subst (λ (n : Node). IsLifeNamed setting.setup.epoch (life_in setting (noted ∷ before) n)) (same_node at node e)
        (subst (IsLifeNamed setting.setup.epoch) (sym (life_then setting noted before at (of at ∙ same_self at))) life)
    each false e = subst (IsLifeNamed setting.setup.epoch) (sym (life_still setting noted before node (of node ∙ e))) (old node good)

unmoved : (setting : Setting) (noted : Noted) (before : List Noted) → ((node : Node) → runs_engine setting.setup node.member ≡ true → is_of node noted.event ≡ false)
    → ((node : Node) → runs_engine setting.setup node.member ≡ true → IsLifeNamed setting.setup.epoch (life_in setting before node))
    → (node : Node) → runs_engine setting.setup node.member ≡ true → IsLifeNamed setting.setup.epoch (life_in setting (noted ∷ before) node)
unmoved setting noted before apart old node runs_one = subst (IsLifeNamed setting.setup.epoch) (sym (life_still setting noted before node (apart node runs_one))) (old node runs_one)

-- ---- the run

pub good_names : (setting : Setting) (noted : List Noted) → IsMostlyHonest setting noted → OwnName setting.setup noted → (c : Certificate) → IsGood (backers_of setting noted) c
    → Names setting.setup.epoch (certificate_subject c)
good_names setting noted o own c good =
    let p = people_of setting noted o (floors_hold setting noted o) in
    backed_names setting noted p (statement_of c) o.some o.few own (good_backed setting noted o.ran p c good)

floor_names : (setting : Setting) (before : List Noted) (floor : Option Finalization) → IsMostlyHonest setting before → OwnName setting.setup before → is_own_floor setting.setup before floor ≡ true
    → NamesFloor setting.setup.epoch (floor_of setting.genesis floor)
floor_names setting before None o own e = tt
floor_names setting before (Some f) o own e =
    let fine = fine_of setting before o in
    good_names setting before o own (certificates.Finalization f) (reported_good (backers_of setting before) f before e fine.said)

begin_at : (setting : Setting) (before : List Noted) (at : Node) (floor : Option Finalization) (stop : Stop) (js : List Section) → life_in setting before at ≡ Stopped js → runs_engine setting.setup at.member ≡ true
    → NamesFloor setting.setup.epoch (floor_of setting.genesis floor) → IsNamedRun setting before
    → IsNamedRun setting (noted_with setting.setup before (events.Start at floor stop) at (Some tooks.Floor) (engine.begun (engine_at setting at floor js) (clock_of before) stop) ∷ before)
unfolding after
begin_at setting before at floor stop js stopped runs_one f old =
    let e = setting.setup.epoch in
    let now = clock_of before in
    let made = engine_at setting at floor js in
    let did = engine.begun made now stop in
    let by : Did = by_voter Began now stop (given_start setting at floor js now stop) in
    let same : did ≡ by = begun_gives setting at floor js now stop in
    let records : InJournal (NamesRecord e) js = subst (IsLifeNamed e) stopped (old.lives at runs_one) in
    let d = voter.started (rules_of setting at.member now) now (floor_of setting.genesis floor) (replayed js) in
    let named = start_names setting at.member now (floor_of setting.genesis floor) (replayed js) f records in
    let noted = noted_with setting.setup before (events.Start at floor stop) at (Some tooks.Floor) did in
    record {
      own = (subst (λ (x : Did). Each (CallNames e) x.out.calls) (sym same) (own_calls e by.out.calls (start_calls e stop (floor_of setting.genesis floor) d js named.in_calls)), old.own);
      lives = lives_then setting noted before at (λ node. refl)
          (subst (λ l. IsLifeNamed e (going_on (engine_of setting at.member (floor_of setting.genesis floor) (sections_in l)) (did ∷ []))) (sym stopped)
          (lives_on e made (did ∷ []) (record {
            batcher = engine_batcher setting at floor js;
            rules = engine_rules setting at floor js;
            history = (
              record {
                handed = subst (λ (x : Did). Each (HandedNames e) x.out.handed) (sym same) (voter_handed e by.out.handed (start_handed e stop (floor_of setting.genesis floor) d js named.in_handed));
                taken = λ g t. (let k : input_of_batcher Began ≡ Some g.input = subst (λ (x : Did). input_of_batcher x.taken ≡ Some g.input) same (given_input did g t) in cc);
              },
              tt,
            );
            place = subst (λ (x : Did). IsPlaceNamed e (place_in made (x ∷ []))) (sym same) (start_engine setting at floor stop js now f records);
          }))) old.lives;
    }

going_at : (setting : Setting) (before : List Noted) (event : Event) (at : Node) (took : Option Took) (did : Did) (made : EngineMade) (past : List Did)
    → ((node : Node) → is_of node event ≡ is_same_node at node) → life_in setting before at ≡ Running made past → after setting event (Some did) (Running made past) ≡ going_on made (did ∷ past)
    → IsTaken setting.setup before at made past did → runs_engine setting.setup at.member ≡ true → IsMostlyHonest setting (noted_with setting.setup before event at took did ∷ before) → IsNamedRun setting before
    → IsNamedRun setting (noted_with setting.setup before event at took did ∷ before)
going_at setting before event at took did made past of running goes taken runs_one o old =
    let e = setting.setup.epoch in
    let noted = noted_with setting.setup before event at took did in
    let h : IsNamedEngine e made past = subst (IsLifeNamed e) running (old.lives at runs_one) in
    let s = taken_step setting.setup before e (IsGood (backers_of setting (noted ∷ before))) at made past did taken h in
    let own : OwnName setting.setup (noted ∷ before) = (s.calls, old.own) in
    let fine = fine_of setting (noted ∷ before) o in
    let said = fine.said.0 in
    let hs = s.handed (good_names setting (noted ∷ before) o own) said.handed in
    record {
      own = own;
      lives = lives_then setting noted before at of
          (subst (λ l. IsLifeNamed e (after setting event (Some did) l)) (sym running)
          (subst (IsLifeNamed e) (sym goes)
          (lives_on e made (did ∷ past) (record { batcher = h.batcher; rules = h.rules; history = (record { handed = hs; taken = s.taken }, h.history); place = s.place })))) old.lives;
    }

crash_at : (setting : Setting) (before : List Noted) (at : Node) → runs_engine setting.setup at.member ≡ true → IsNamedRun setting before → IsNamedRun setting (noted_blank before (events.Crash at) (Some at) ∷ before)
unfolding after
crash_at setting before at runs_one old =
    record {
      own = (tt, old.own);
      lives = lives_then setting (noted_blank before (events.Crash at) (Some at)) before at (λ node. refl)
          (crash_keeps (NamesRecord setting.setup.epoch) 0 (sections_in (life_in setting before at)) (life_records setting.setup.epoch (life_in setting before at) (old.lives at runs_one))) old.lives;
    }

tick_at : (setting : Setting) (before : List Noted) (ms : ℕ) → IsNamedRun setting before → IsNamedRun setting (noted_blank before (events.Tick ms) None ∷ before)
tick_at setting before ms old =
    record { own = (tt, old.own); lives = unmoved setting (noted_blank before (events.Tick ms) None) before (λ node runs_one. refl) old.lives }

turn_named : (setting : Setting) (before : List Noted) (event : Event) (noted : Noted) → IsTurn setting before event noted → IsMostlyHonest setting (noted ∷ before)
    → IsNamedRun setting before → IsNamedRun setting (noted ∷ before)
turn_named setting before event noted t o old = elim t [
  | inl b ↦ subst (λ n. IsNamedRun setting (n ∷ before)) b.is
      (begin_at setting before b.at b.floor b.stop b.sections b.stopped b.runs
      (floor_names setting before b.floor (earlier setting noted before o) old.own b.own) old)
  | inr other ↦ elim other [
    | inl g ↦ subst (λ n. IsMostlyHonest setting (n ∷ before) → IsNamedRun setting (n ∷ before)) g.is
        (λ k. going_at setting before event g.at g.took g.did g.made g.past g.of g.running g.goes g.taken g.runs k old) o
    | inr rest ↦ elim rest [
      | inl c ↦ subst (λ n. IsNamedRun setting (n ∷ before)) c.is (crash_at setting before c.at c.runs old)
      | inr last ↦ elim last [
        | inl k ↦ subst (λ n. IsNamedRun setting (n ∷ before)) k.is (tick_at setting before k.ms old)
        | inr a ↦ record { own = (subst (Each (CallNames setting.setup.epoch)) (sym a.calls) tt, old.own); lives = unmoved setting noted before a.engines old.lives }
      ]
    ]
  ]
]

run_named : (setting : Setting) (noted : List Noted) → IsMostlyHonest setting noted → IsNamedRun setting noted
unfolding IsRun life_in replayed
run_named setting [] o = record { own = tt; lives = λ node runs_one a c. absurd (not_in_empty a c) }
run_named setting (noted ∷ before) o =
    turn_named setting before o.ran.0 noted (entry_turn setting before o.ran.0 noted o.ran.1) o (run_named setting before (earlier setting noted before o))

-- each own vote of the run names the setup's epoch, and so does the batcher of an engine that runs
pub run_own : (setting : Setting) (noted : List Noted) → IsMostlyHonest setting noted → OwnName setting.setup noted
run_own setting noted o = (let r = run_named setting noted o in r.own)

pub engine_epoch : (setting : Setting) (noted : List Noted) (node : Node) (made : EngineMade) (past : List Did) → IsMostlyHonest setting noted → runs_engine setting.setup node.member ≡ true
    → life_in setting noted node ≡ Running made past → made.batcher.epoch ≡ setting.setup.epoch
engine_epoch setting noted node made past o runs_one running =
    let r = run_named setting noted o in
    let h : IsNamedEngine setting.setup.epoch made past = subst (IsLifeNamed setting.setup.epoch) running (r.lives node runs_one) in
    h.batcher

-- each certificate of the run names the setup's epoch
pub run_names : (setting : Setting) (noted : List Noted) → IsMostlyHonest setting noted → AllName setting.setup noted
run_names setting noted o =
    let r = run_named setting noted o in
    backers_named setting noted o r.own
