-- Whatever a fine engine takes, it says backed certificates alone, and stays fine.
use Rattle.std.proofs.Common.{◌≡◌, ℕ, Bool, true, false, List, [], ◌∷◌, Contains, Option, Some, None, refl, sym, ap, ◌∙◌, subst, inl, inr, if◌then◌else◌}
use Rattle.simplex_values.specs.declared.answer.Answer.{Answer}
use Rattle.simplex_values.specs.declared.plan.Channel.{Channel}
use Rattle.simplex_values.specs.declared.plan.Channel.TheVariants as channels
use Rattle.simplex_values.specs.declared.plan.Recipients.TheVariants as recipients
use Rattle.simplex_wire.specs.declared.attestation.Attestation.{Attestation}
use Rattle.simplex_wire.specs.declared.certificate.Certificate.{Certificate}
use Rattle.simplex_wire.specs.declared.vote.Vote.{Vote}
use Rattle.simplex_wire.specs.Fields.{certificate_subject, certificate_signatures}
use Rattle.simplex_wire.specs.Message as format
use Rattle.simplex_mailbox.specs.Mail.{received}
use Rattle.simplex_messages.specs.declared.batcher.Message as batcher_message
use Rattle.simplex_messages.specs.declared.batcher.BatcherInput.{BatcherInput}
use Rattle.simplex_messages.specs.declared.batcher.BatcherInput.TheVariants as batcher_inputs
use Rattle.simplex_messages.specs.declared.call.Call.{Call}
use Rattle.simplex_messages.specs.declared.call.Call.TheVariants as calls
use Rattle.simplex_messages.specs.declared.voter.Message as voter_message
use Rattle.simplex_messages.specs.declared.voter.Message.TheVariants as voter_messages
use Rattle.simplex_messages.specs.declared.voter.VoterInput.{VoterInput}
use Rattle.simplex_messages.specs.declared.voter.VoterInput.TheVariants as voter_inputs
use Rattle.simplex_messages.specs.declared.handed.Handed.{Handed}
use Rattle.simplex_messages.specs.declared.handed.Handed.TheVariants as handed
use Rattle.simplex_messages.specs.declared.step.Outcome.{Outcome}
use Rattle.simplex_messages.specs.declared.step.Outcome.TheVariants as outcomes
use Rattle.model_steps.specs.Batcher as batcher
use Rattle.simplex_messages.specs.declared.step.StepOut.{StepOut}
use Rattle.simplex_messages.specs.declared.step.Stop.{Stop}
use Rattle.simplex_messages.specs.declared.step.Stop.TheVariants as stops
use Rattle.simplex_messages.specs.Step.{no_out}
use Rattle.simplex_transcript.specs.declared.event.StepSource.{StepSource}
use Rattle.simplex_transcript.specs.declared.event.StepSource.TheVariants as sources
use Rattle.simplex_transcript.specs.declared.node.Node.{Node}
use Rattle.model_steps.specs.Desk.{Doing}
use Rattle.model_steps.specs.Performed.{Performed}
use Rattle.model_steps.specs.Voter as voter
use Rattle.model_steps.specs.VoterLife.{Stepped, Answered, place_of, step_given}
use Rattle.model_steps.specs.Engine as engine
use Rattle.model_steps.specs.Engine.{EngineMade, Did, started_at, is_start, given_to_voter, voter_in, voter_past, given_to_batcher, input_of_batcher}
use Rattle.model_run.specs.Life.{Noted, clock_of}
use Rattle.model_run.specs.Members.{members_of}
use Rattle.law_agreement.proofs.ListFacts.{Contains-here}
use Rattle.law_run.specs.Sayings.{Each, InMessage, InRecord, InKnown, InInput, AllSaid}
use Rattle.law_run.proofs.Events.{place_in, step_gives, place_same, place_then, step_place, idle_place, answered_known}
use Rattle.law_run.proofs.NodeKeeping.{step_keeps}
use Rattle.law_run.proofs.Mails.{holds_received}
use Rattle.law_run.proofs.Telling.{some_is, stepped_says, said}
use Rattle.law_run.proofs.Backers.{Backers}
use Rattle.law_run.specs.Fitting.{HandedFits}
use Rattle.law_run.proofs.Good.{IsGood, IsSized}
use Rattle.law_run.proofs.Hearing.{InOwnMail, InVoterMail, IsFine, IsFineInput, handed_all, batcher_said, batcher_fine, cut_said, cut_fine}
use Rattle.law_run.proofs.Mailing.{batcher_holds, voter_holds, InResolverMail, resolver_holds}
use Rattle.law_run.proofs.Packets.{IsFinePacket, FineOn, SpokenOn}
use Rattle.law_run.proofs.Delivered.{packet_delivered}
use Rattle.law_run.proofs.Turns.{IsTaken}
use Rattle.law_member.specs.Storing.{IsSigned}
use Rattle.law_run.proofs.Signed.{InOwn, performed_signed}
use Rattle.simplex_values.specs.declared.proposal.Subject.{Subject}
use Rattle.simplex_wire.specs.declared.resolver.ResolverBody.{ResolverBody}
use Rattle.simplex_wire.specs.declared.resolver.ResolverBody.TheVariants as bodies
use Rattle.simplex_wire.specs.Certified.{is_certified}
use Rattle.simplex_messages.specs.declared.resolver.MailboxMessage.{MailboxMessage}
use Rattle.simplex_messages.specs.declared.resolver.HandlerMessage.{HandlerMessage}
use Rattle.simplex_messages.specs.declared.resolver.ResolverInput.{ResolverInput}
use Rattle.simplex_messages.specs.declared.resolver.ResolverInput.TheVariants as resolver_inputs
use Rattle.model_resolver.specs.Resolver as resolver
use Rattle.model_resolver.specs.Views.{is_reached}
use Rattle.law_run.specs.Backed.{read_certificate, in_body, in_response, certificate_on}
use Rattle.law_run.proofs.Fetching.{BodyBrings}
use Rattle.law_run.proofs.Resolving.{Brings, InGiven, InHandedOn, InResolverInput, PacketBrings, handler_sound, resolver_calls, resolver_handed}
use Rattle.law_run.proofs.BackingEngines.{IsFineEngine, IsFineRun, IsPlaceFine, IsResolverOf}
use Rattle.law_run.proofs.Handing.{own_fine}
use Rattle.law_run.proofs.Speaking.{voter_calls}
use Rattle.law_run.proofs.Letting.{heard_either, given_input, held_given, told_alone, nothing_given}
use Rattle.law_run.proofs.Beginning.{appended_good}

-- ---- a step

-- what one event of an engine gives, where its votes were spoken
pub record IsStepFine (backers : Backers) (member : ℕ) (made : EngineMade) (past : List Did) (did : Did) : Type 0 where
  pub said : AllSaid (IsGood backers) did.out
  pub taken : (given : batcher.Timed) → given_to_batcher did ≡ Some given → IsFineInput backers given.input
  pub given : Each (InGiven made.resolver (IsGood backers)) (engine.given_to_resolver did)
  pub place : IsPlaceFine backers (place_in made (did ∷ past))
  pub fine : ((v : Vote) → Contains did.out.calls (calls.Send channels.Vote recipients.All (format.vote.spelling v)) → SpokenOn backers member channels.Vote (format.vote.spelling v))
      → Each HandedFits did.out.handed → Each (IsFine backers) did.out.handed

nothing_said : (backers : Backers) → AllSaid (IsGood backers) no_out
nothing_said backers = record { calls = tt; handed = tt; added = tt }

unseen_place : (backers : Backers) (made : EngineMade) (did : Did) (past : List Did) → given_to_voter did ≡ None → is_start did.taken ≡ false
    → IsPlaceFine backers (place_in made past) → IsPlaceFine backers (place_in made (did ∷ past))
unseen_place backers made did past e f h =
    let p = place_same made did past e f in
    subst (IsPlaceFine backers) (sym (ap (λ v. place_of v (voter_past (did ∷ past))) p.0 ∙ ap (place_of (voter_in made past)) p.1)) h

voter_place : (backers : Backers) (made : EngineMade) (past : List Did) (did : Did) (input : VoterInput) (now : ℕ) (stop : Stop) → given_to_voter did ≡ Some (Stepped input now stop) → is_start did.taken ≡ false
    → InInput (IsGood backers) input → IsPlaceFine backers (place_in made past) → IsPlaceFine backers (place_in made (did ∷ past))
voter_place backers made past did input now stop e f given h =
    let p = place_then made did past (Stepped input now stop) e f in
    subst (IsPlaceFine backers) (sym (ap (λ v. place_of v (voter_past (did ∷ past))) p.0 ∙ ap (place_of (voter_in made past)) p.1))
    (at (voter.stepped (voter_in made past).rules now (place_in made past).standing input) refl)
  where
    at : (o : Option Doing) → voter.stepped (voter_in made past).rules now (place_in made past).standing input ≡ o → IsPlaceFine backers (place_of (voter_in made past) (Stepped input now stop ∷ voter_past past))
    at None g = subst (IsPlaceFine backers) (sym (idle_place (voter_in made past) (voter_past past) input now stop g)) h
    at (Some d) g =
        let says = stepped_says (IsGood backers) (voter_in made past).rules now (place_in made past).standing input d given h.known g in
        subst (IsPlaceFine backers) (sym (step_place (voter_in made past) (voter_past past) input now stop d g))
        (record {
          known = says.in_known;
          records = step_keeps (InRecord (IsGood backers)) stop d (place_in made past).sections (appended_good backers d.calls (voter_calls (IsGood backers) d.calls says.in_calls)) h.records;
        })

answered_place : (backers : Backers) (made : EngineMade) (past : List Did) (did : Did) (number : ℕ) (answer : Answer) → given_to_voter did ≡ Some (Answered number answer) → is_start did.taken ≡ false
    → IsPlaceFine backers (place_in made past) → IsPlaceFine backers (place_in made (did ∷ past))
unfolding place_of
answered_place backers made past did number answer e f h =
    let p = place_then made did past (Answered number answer) e f in
    subst (IsPlaceFine backers) (sym (ap (λ v. place_of v (voter_past (did ∷ past))) p.0 ∙ ap (place_of (voter_in made past)) p.1))
    (record {
      known = subst (InKnown (IsGood backers)) (sym (answered_known number answer (place_in made past).standing)) h.known;
      records = h.records;
    })

-- what a voter's step says, and whose votes it hands on
voter_said : (backers : Backers) (made : EngineMade) (past : List Did) (input : VoterInput) (now : ℕ) (stop : Stop) → InInput (IsGood backers) input → InKnown (IsGood backers) (place_in made past).standing.desk.known
    → AllSaid (IsGood backers) (step_given (voter_in made past) (voter_past past) input now stop).out
voter_said backers made past input now stop given k =
    at (voter.stepped (voter_in made past).rules now (place_in made past).standing input) refl
  where
    at : (o : Option Doing) → voter.stepped (voter_in made past).rules now (place_in made past).standing input ≡ o
        → AllSaid (IsGood backers) (step_given (voter_in made past) (voter_past past) input now stop).out
    at None e = subst (λ (x : Performed). AllSaid (IsGood backers) x.out) (sym (step_gives (voter_in made past) (voter_past past) input now stop None e)) (nothing_said backers)
    at (Some d) e =
        subst (λ (x : Performed). AllSaid (IsGood backers) x.out) (sym (step_gives (voter_in made past) (voter_past past) input now stop (Some d) e))
        (said (IsGood backers) stop d (place_in made past).sections
        (stepped_says (IsGood backers) (voter_in made past).rules now (place_in made past).standing input d given k e))

voter_signed : (made : EngineMade) (past : List Did) (input : VoterInput) (now : ℕ) (stop : Stop)
    → Each (InOwn (IsSigned (voter_in made past).rules)) (step_given (voter_in made past) (voter_past past) input now stop).out.handed
voter_signed made past input now stop = at (voter.stepped (voter_in made past).rules now (place_in made past).standing input) refl
  where
    at : (o : Option Doing) → voter.stepped (voter_in made past).rules now (place_in made past).standing input ≡ o
        → Each (InOwn (IsSigned (voter_in made past).rules)) (step_given (voter_in made past) (voter_past past) input now stop).out.handed
    at None e = subst (λ (x : Performed). Each (InOwn (IsSigned (voter_in made past).rules)) x.out.handed) (sym (step_gives (voter_in made past) (voter_past past) input now stop None e)) tt
    at (Some d) e =
        subst (λ (x : Performed). Each (InOwn (IsSigned (voter_in made past).rules)) x.out.handed) (sym (step_gives (voter_in made past) (voter_past past) input now stop (Some d) e))
        (performed_signed (voter_in made past).rules now input (place_in made past).standing stop d (place_in made past).sections e)

-- a step of the voter on an input that brings a good certificate or none
by_voter_fine : (backers : Backers) (member : ℕ) (made : EngineMade) (past : List Did) (did : Did) (input : VoterInput) (now : ℕ) (stop : Stop) → given_to_voter did ≡ Some (Stepped input now stop) → is_start did.taken ≡ false
    → did.out ≡ (step_given (voter_in made past) (voter_past past) input now stop).out → ((i : BatcherInput) → input_of_batcher did.taken ≡ Some i → IsFineInput backers i) → engine.is_of_resolver did.taken ≡ false
    → InInput (IsGood backers) input → IsFineEngine backers member made past → IsStepFine backers member made past did
by_voter_fine backers member made past did input now stop e f out taken none given h =
    let said : AllSaid (IsGood backers) did.out = subst (AllSaid (IsGood backers)) (sym out) (voter_said backers made past input now stop given h.place.known) in
    record {
      said = said;
      taken = λ t q. taken t.input (given_input did t q);
      given = told_alone (InGiven made.resolver (IsGood backers)) (λ m. tt) did none;
      place = voter_place backers made past did input now stop e f given h.place;
      fine = λ spoken fits. own_fine backers member (voter_in made past).rules did.out.calls did.out.handed (h.signs (started_at past)) spoken said.handed
          (subst (λ (x : StepOut). Each (InOwn (IsSigned (voter_in made past).rules)) x.handed) (sym out) (voter_signed made past input now stop)) fits;
    }

-- nothing was held, or a packet was refused
nothing_fine : (backers : Backers) (member : ℕ) (made : EngineMade) (past : List Did) (taken : engine.Taken) (now : ℕ) (stop : Stop) (o : Outcome)
    → given_to_voter (engine.did_of taken now stop o no_out) ≡ None → is_start taken ≡ false
    → ((t : batcher.Timed) → given_to_batcher (engine.did_of taken now stop o no_out) ≡ Some t → IsFineInput backers t.input) → engine.given_to_resolver (engine.did_of taken now stop o no_out) ≡ []
    → IsFineEngine backers member made past → IsStepFine backers member made past (engine.did_of taken now stop o no_out)
nothing_fine backers member made past taken now stop o e f none apart h =
    record {
      said = nothing_said backers;
      taken = none;
      given = subst (Each (InGiven made.resolver (IsGood backers))) (sym apart) tt;
      place = unseen_place backers made (engine.did_of taken now stop o no_out) past e f h.place;
      fine = λ s g. tt;
    }

held_nothing : (backers : Backers) (member : ℕ) (made : EngineMade) (past : List Did) (source : StepSource) (now : ℕ) (stop : Stop)
    → given_to_voter (engine.nothing_held source now stop) ≡ None → ((i : BatcherInput) → input_of_batcher (engine.Took source None) ≡ Some i → IsFineInput backers i)
    → IsFineEngine backers member made past → IsStepFine backers member made past (engine.nothing_held source now stop)
held_nothing backers member made past source now stop e none h =
    nothing_fine backers member made past (engine.Took source None) now stop outcomes.Idle e refl (λ t q. none t.input (given_input (engine.nothing_held source now stop) t q))
    (nothing_given (engine.Took source None) now stop).0 h

-- a step of the batcher on an input that is fine
by_batcher_fine : (backers : Backers) (member : ℕ) (made : EngineMade) (past : List Did) (taken : engine.Taken) (input : BatcherInput) (now : ℕ) (stop : Stop) → IsSized backers.setting.setup
    → ((i : BatcherInput) → input_of_batcher taken ≡ Some i → i ≡ input) → ((n : ℕ) (s : Stop) (o : Outcome) (out : StepOut) → (given_to_voter (engine.did_of taken n s o out) ≡ None) × (is_start taken ≡ false) × (engine.is_of_resolver taken ≡ false))
    → IsFineInput backers input → IsFineEngine backers member made past → IsStepFine backers member made past (engine.by_batcher made past taken input now stop)
unfolding engine.by_batcher
by_batcher_fine backers member made past taken input now stop sized only unseen f h =
    let did = engine.by_batcher made past taken input now stop in
    record {
      said = batcher_said backers made past taken input now stop sized h.batcher h.history f;
      taken = λ t q. subst (IsFineInput backers) (sym (only t.input (given_input did t q))) f;
      given = told_alone (InGiven made.resolver (IsGood backers)) (λ m. tt) did (unseen did.now did.stop did.outcome did.out).2;
      place = unseen_place backers made did past (unseen did.now did.stop did.outcome did.out).0 (unseen did.now did.stop did.outcome did.out).1 h.place;
      fine = λ s g. batcher_fine backers made past taken input now stop sized h.batcher h.history f;
    }

batcher_step : (backers : Backers) (member : ℕ) (made : EngineMade) (past : List Did) (now : ℕ) (stop : Stop) (o : Option batcher_message.Message) → IsSized backers.setting.setup → received (engine.batcher_mail made past) ≡ o
    → IsFineEngine backers member made past → IsStepFine backers member made past (engine.on_batcher_mail made past now stop o)
batcher_step backers member made past now stop None sized e h = held_nothing backers member made past sources.Batcher now stop refl (λ input t. cc) h
batcher_step backers member made past now stop (Some message) sized e h =
    let mail = batcher_holds (InOwnMail backers) (InVoterMail backers) (IsGood backers) made past (handed_all backers past h.history) in
    let came = holds_received (InOwnMail backers) (engine.batcher_mail made past) message mail e in
    by_batcher_fine backers member made past (engine.Took sources.Batcher (Some (handed.Batcher message))) (batcher_inputs.Mail message) now stop sized
    (λ i t. sym (some_is (batcher_inputs.Mail message) i t)) (λ n s o out. (refl, refl, refl)) came h

in_mail : (backers : Backers) (message : voter_message.Message) → InVoterMail backers message → InInput (IsGood backers) (voter_inputs.Mail message)
in_mail backers (voter_messages.Verified c) g = g
in_mail backers (voter_messages.Proposal p) g = tt
in_mail backers (voter_messages.Timeout round reason) g = tt

voter_step : (backers : Backers) (member : ℕ) (made : EngineMade) (past : List Did) (now : ℕ) (stop : Stop) (o : Option voter_message.Message) → received (engine.voter_mail made past) ≡ o
    → IsFineEngine backers member made past → IsStepFine backers member made past (engine.on_voter_mail made past now stop o)
voter_step backers member made past now stop None e h = held_nothing backers member made past sources.Voter now stop refl (λ input t. cc) h
voter_step backers member made past now stop (Some message) e h =
    let mail = voter_holds (InOwnMail backers) (InVoterMail backers) (IsGood backers) made past (handed_all backers past h.history) in
    let came = holds_received (InVoterMail backers) (engine.voter_mail made past) message mail e in
    by_voter_fine backers member made past (engine.on_voter_mail made past now stop (Some message)) (voter_inputs.Mail message) now stop refl refl refl (λ input t. cc)
    refl (in_mail backers message came) h

own_step : (backers : Backers) (member : ℕ) (made : EngineMade) (past : List Did) (source : StepSource) (input : VoterInput) (now : ℕ) (stop : Stop)
    → given_to_voter (engine.on_voter made past source input now stop) ≡ Some (Stepped input now stop) → ((i : BatcherInput) → input_of_batcher (engine.Took source None) ≡ Some i → IsFineInput backers i) → engine.is_of_resolver (engine.Took source None) ≡ false
    → InInput (IsGood backers) input → IsFineEngine backers member made past → IsStepFine backers member made past (engine.on_voter made past source input now stop)
own_step backers member made past source input now stop e none apart given h =
    by_voter_fine backers member made past (engine.on_voter made past source input now stop) input now stop e refl refl none apart given h

-- ---- a step of the resolver

in_handed : (Good : Certificate → Type 0) (made : resolver.Made) (cs : List Call) (hs : List Handed) → Each (InHandedOn made Good) hs → Each (InMessage Good cs) hs
in_handed Good made cs [] h = tt
in_handed Good made cs (handed.Voter (voter_messages.Verified c) ∷ hs) h = (h.0, in_handed Good made cs hs h.1)
in_handed Good made cs (handed.Voter (voter_messages.Proposal p) ∷ hs) h = absurd h.0
in_handed Good made cs (handed.Voter (voter_messages.Timeout round reason) ∷ hs) h = absurd h.0
in_handed Good made cs (handed.Handler message ∷ hs) h = (tt, in_handed Good made cs hs h.1)
in_handed Good made cs (handed.Batcher message ∷ hs) h = absurd h.0
in_handed Good made cs (handed.Resolver message ∷ hs) h = absurd h.0

is_handed : (backers : Backers) (made : resolver.Made) (hs : List Handed) → Each (InHandedOn made (IsGood backers)) hs → Each (IsFine backers) hs
is_handed backers made [] h = tt
is_handed backers made (handed.Voter (voter_messages.Verified c) ∷ hs) h = (h.0, is_handed backers made hs h.1)
is_handed backers made (handed.Voter (voter_messages.Proposal p) ∷ hs) h = absurd h.0
is_handed backers made (handed.Voter (voter_messages.Timeout round reason) ∷ hs) h = absurd h.0
is_handed backers made (handed.Handler message ∷ hs) h = (tt, is_handed backers made hs h.1)
is_handed backers made (handed.Batcher message ∷ hs) h = absurd h.0
is_handed backers made (handed.Resolver message ∷ hs) h = absurd h.0

nothing_added : (backers : Backers) (r : resolver.Made) (xs : List resolver.Given) (i : ResolverInput) (n : ℕ) → Each (IsGood backers) (resolver.step_out r xs i n).added
unfolding resolver.step_out
nothing_added backers r xs i n = tt

by_resolver_fine : (backers : Backers) (member : ℕ) (made : EngineMade) (past : List Did) (given : List resolver.Given) (taken : engine.Taken) (input : ResolverInput) (now : ℕ) (stop : Stop)
    → ((i : BatcherInput) → input_of_batcher taken ≡ Some i → IsFineInput backers i) → ((o : Outcome) (out : StepOut) → given_to_voter (engine.did_of taken now stop o out) ≡ None) → is_start taken ≡ false
    → ((o : Outcome) (out : StepOut) → Each (InGiven made.resolver (IsGood backers)) (engine.given_to_resolver (engine.did_of taken now stop o out)))
    → Each (InGiven made.resolver (IsGood backers)) given → InResolverInput made.resolver (IsGood backers) input → IsFineEngine backers member made past
    → IsStepFine backers member made past (engine.by_resolver made given taken input now stop)
unfolding engine.by_resolver
by_resolver_fine backers member made past given taken input now stop none unseen no_start more old g h =
    let did = engine.by_resolver made given taken input now stop in
    let out = resolver.step_out made.resolver given input now in
    let passes = resolver_handed made.resolver (IsGood backers) given input now old g in
    record {
      said = cut_said (IsGood backers) stop out (record { calls = resolver_calls made.resolver (IsGood backers) given input now old g; handed = in_handed (IsGood backers) made.resolver out.calls out.handed passes; added = nothing_added backers made.resolver given input now });
      taken = λ t q. none t.input (given_input did t q);
      given = more did.outcome did.out;
      place = unseen_place backers made did past (unseen did.outcome did.out) no_start h.place;
      fine = λ s f. cut_fine backers stop out (is_handed backers made.resolver out.handed passes);
    }

resolver_step : (backers : Backers) (member : ℕ) (made : EngineMade) (past : List Did) (now : ℕ) (stop : Stop) (o : Option MailboxMessage) → received (engine.resolver_mail made past) ≡ o
    → IsFineEngine backers member made past → IsStepFine backers member made past (engine.on_resolver_mail made past now stop o)
resolver_step backers member made past now stop None e h = held_nothing backers member made past sources.Resolver now stop refl (λ input t. cc) h
resolver_step backers member made past now stop (Some message) e h =
    let mail = resolver_holds (InOwnMail backers) (InVoterMail backers) (IsGood backers) made past (handed_all backers past h.history) in
    let came = holds_received (InResolverMail (IsGood backers)) (engine.resolver_mail made past) message mail e in
    let taken : engine.Taken = engine.Took sources.Resolver (Some (handed.Resolver message)) in
    by_resolver_fine backers member made past (engine.resolver_past past) taken (resolver_inputs.Mail message) now stop (λ input t. cc) (λ x out. refl) refl
    (λ x out. held_given (InGiven made.resolver (IsGood backers)) x (resolver.Stepped (resolver_inputs.Mail message) now ∷ []) (came, tt)) h.given came h

handler_step : (backers : Backers) (member : ℕ) (made : EngineMade) (past : List Did) (now : ℕ) (stop : Stop) (o : Option HandlerMessage) → resolver.handler_message made.resolver (engine.resolver_past past) ≡ o
    → IsFineEngine backers member made past → IsStepFine backers member made past (engine.on_handler_mail made past now stop o)
handler_step backers member made past now stop None e h = held_nothing backers member made past sources.Handler now stop refl (λ input t. cc) h
handler_step backers member made past now stop (Some message) e h =
    let came = handler_sound made.resolver (IsGood backers) (engine.resolver_past past) message h.given e in
    let taken : engine.Taken = engine.Took sources.Handler (Some (handed.Handler message)) in
    by_resolver_fine backers member made past (resolver.HandlerTaken ∷ engine.resolver_past past) taken (resolver_inputs.Handler message) now stop (λ input t. cc) (λ x out. refl) refl
    (λ x out. held_given (InGiven made.resolver (IsGood backers)) x (resolver.Stepped (resolver_inputs.Handler message) now ∷ resolver.HandlerTaken ∷ []) (came, (tt, tt)))
    (tt, h.given) came h

fetch_step : (backers : Backers) (member : ℕ) (made : EngineMade) (past : List Did) (now : ℕ) (stop : Stop)
    → IsFineEngine backers member made past → IsStepFine backers member made past (engine.on_fetcher made past now stop)
fetch_step backers member made past now stop h = at (is_reached now (resolver.deadline_after made.resolver (engine.resolver_past past)))
  where
    taken : engine.Taken
    taken = engine.Took sources.Fetch None

    step : IsStepFine backers member made past (engine.by_resolver made (engine.resolver_past past) (engine.Took sources.Fetch None) resolver_inputs.Timer now stop)
    step =
        by_resolver_fine backers member made past (engine.resolver_past past) (engine.Took sources.Fetch None) resolver_inputs.Timer now stop (λ input t. cc) (λ x out. refl) refl
        (λ x out. held_given (InGiven made.resolver (IsGood backers)) x (resolver.Stepped resolver_inputs.Timer now ∷ []) (tt, tt)) h.given tt h

    at : (b : Bool) → IsStepFine backers member made past (if b then engine.by_resolver made (engine.resolver_past past) (engine.Took sources.Fetch None) resolver_inputs.Timer now stop else engine.nothing_held sources.Fetch now stop)
    at true = step
    at false = held_nothing backers member made past sources.Fetch now stop refl (λ input t. cc) h

-- a packet on the resolver channel
brings : (backers : Backers) (made : resolver.Made) (sender : ℕ) (bytes : List ℕ) → IsResolverOf backers made → FineOn backers sender channels.Resolver bytes → PacketBrings made (IsGood backers) bytes
brings backers made sender bytes of f message e = by message.body refl
  where
    by : (body : ResolverBody) → message.body ≡ body → BodyBrings (IsGood backers) (Brings made (IsGood backers)) body
    by (bodies.Request view) k = tt
    by bodies.Error k = tt
    by (bodies.Response ys) k = λ c r v.
        let here : Contains (in_body (bodies.Response ys)) c = subst (λ x. Contains (read_certificate x) c) (sym r) (Contains-here c []) in
        let there : Contains (certificate_on channels.Resolver bytes) c = subst (λ x. Contains (in_response x) c) (sym e) (subst (λ x. Contains (in_body x) c) (sym k) here) in
        let n : is_certified (made.verifies (certificate_subject c)) (members_of backers.setting.setup) (certificate_signatures c) ≡ true =
        subst (λ m. is_certified (made.verifies (certificate_subject c)) m (certificate_signatures c) ≡ true) of.members v in
        f c there (subst (λ (g : Subject → Attestation → Bool). is_certified (g (certificate_subject c)) (members_of backers.setting.setup) (certificate_signatures c) ≡ true) of.verifies n)

any_step : (backers : Backers) (member : ℕ) (made : EngineMade) (past : List Did) (source : StepSource) (now : ℕ) (stop : Stop) → IsSized backers.setting.setup → IsFineEngine backers member made past
    → IsStepFine backers member made past (engine.stepped made past source now stop)
unfolding engine.stepped
any_step backers member made past sources.Batcher now stop sized h = batcher_step backers member made past now stop (received (engine.batcher_mail made past)) sized refl h
any_step backers member made past sources.Voter now stop sized h = voter_step backers member made past now stop (received (engine.voter_mail made past)) refl h
any_step backers member made past sources.Timer now stop sized h = own_step backers member made past sources.Timer voter_inputs.Timer now stop refl (λ input t. cc) refl tt h
any_step backers member made past sources.Propose now stop sized h = own_step backers member made past sources.Propose voter_inputs.Propose now stop refl (λ input t. cc) refl tt h
any_step backers member made past sources.Verify now stop sized h = own_step backers member made past sources.Verify voter_inputs.Verify now stop refl (λ input t. cc) refl tt h
any_step backers member made past sources.Certify now stop sized h = own_step backers member made past sources.Certify voter_inputs.Certify now stop refl (λ input t. cc) refl tt h
any_step backers member made past sources.Resolver now stop sized h = resolver_step backers member made past now stop (received (engine.resolver_mail made past)) refl h
any_step backers member made past sources.Handler now stop sized h = handler_step backers member made past now stop (resolver.handler_message made.resolver (engine.resolver_past past)) refl h
any_step backers member made past sources.Fetch now stop sized h = fetch_step backers member made past now stop h

-- a packet that is let in
let_in_fine : (backers : Backers) (member : ℕ) (made : EngineMade) (past : List Did) (sender : ℕ) (channel : Channel) (bytes : List ℕ) (now : ℕ) → IsSized backers.setting.setup → FineOn backers sender channel bytes
    → IsFineEngine backers member made past → IsStepFine backers member made past (engine.let_in made past sender channel bytes now)
unfolding engine.let_in
let_in_fine backers member made past sender channels.Vote bytes now sized f h =
    by_batcher_fine backers member made past (engine.Heard sender channels.Vote bytes) (batcher_inputs.Vote sender bytes) now stops.None sized
    (λ i t. sym (some_is (batcher_inputs.Vote sender bytes) i t)) (λ n s o out. (refl, refl, refl)) f h
let_in_fine backers member made past sender channels.Certificate bytes now sized f h =
    by_batcher_fine backers member made past (engine.Heard sender channels.Certificate bytes) (batcher_inputs.Certificate sender bytes) now stops.None sized
    (λ i t. sym (some_is (batcher_inputs.Certificate sender bytes) i t)) (λ n s o out. (refl, refl, refl)) f h
let_in_fine backers member made past sender channels.Resolver bytes now sized f h =
    let came = brings backers made.resolver sender bytes h.resolver f in
    let taken : engine.Taken = engine.Heard sender channels.Resolver bytes in
    by_resolver_fine backers member made past (engine.resolver_past past) taken (resolver_inputs.Packet sender bytes) now stops.None (λ input t. cc) (λ x out. refl) refl
    (λ x out. held_given (InGiven made.resolver (IsGood backers)) x (resolver.Stepped (resolver_inputs.Packet sender bytes) now ∷ []) (came, tt)) h.given came h

-- a packet that is heard
heard_fine : (backers : Backers) (member : ℕ) (made : EngineMade) (past : List Did) (sender : ℕ) (channel : Channel) (bytes : List ℕ) (now : ℕ) → IsSized backers.setting.setup → FineOn backers sender channel bytes
    → IsFineEngine backers member made past → IsStepFine backers member made past (engine.heard made past sender channel bytes now)
heard_fine backers member made past sender channel bytes now sized f h =
    heard_either (IsStepFine backers member made past) made past sender channel bytes now
    (nothing_fine backers member made past (engine.Heard sender channel bytes) now stops.None outcomes.Refused refl refl (λ t q. cc) (nothing_given (engine.Heard sender channel bytes) now stops.None).1 h)
    (let_in_fine backers member made past sender channel bytes now sized f h)

-- whatever an engine takes
pub taken_fine : (backers : Backers) (before : List Noted) (at : Node) (made : EngineMade) (past : List Did) (did : Did) → IsSized backers.setting.setup → IsTaken backers.setting.setup before at made past did → IsFineRun backers before
    → IsFineEngine backers at.member made past → IsStepFine backers at.member made past did
taken_fine backers before at made past did sized t fine h = elim t [
  | inl p ↦ subst (IsStepFine backers at.member made past) (sym p.is)
      (heard_fine backers at.member made past p.packet.from.member p.packet.channel p.packet.bytes (clock_of before) sized (packet_delivered (IsFinePacket backers) before at p.ref p.packet fine.packets p.found) h)
  | inr other ↦ elim other [
    | inl s ↦ subst (IsStepFine backers at.member made past) (sym s.is) (any_step backers at.member made past s.source (clock_of before) s.stop sized h)
    | inr r ↦ subst (IsStepFine backers at.member made past) (sym r.is) (record {
      said = nothing_said backers;
      taken = λ t q. cc;
      given = tt;
      place = answered_place backers made past (engine.replied r.number r.answer (clock_of before)) r.number r.answer refl refl h.place;
      fine = λ s g. tt;
    })
  ]
]
