-- An engine to which no forged signature comes says certificates alone that verify and whose signers voted so.
use Rattle.std.proofs.Common.{◌≡◌, ℕ, ◌-◌, ◌==◌, ◌&&◌, nat_lt, nat_le, Bool, true, false, List, [], ◌∷◌, length, take, Contains, All, Option, Some, None, Ok, refl, sym, ap, ◌∙◌, subst, inl, inr, if◌then◌else◌}
use Rattle.std.specs.Option.{option_map_or}
use Rattle.std.proofs.lemmas.List.Elements.{All-head, All-tail, All-weaker}
use Rattle.simplex_values.specs.declared.answer.Answer.{Answer}
use Rattle.simplex_values.specs.declared.plan.Channel.{Channel}
use Rattle.simplex_values.specs.declared.plan.Channel.TheVariants as channels
use Rattle.simplex_values.specs.declared.plan.Recipients.TheVariants as recipients
use Rattle.simplex_values.specs.declared.proposal.Subject.{Subject}
use Rattle.simplex_wire.specs.declared.attestation.Attestation.{Attestation}
use Rattle.simplex_wire.specs.declared.certificate.Certificate.{Certificate}
use Rattle.simplex_wire.specs.declared.resolver.ResolverBody.{ResolverBody}
use Rattle.simplex_wire.specs.declared.resolver.ResolverBody.TheVariants as bodies
use Rattle.simplex_wire.specs.declared.vote.Vote.{Vote}
use Rattle.simplex_wire.specs.Certified.{is_certified}
use Rattle.simplex_wire.specs.Fields.{vote_subject, vote_attestation, certificate_subject, certificate_signatures}
use Rattle.simplex_wire.specs.Format.{whole}
use Rattle.simplex_wire.specs.Message as format
use Rattle.simplex_types.specs.declared.activity.Activity.{Activity}
use Rattle.simplex_types.specs.declared.activity.Activity.TheVariants as activities
use Rattle.simplex_types.specs.declared.floor.Floor.{Floor}
use Rattle.simplex_journal.specs.Journal.{Section, replayed}
use Rattle.simplex_mailbox.specs.Mail.{received}
use Rattle.simplex_round.specs.Votes.{vote_signer}
use Rattle.simplex_messages.specs.declared.batcher.Message as batcher_message
use Rattle.simplex_messages.specs.declared.batcher.Message.TheVariants as batcher_messages
use Rattle.simplex_messages.specs.declared.batcher.BatcherInput.{BatcherInput}
use Rattle.simplex_messages.specs.declared.batcher.BatcherInput.TheVariants as batcher_inputs
use Rattle.simplex_messages.specs.declared.call.Call.{Call}
use Rattle.simplex_messages.specs.declared.call.Call.TheVariants as calls
use Rattle.simplex_messages.specs.declared.handed.Handed.{Handed}
use Rattle.simplex_messages.specs.declared.handed.Handed.TheVariants as handed
use Rattle.simplex_messages.specs.declared.resolver.HandlerMessage.{HandlerMessage}
use Rattle.simplex_messages.specs.declared.resolver.MailboxMessage.{MailboxMessage}
use Rattle.simplex_messages.specs.declared.resolver.MailboxMessage.TheVariants as resolver_messages
use Rattle.simplex_messages.specs.declared.resolver.ResolverInput.{ResolverInput}
use Rattle.simplex_messages.specs.declared.resolver.ResolverInput.TheVariants as resolver_inputs
use Rattle.simplex_messages.specs.declared.step.Outcome.{Outcome}
use Rattle.simplex_messages.specs.declared.step.Outcome.TheVariants as outcomes
use Rattle.simplex_messages.specs.declared.step.Stop.{Stop}
use Rattle.simplex_messages.specs.declared.step.Stop.TheVariants as stops
use Rattle.simplex_messages.specs.declared.step.StepOut.{StepOut}
use Rattle.simplex_messages.specs.declared.voter.Message as voter_message
use Rattle.simplex_messages.specs.declared.voter.Message.TheVariants as voter_messages
use Rattle.simplex_messages.specs.declared.voter.VoterInput.{VoterInput}
use Rattle.simplex_messages.specs.declared.voter.VoterInput.TheVariants as voter_inputs
use Rattle.simplex_messages.specs.Step.{no_out}
use Rattle.simplex_transcript.specs.declared.event.StepSource.{StepSource}
use Rattle.simplex_transcript.specs.declared.event.StepSource.TheVariants as sources
use Rattle.model_rules.specs.Known.{Made}
use Rattle.model_resolver.specs.Resolver as resolver
use Rattle.model_resolver.specs.Views.{is_reached}
use Rattle.model_steps.specs.Batcher as batcher
use Rattle.model_steps.specs.Desk.{Doing}
use Rattle.model_steps.specs.Engine as engine
use Rattle.model_steps.specs.Engine.{EngineMade, Did, Began, started_at, is_start, given_to_voter, voter_in, voter_past, given_to_batcher, input_of_batcher, batcher_past, cut_short, by_voter}
use Rattle.model_steps.specs.Performed.{Performed, performed, stop_place, broken, whole as made_whole}
use Rattle.model_steps.specs.Voter as voter
use Rattle.model_steps.specs.VoterLife.{VoterMade, Place, Started, Stepped, Answered, place_of, rest, unreadable, start_at, unread, start_performed, step_given}
use Rattle.law_agreement.proofs.ListFacts.{not_in_empty, Contains-here, Contains-filter}
use Rattle.law_member.specs.BatcherVotes.{Accepted, Came, Brings as BringsVote}
use Rattle.law_member.specs.Certificates.{IsSchemeOfMembers, BringsNew, IsVoteOn, IsFoundedCertificate, IsFoundedMessage}
use Rattle.law_member.specs.Reports.{IsFounded, IsFoundedCall}
use Rattle.law_member.specs.Storing.{IsSigned}
use Rattle.law_member.specs.Syncs.{is_send, sends}
use Rattle.law_member.proofs.Constructing.{AreSilent}
use Rattle.law_member.proofs.Steps.{accepted_came, calls_founded, handed_founded}
use Rattle.law_member.proofs.VoterStarting.{start_sound}
use Rattle.law_run.specs.Backed.{read_certificate, in_body, in_response, certificate_on}
use Rattle.law_run.specs.Sayings.{Each, InCall, InReport, InMessage, InRecord, InKnown, InInput, InFloor, AllSaid}
use Rattle.law_run.proofs.Events.{place_in, step_gives, place_same, place_then, step_place, idle_place, answered_known}
use Rattle.law_run.proofs.Fetching.{BodyBrings}
use Rattle.law_run.proofs.Handing.{start_given, given_on}
use Rattle.law_run.proofs.Hearing.{cut_said}
use Rattle.law_run.proofs.Letting.{heard_either, given_input, each_given, held_given, told_alone, nothing_given}
use Rattle.law_run.proofs.Mailing.{InHanded, batcher_holds, voter_holds, InResolverMail, resolver_holds}
use Rattle.law_run.proofs.Mails.{holds_received}
use Rattle.law_run.proofs.NodeKeeping.{InJournal, InAppend, step_keeps, start_keeps}
use Rattle.law_run.proofs.NodeQuiet.{AllHush, AllForVoter, batcher_hush}
use Rattle.law_run.proofs.Resolving.{Brings, InGiven, InHandedOn, InResolverInput, PacketBrings, handler_sound, resolver_calls, resolver_handed}
use Rattle.law_run.proofs.Signed.{InOwn, performed_signed}
use Rattle.law_run.proofs.Speaking.{SaysGood, voter_calls}
use Rattle.law_run.proofs.Telling.{some_is, stepped_says, started_says, said, said_at_start, nothing_known}
use Rattle.law_cluster.specs.Lives.{Group, IsVerifying, IsStart, GoesOn, IsHistory}
use Rattle.law_cluster.proofs.Turns.{start_of, begun_is}

-- ---- what has nothing to do with signatures

report_good : (Good : Certificate → Type 0) (accepted came : Vote → Type 0) (a : Activity) → IsFounded accepted came a → InReport Good a
report_good Good accepted came (activities.Notarization c) h = absurd h
report_good Good accepted came (activities.Certification c) h = absurd h
report_good Good accepted came (activities.Nullification c) h = absurd h
report_good Good accepted came (activities.Finalization c) h = absurd h
report_good Good accepted came _ h = tt

calls_good : (Good : Certificate → Type 0) (accepted came : Vote → Type 0) (cs : List Call) → AllHush cs → All (IsFoundedCall accepted came) cs → Each (InCall Good) cs
calls_good Good accepted came [] hush founded = tt
calls_good Good accepted came (calls.Report a ∷ rest) hush founded =
    let P = IsFoundedCall accepted came in
    (report_good Good accepted came a (All-head P (calls.Report a) rest founded), calls_good Good accepted came rest hush.1 (All-tail P (calls.Report a) rest founded))
calls_good Good accepted came (calls.Relay payload plan ∷ rest) hush founded = (tt, calls_good Good accepted came rest hush.1 (All-tail (IsFoundedCall accepted came) (calls.Relay payload plan) rest founded))
calls_good Good accepted came (calls.Block who why ∷ rest) hush founded = (tt, calls_good Good accepted came rest hush.1 (All-tail (IsFoundedCall accepted came) (calls.Block who why) rest founded))
calls_good Good accepted came (calls.Append n a ∷ rest) hush founded = absurd hush.0
calls_good Good accepted came (calls.Sync n ∷ rest) hush founded = absurd hush.0
calls_good Good accepted came (calls.Prune n ∷ rest) hush founded = absurd hush.0
calls_good Good accepted came (calls.Send channel to bytes ∷ rest) hush founded = absurd hush.0

appended_good : (Good : Certificate → Type 0) (cs : List Call) → Each (InCall Good) cs → Each (InAppend (InRecord Good)) cs
appended_good Good [] g = tt
appended_good Good (calls.Append k a ∷ rest) g = (g.0, appended_good Good rest g.1)
appended_good Good (calls.Sync k ∷ rest) g = (tt, appended_good Good rest g.1)
appended_good Good (calls.Prune k ∷ rest) g = (tt, appended_good Good rest g.1)
appended_good Good (calls.Send channel to bytes ∷ rest) g = (tt, appended_good Good rest g.1)
appended_good Good (calls.Report activity ∷ rest) g = (tt, appended_good Good rest g.1)
appended_good Good (calls.Relay payload plan ∷ rest) g = (tt, appended_good Good rest g.1)
appended_good Good (calls.Block who why ∷ rest) g = (tt, appended_good Good rest g.1)

mail_told : (Good : Certificate → Type 0) (cs : List Call) (message : MailboxMessage) → InMessage Good cs (handed.Resolver message) → InResolverMail Good message
mail_told Good cs (resolver_messages.Updated c) g = g
mail_told Good cs (resolver_messages.Certified n success) g = g
mail_told Good cs (resolver_messages.Resolve proposal view kind target) g = tt
mail_told Good cs resolver_messages.Replayed g = tt

in_handed : (Good : Certificate → Type 0) (made : resolver.Made) (cs : List Call) (hs : List Handed) → Each (InHandedOn made Good) hs → Each (InMessage Good cs) hs
in_handed Good made cs [] h = tt
in_handed Good made cs (handed.Voter (voter_messages.Verified c) ∷ hs) h = (h.0, in_handed Good made cs hs h.1)
in_handed Good made cs (handed.Voter (voter_messages.Proposal p) ∷ hs) h = absurd h.0
in_handed Good made cs (handed.Voter (voter_messages.Timeout round reason) ∷ hs) h = absurd h.0
in_handed Good made cs (handed.Handler message ∷ hs) h = (tt, in_handed Good made cs hs h.1)
in_handed Good made cs (handed.Batcher message ∷ hs) h = absurd h.0
in_handed Good made cs (handed.Resolver message ∷ hs) h = absurd h.0

nothing_added : (Good : Certificate → Type 0) (r : resolver.Made) (xs : List resolver.Given) (i : ResolverInput) (n : ℕ) → Each Good (resolver.step_out r xs i n).added
unfolding resolver.step_out
nothing_added Good r xs i n = tt

nothing_said : (Good : Certificate → Type 0) → AllSaid Good no_out
nothing_said Good = record { calls = tt; handed = tt; added = tt }

-- a start constructs nothing
no_own : (Good : Certificate → Type 0) (cs : List Call) (hs : List Handed) → sends cs ≡ [] → Each (InMessage Good cs) hs → AreSilent hs
no_own Good cs [] none s = tt
no_own Good cs (handed.Batcher (batcher_messages.Constructed v) ∷ rest) none s =
    let sent = calls.Send channels.Vote recipients.All (format.vote.spelling v) in
    absurd (not_in_empty sent (subst (λ (xs : List Call). Contains xs sent) none (Contains-filter is_send cs sent refl s.0)))
no_own Good cs (handed.Batcher (batcher_messages.Update current leader finalized proposal) ∷ rest) none s = (tt, no_own Good cs rest none s.1)
no_own Good cs (handed.Voter message ∷ rest) none s = (tt, no_own Good cs rest none s.1)
no_own Good cs (handed.Resolver message ∷ rest) none s = (tt, no_own Good cs rest none s.1)
no_own Good cs (handed.Handler message ∷ rest) none s = (tt, no_own Good cs rest none s.1)

performed_silent : (stop : Stop) (d : Doing) (js : List Section) → AreSilent d.handed → AreSilent (performed stop d js).out.handed
unfolding performed
performed_silent stop d js n = at (stop_place stop d.calls)
  where
    at : (o : Option ℕ) → AreSilent (option_map_or (broken stop d js) o (made_whole d js)).out.handed
    at None = n
    at (Some place) = tt

start_performed_silent : (stop : Stop) (floor : Floor) (d : Doing) (js : List Section) → AreSilent d.handed → AreSilent (start_performed stop floor d js).out.handed
unfolding start_performed
start_performed_silent stops.None floor d js n = performed_silent stops.None d js n
start_performed_silent (stops.Cut call keep) floor d js n = performed_silent (stops.Cut call keep) d js n
start_performed_silent (stops.Fail call keep) floor d js n = at (call == 1)
  where
    at : (b : Bool) → AreSilent (if b then unread floor d keep js else performed (stops.Fail (call - 1) keep) d js).out.handed
    at true = tt
    at false = performed_silent (stops.Fail (call - 1) keep) d js n

voter_signed : (made : EngineMade) (past : List Did) (input : VoterInput) (now : ℕ) (stop : Stop)
    → Each (InOwn (IsSigned (voter_in made past).rules)) (step_given (voter_in made past) (voter_past past) input now stop).out.handed
voter_signed made past input now stop = at (voter.stepped (voter_in made past).rules now (place_in made past).standing input) refl
  where
    at : (o : Option Doing) → voter.stepped (voter_in made past).rules now (place_in made past).standing input ≡ o
        → Each (InOwn (IsSigned (voter_in made past).rules)) (step_given (voter_in made past) (voter_past past) input now stop).out.handed
    at None e = subst (λ (x : Performed). Each (InOwn (IsSigned (voter_in made past).rules)) x.out.handed) (sym (step_gives (voter_in made past) (voter_past past) input now stop None e)) tt
    at (Some d) e =
        subst (λ (x : Performed). Each (InOwn (IsSigned (voter_in made past).rules)) x.out.handed) (sym (step_gives (voter_in made past) (voter_past past) input now stop (Some d) e))
        (performed_signed (voter_in made past).rules now input (place_in made past).standing stop d (place_in made past).sections e)

-- what is taken of a packet that is heard
let_in_taken : (made : EngineMade) (past : List Did) (sender : ℕ) (channel : Channel) (bytes : List ℕ) (now : ℕ) → (engine.let_in made past sender channel bytes now).taken ≡ engine.Heard sender channel bytes
unfolding engine.let_in engine.by_batcher engine.by_resolver
let_in_taken made past sender channels.Vote bytes now = refl
let_in_taken made past sender channels.Certificate bytes now = refl
let_in_taken made past sender channels.Resolver bytes now = refl

pub heard_taken : (made : EngineMade) (past : List Did) (sender : ℕ) (channel : Channel) (bytes : List ℕ) (now : ℕ) → (engine.heard made past sender channel bytes now).taken ≡ engine.Heard sender channel bytes
heard_taken made past sender channel bytes now =
    heard_either (λ (d : Did). d.taken ≡ engine.Heard sender channel bytes) made past sender channel bytes now refl (let_in_taken made past sender channel bytes now)

-- ---- good certificates

module _ (group : Group) (Counts : ℕ → Subject → Type 0) where
  -- the certificate verifies, and each signer counts
  pub record IsGood (c : Certificate) : Type 0 where
    pub verifies : IsVerifying group c
    pub backed : All (λ (a : Attestation). Counts a.signer (certificate_subject c)) (certificate_signatures c)

  -- the signer of the vote counts, where its signature verifies
  abbrev pub IsCounted : Vote → Type 0
  IsCounted v = group.verifies (vote_subject v) (vote_attestation v) ≡ true → Counts (vote_signer v) (vote_subject v)

  pub record IsMade (made : batcher.Made) : Type 0 where
    pub scheme : IsSchemeOfMembers made
    pub verifies : made.scheme.verifies ≡ group.verifies
    pub members : made.members ≡ group.members

  -- each certificate that is known is good, and so is each of the journal
  pub record IsPlaceFine (place : Place) : Type 0 where
    pub known : InKnown IsGood place.standing.desk.known
    pub records : InJournal (InRecord IsGood) place.sections

  pub record IsResolverOf (made : resolver.Made) : Type 0 where
    pub verifies : made.verifies ≡ group.verifies
    pub members : made.members ≡ group.members

  -- what the voter signs is the member's
  abbrev pub Signs : ℕ → Made → Type 0
  Signs member rules = (subject : Subject) (a : Attestation) → rules.signs subject ≡ Some a → a.signer ≡ member

  -- the member itself counts for what was constructed
  abbrev pub AreOwn : ℕ → List Handed → Type 0
  AreOwn member hs = Each (InOwn (λ (v : Vote). Counts member (vote_subject v))) hs

  -- an engine of the member that knows the group, and whose floor and journal are good
  pub record IsFit (member : ℕ) (made : EngineMade) : Type 0 where
    pub batcher : IsMade made.batcher
    pub resolver : IsResolverOf made.resolver
    pub signs : (start : ℕ) → Signs member (made.voter start).rules
    pub floor : (now : ℕ) → InFloor IsGood (made.voter now).floor
    pub records : (now : ℕ) → InJournal (InRecord IsGood) (made.voter now).sections

-- ---- an engine

-- beside that, what is told of each vote that comes from its signer follows where its signer counts
module _ (group : Group) (Counts : ℕ → Subject → Type 0) (Told : Vote → Type 0) (told : (v : Vote) → Counts (vote_signer v) (vote_subject v) → Told v) where
  abbrev pub Good : Certificate → Type 0
  Good = IsGood group Counts

  abbrev pub IsFinePlace : Place → Type 0
  IsFinePlace = IsPlaceFine group Counts

  -- the signer of the vote counts, where its signature verifies, and it is told
  abbrev pub Counted : Vote → Type 0
  Counted v = IsCounted group Counts v × Told v

  abbrev pub InOwnMail : batcher_message.Message → Type 0
  InOwnMail (batcher_messages.Constructed v) = Counted v
  InOwnMail (batcher_messages.Update current leader finalized proposal) = Unit {0}

  abbrev pub InVoterMail : voter_message.Message → Type 0
  InVoterMail (voter_messages.Verified c) = Good c
  InVoterMail _ = Unit {0}

  abbrev pub IsFine : Handed → Type 0
  IsFine = InHanded InOwnMail InVoterMail Good

  -- what the batcher takes: each vote counts, a certificate that verifies is good
  abbrev pub IsFineInput : BatcherInput → Type 0
  IsFineInput (batcher_inputs.Vote sender bytes) = (v : Vote) → whole format.vote bytes ≡ Ok v → sender ≡ vote_signer v → Counted v
  IsFineInput (batcher_inputs.Certificate sender bytes) = (c : Certificate) → whole format.certificate bytes ≡ Ok c → IsVerifying group c → Good c
  IsFineInput (batcher_inputs.Mail message) = InOwnMail message

  -- and a packet on any channel
  abbrev pub FineOn : ℕ → Channel → List ℕ → Type 0
  FineOn sender channels.Vote bytes = (v : Vote) → whole format.vote bytes ≡ Ok v → sender ≡ vote_signer v → Counted v
  FineOn sender channels.Certificate bytes = (c : Certificate) → whole format.certificate bytes ≡ Ok c → IsVerifying group c → Good c
  FineOn sender channels.Resolver bytes = (c : Certificate) → Contains (certificate_on channels.Resolver bytes) c → IsVerifying group c → Good c

  abbrev pub FineTaken : engine.Taken → Type 0
  FineTaken (engine.Heard sender channel bytes) = FineOn sender channel bytes
  FineTaken _ = Unit {0}

  pub record IsFineDid (did : Did) : Type 0 where
    pub handed : Each IsFine did.out.handed
    pub taken : (given : batcher.Timed) → given_to_batcher did ≡ Some given → IsFineInput given.input

  pub handed_all : (past : List Did) → Each IsFineDid past → Each (λ (did : Did). Each IsFine did.out.handed) past
  handed_all [] h = tt
  handed_all (did ∷ past) h = (let first = h.0 in first.handed, handed_all past h.1)

  -- ---- the batcher

  abbrev pub IsFineTimed : batcher.Timed → Type 0
  IsFineTimed given = IsFineInput given.input

  pub inputs_fine : (past : List Did) → Each IsFineDid past → Each IsFineTimed (batcher_past past)
  unfolding batcher_past
  inputs_fine [] h = tt
  inputs_fine (did ∷ past) h = each_given IsFineTimed did past (let first = h.0 in first.taken) (inputs_fine past h.1)

  brings_counted : (input : BatcherInput) (v : Vote) → IsFineInput input → BringsVote input v → Counted v
  brings_counted (batcher_inputs.Mail (batcher_messages.Constructed own)) v f b = subst Counted b f
  brings_counted (batcher_inputs.Mail (batcher_messages.Update current leader finalized proposal)) v f b = absurd b
  brings_counted (batcher_inputs.Vote sender bytes) v f b = f v b.1 b.0
  brings_counted (batcher_inputs.Certificate sender bytes) v f b = absurd b

  pub came_counted : (past : List batcher.Timed) (v : Vote) → Each IsFineTimed past → Came past v → Counted v
  unfolding Came
  came_counted [] v f c = absurd c
  came_counted (given ∷ past) v f c = elim c [ inl b ↦ brings_counted given.input v f.0 b | inr r ↦ came_counted past v f.1 r ]

  brings_good : (standing : batcher.Standing) (input : BatcherInput) (c : Certificate) → IsFineInput input → BringsNew standing input c → IsVerifying group c → Good c
  brings_good standing (batcher_inputs.Certificate sender bytes) c f b v = f c b.0 v
  brings_good standing (batcher_inputs.Vote sender bytes) c f b v = absurd b
  brings_good standing (batcher_inputs.Mail message) c f b v = absurd b

  vote_counts : (made : batcher.Made) (past : List batcher.Timed) (subject : Subject) (a : Attestation) → IsMade group Counts made → Each IsFineTimed past → IsVoteOn made (Accepted made past) subject a → Counts a.signer subject
  vote_counts made past subject a m f on =
      let v = on.vote in
      let same : made.scheme.verifies subject a ≡ group.verifies subject a = ap (λ (g : Subject → Attestation → Bool). g subject a) m.verifies in
      let verified : group.verifies (vote_subject v) (vote_attestation v) ≡ true =
      ap (λ s. group.verifies s (vote_attestation v)) on.on ∙ ap (group.verifies subject) on.signature ∙ sym same ∙ on.verifies in
      subst (λ (x : Attestation). Counts x.signer subject) on.signature
      (subst (Counts (vote_signer v)) on.on ((came_counted past v f (accepted_came made past v on.was_accepted)).0 verified))

  founded_good : (made : batcher.Made) (past : List batcher.Timed) (given : batcher.Timed) (c : Certificate) → IsMade group Counts made → Each IsFineTimed (given ∷ past)
      → IsFoundedCertificate made (Accepted made (given ∷ past)) (BringsNew (batcher.standing_after made past) given.input) c → Good c
  founded_good made past given c m f founded =
      let subject = certificate_subject c in
      let list = certificate_signatures c in
      let with_members : is_certified (made.scheme.verifies subject) group.members list ≡ true =
      subst (λ n. is_certified (made.scheme.verifies subject) n list ≡ true) m.members founded.verifies in
      let v : IsVerifying group c = subst (λ (g : Subject → Attestation → Bool). is_certified (g subject) group.members list ≡ true) m.verifies with_members in
      elim founded.source [
        | inl new ↦ brings_good (batcher.standing_after made past) given.input c f.0 new v
        | inr made_of ↦ record {
          verifies = v;
          backed = All-weaker (IsVoteOn made (Accepted made (given ∷ past)) subject) (λ (a : Attestation). Counts a.signer subject)
              (λ a on. vote_counts made (given ∷ past) subject a m f on) list made_of.each;
        }
      ]

  messages_good : (made : batcher.Made) (past : List batcher.Timed) (given : batcher.Timed) (cs : List Call) (hs : List Handed) → IsMade group Counts made → Each IsFineTimed (given ∷ past)
      → AllForVoter hs → All (IsFoundedMessage made (Accepted made (given ∷ past)) (BringsNew (batcher.standing_after made past) given.input)) hs
      → Each (InMessage Good cs) hs
  messages_good made past given cs [] m f voter founded = tt
  messages_good made past given cs (handed.Voter (voter_messages.Verified c) ∷ rest) m f voter founded =
      let P = IsFoundedMessage made (Accepted made (given ∷ past)) (BringsNew (batcher.standing_after made past) given.input) in (
        founded_good made past given c m f (All-head P (handed.Voter (voter_messages.Verified c)) rest founded),
        messages_good made past given cs rest m f voter.1 (All-tail P (handed.Voter (voter_messages.Verified c)) rest founded),
      )
  messages_good made past given cs (handed.Voter (voter_messages.Proposal p) ∷ rest) m f voter founded =
      let P = IsFoundedMessage made (Accepted made (given ∷ past)) (BringsNew (batcher.standing_after made past) given.input) in
      (tt, messages_good made past given cs rest m f voter.1 (All-tail P (handed.Voter (voter_messages.Proposal p)) rest founded))
  messages_good made past given cs (handed.Voter (voter_messages.Timeout round reason) ∷ rest) m f voter founded =
      let P = IsFoundedMessage made (Accepted made (given ∷ past)) (BringsNew (batcher.standing_after made past) given.input) in
      (tt, messages_good made past given cs rest m f voter.1 (All-tail P (handed.Voter (voter_messages.Timeout round reason)) rest founded))
  messages_good made past given cs (handed.Batcher message ∷ rest) m f voter founded = absurd voter.0
  messages_good made past given cs (handed.Resolver message ∷ rest) m f voter founded = absurd voter.0
  messages_good made past given cs (handed.Handler message ∷ rest) m f voter founded = absurd voter.0

  step_said : (made : batcher.Made) (past : List batcher.Timed) (given : batcher.Timed) → IsMade group Counts made → Each IsFineTimed (given ∷ past) → AllSaid Good (batcher.step_out made past given)
  unfolding batcher.step_out
  step_said made past given m f =
      let out = batcher.step_out made past given in
      let hush = batcher_hush made past given in
      record {
        calls = calls_good Good (Accepted made (given ∷ past)) (Came (given ∷ past)) out.calls hush.0 (calls_founded made past given);
        handed = messages_good made past given out.calls out.handed m f hush.1 (handed_founded made past given m.scheme);
        added = tt;
      }

  -- what a batcher hands on is fine
  handed_fine : (cs : List Call) (hs : List Handed) → Each (InMessage Good cs) hs → AllForVoter hs → Each IsFine hs
  handed_fine cs [] s v = tt
  handed_fine cs (handed.Voter (voter_messages.Verified c) ∷ rest) s v = (s.0, handed_fine cs rest s.1 v.1)
  handed_fine cs (handed.Voter (voter_messages.Proposal p) ∷ rest) s v = (tt, handed_fine cs rest s.1 v.1)
  handed_fine cs (handed.Voter (voter_messages.Timeout round reason) ∷ rest) s v = (tt, handed_fine cs rest s.1 v.1)
  handed_fine cs (handed.Batcher message ∷ rest) s v = absurd v.0
  handed_fine cs (handed.Resolver message ∷ rest) s v = absurd v.0
  handed_fine cs (handed.Handler message ∷ rest) s v = absurd v.0

  cut_fine : (stop : Stop) (out : StepOut) → Each IsFine out.handed → Each IsFine (cut_short stop out).1.handed
  cut_fine stops.None out h = h
  cut_fine (stops.Fail call keep) out h = h
  cut_fine (stops.Cut call keep) out h = at (nat_lt 0 call && nat_le call (length out.calls))
    where
      pair : Bool → Outcome × StepOut
      pair b = if b then (outcomes.Cut, record no_out { calls = take (call - 1) out.calls }) else (outcomes.Done, out)

      at : (b : Bool) → Each IsFine (pair b).1.handed
      at true = tt
      at false = h

  -- ---- the voter

  -- what a voter hands on is fine, where its own votes count
  own_fine : (cs : List Call) (hs : List Handed) → Each (InMessage Good cs) hs → Each (InOwn Counted) hs → Each IsFine hs
  own_fine cs [] s g = tt
  own_fine cs (handed.Batcher (batcher_messages.Constructed v) ∷ rest) s g = (g.0, own_fine cs rest s.1 g.1)
  own_fine cs (handed.Batcher (batcher_messages.Update current leader finalized proposal) ∷ rest) s g = (tt, own_fine cs rest s.1 g.1)
  own_fine cs (handed.Voter (voter_messages.Verified c) ∷ rest) s g = (s.0, own_fine cs rest s.1 g.1)
  own_fine cs (handed.Voter (voter_messages.Proposal p) ∷ rest) s g = (tt, own_fine cs rest s.1 g.1)
  own_fine cs (handed.Voter (voter_messages.Timeout round reason) ∷ rest) s g = (tt, own_fine cs rest s.1 g.1)
  own_fine cs (handed.Resolver message ∷ rest) s g = (mail_told Good cs message s.0, own_fine cs rest s.1 g.1)
  own_fine cs (handed.Handler message ∷ rest) s g = (tt, own_fine cs rest s.1 g.1)

  silent_own : (hs : List Handed) → AreSilent hs → Each (InOwn Counted) hs
  silent_own [] s = tt
  silent_own (handed.Batcher (batcher_messages.Constructed v) ∷ rest) s = absurd s.0
  silent_own (handed.Batcher (batcher_messages.Update current leader finalized proposal) ∷ rest) s = (tt, silent_own rest s.1)
  silent_own (handed.Voter message ∷ rest) s = (tt, silent_own rest s.1)
  silent_own (handed.Resolver message ∷ rest) s = (tt, silent_own rest s.1)
  silent_own (handed.Handler message ∷ rest) s = (tt, silent_own rest s.1)

  is_handed : (made : resolver.Made) (hs : List Handed) → Each (InHandedOn made Good) hs → Each IsFine hs
  is_handed made [] h = tt
  is_handed made (handed.Voter (voter_messages.Verified c) ∷ hs) h = (h.0, is_handed made hs h.1)
  is_handed made (handed.Voter (voter_messages.Proposal p) ∷ hs) h = absurd h.0
  is_handed made (handed.Voter (voter_messages.Timeout round reason) ∷ hs) h = absurd h.0
  is_handed made (handed.Handler message ∷ hs) h = (tt, is_handed made hs h.1)
  is_handed made (handed.Batcher message ∷ hs) h = absurd h.0
  is_handed made (handed.Resolver message ∷ hs) h = absurd h.0

  pub record IsFineEngine (member : ℕ) (made : EngineMade) (past : List Did) : Type 0 where
    pub batcher : IsMade group Counts made.batcher
    pub resolver : IsResolverOf group Counts made.resolver
    pub signs : (start : ℕ) → Signs group Counts member (made.voter start).rules
    pub history : Each IsFineDid past
    pub given : Each (InGiven made.resolver Good) (engine.resolver_past past)
    pub place : IsFinePlace (place_in made past)

  -- a signed own vote counts
  signed_counted : (member : ℕ) (rules : Made) (hs : List Handed) → Signs group Counts member rules → Each (InOwn (IsSigned rules)) hs → AreOwn group Counts member hs → Each (InOwn Counted) hs
  signed_counted member rules [] own g k = tt
  signed_counted member rules (handed.Batcher (batcher_messages.Constructed v) ∷ rest) own g k =
      let signer : vote_signer v ≡ member = own (vote_subject v) (vote_attestation v) g.0 in
      let here : Counts (vote_signer v) (vote_subject v) = subst (λ n. Counts n (vote_subject v)) (sym signer) k.0 in
      ((λ e. here, told v here), signed_counted member rules rest own g.1 k.1)
  signed_counted member rules (handed.Batcher (batcher_messages.Update current leader finalized proposal) ∷ rest) own g k = (tt, signed_counted member rules rest own g.1 k.1)
  signed_counted member rules (handed.Voter message ∷ rest) own g k = (tt, signed_counted member rules rest own g.1 k.1)
  signed_counted member rules (handed.Resolver message ∷ rest) own g k = (tt, signed_counted member rules rest own g.1 k.1)
  signed_counted member rules (handed.Handler message ∷ rest) own g k = (tt, signed_counted member rules rest own g.1 k.1)

  -- ---- a step

  -- what comes of one item, where the member counts for what it constructed
  pub record IsStepFine (member : ℕ) (made : EngineMade) (past : List Did) (did : Did) : Type 0 where
    pub said : AllSaid Good did.out
    pub taken : (given : batcher.Timed) → given_to_batcher did ≡ Some given → IsFineInput given.input
    pub given : Each (InGiven made.resolver Good) (engine.given_to_resolver did)
    pub place : IsFinePlace (place_in made (did ∷ past))
    pub fine : AreOwn group Counts member did.out.handed → Each IsFine did.out.handed

  unseen_place : (made : EngineMade) (did : Did) (past : List Did) → given_to_voter did ≡ None → is_start did.taken ≡ false → IsFinePlace (place_in made past) → IsFinePlace (place_in made (did ∷ past))
  unseen_place made did past e f h =
      let p = place_same made did past e f in
      subst IsFinePlace (sym (ap (λ v. place_of v (voter_past (did ∷ past))) p.0 ∙ ap (place_of (voter_in made past)) p.1)) h

  voter_place : (made : EngineMade) (past : List Did) (did : Did) (input : VoterInput) (now : ℕ) (stop : Stop) → given_to_voter did ≡ Some (Stepped input now stop) → is_start did.taken ≡ false
      → InInput Good input → IsFinePlace (place_in made past) → IsFinePlace (place_in made (did ∷ past))
  voter_place made past did input now stop e f given h =
      let p = place_then made did past (Stepped input now stop) e f in
      subst IsFinePlace (sym (ap (λ v. place_of v (voter_past (did ∷ past))) p.0 ∙ ap (place_of (voter_in made past)) p.1))
      (at (voter.stepped (voter_in made past).rules now (place_in made past).standing input) refl)
    where
      at : (o : Option Doing) → voter.stepped (voter_in made past).rules now (place_in made past).standing input ≡ o → IsFinePlace (place_of (voter_in made past) (Stepped input now stop ∷ voter_past past))
      at None g = subst IsFinePlace (sym (idle_place (voter_in made past) (voter_past past) input now stop g)) h
      at (Some d) g =
          let says = stepped_says Good (voter_in made past).rules now (place_in made past).standing input d given h.known g in
          subst IsFinePlace (sym (step_place (voter_in made past) (voter_past past) input now stop d g))
          (record {
            known = says.in_known;
            records = step_keeps (InRecord Good) stop d (place_in made past).sections (appended_good Good d.calls (voter_calls Good d.calls says.in_calls)) h.records;
          })

  answered_place : (made : EngineMade) (past : List Did) (did : Did) (number : ℕ) (answer : Answer) → given_to_voter did ≡ Some (Answered number answer) → is_start did.taken ≡ false
      → IsFinePlace (place_in made past) → IsFinePlace (place_in made (did ∷ past))
  unfolding place_of
  answered_place made past did number answer e f h =
      let p = place_then made did past (Answered number answer) e f in
      subst IsFinePlace (sym (ap (λ v. place_of v (voter_past (did ∷ past))) p.0 ∙ ap (place_of (voter_in made past)) p.1))
      (record {
        known = subst (InKnown Good) (sym (answered_known number answer (place_in made past).standing)) h.known;
        records = h.records;
      })

  voter_said : (made : EngineMade) (past : List Did) (input : VoterInput) (now : ℕ) (stop : Stop) → InInput Good input → InKnown Good (place_in made past).standing.desk.known
      → AllSaid Good (step_given (voter_in made past) (voter_past past) input now stop).out
  voter_said made past input now stop given k =
      at (voter.stepped (voter_in made past).rules now (place_in made past).standing input) refl
    where
      at : (o : Option Doing) → voter.stepped (voter_in made past).rules now (place_in made past).standing input ≡ o
          → AllSaid Good (step_given (voter_in made past) (voter_past past) input now stop).out
      at None e = subst (λ (x : Performed). AllSaid Good x.out) (sym (step_gives (voter_in made past) (voter_past past) input now stop None e)) (nothing_said Good)
      at (Some d) e =
          subst (λ (x : Performed). AllSaid Good x.out) (sym (step_gives (voter_in made past) (voter_past past) input now stop (Some d) e))
          (said Good stop d (place_in made past).sections
          (stepped_says Good (voter_in made past).rules now (place_in made past).standing input d given k e))

  module _ (member : ℕ) (made : EngineMade) (past : List Did) (h : IsFineEngine member made past) where
    abbrev pub S : Did → Type 0
    S = IsStepFine member made past

    -- a step of the voter on an input that brings a good certificate or none
    by_voter_fine : (did : Did) (input : VoterInput) (now : ℕ) (stop : Stop) → given_to_voter did ≡ Some (Stepped input now stop) → is_start did.taken ≡ false
        → did.out ≡ (step_given (voter_in made past) (voter_past past) input now stop).out → ((i : BatcherInput) → input_of_batcher did.taken ≡ Some i → IsFineInput i) → engine.is_of_resolver did.taken ≡ false
        → InInput Good input → S did
    by_voter_fine did input now stop e f out taken none given =
        let all : AllSaid Good did.out = subst (AllSaid Good) (sym out) (voter_said made past input now stop given (let p = h.place in p.known)) in
        let rules = (voter_in made past).rules in
        record {
          said = all;
          taken = λ t q. taken t.input (given_input did t q);
          given = told_alone (InGiven made.resolver Good) (λ m. tt) did none;
          place = voter_place made past did input now stop e f given h.place;
          fine = λ own. own_fine did.out.calls did.out.handed all.handed
              (signed_counted member rules did.out.handed (h.signs (started_at past))
              (subst (λ (x : StepOut). Each (InOwn (IsSigned rules)) x.handed) (sym out) (voter_signed made past input now stop)) own);
        }

    -- nothing was held, or a packet was refused
    nothing_fine : (taken : engine.Taken) (now : ℕ) (stop : Stop) (o : Outcome)
        → given_to_voter (engine.did_of taken now stop o no_out) ≡ None → is_start taken ≡ false
        → ((t : batcher.Timed) → given_to_batcher (engine.did_of taken now stop o no_out) ≡ Some t → IsFineInput t.input) → engine.given_to_resolver (engine.did_of taken now stop o no_out) ≡ []
        → S (engine.did_of taken now stop o no_out)
    nothing_fine taken now stop o e f none apart =
        record {
          said = nothing_said Good;
          taken = none;
          given = subst (Each (InGiven made.resolver Good)) (sym apart) tt;
          place = unseen_place made (engine.did_of taken now stop o no_out) past e f h.place;
          fine = λ own. tt;
        }

    held_nothing : (source : StepSource) (now : ℕ) (stop : Stop) → given_to_voter (engine.nothing_held source now stop) ≡ None
        → ((i : BatcherInput) → input_of_batcher (engine.Took source None) ≡ Some i → IsFineInput i) → S (engine.nothing_held source now stop)
    held_nothing source now stop e none =
        nothing_fine (engine.Took source None) now stop outcomes.Idle e refl (λ t q. none t.input (given_input (engine.nothing_held source now stop) t q))
        (nothing_given (engine.Took source None) now stop).0

    -- a step of the batcher on an input that is fine
    by_batcher_fine : (taken : engine.Taken) (input : BatcherInput) (now : ℕ) (stop : Stop)
        → ((i : BatcherInput) → input_of_batcher taken ≡ Some i → i ≡ input) → ((n : ℕ) (s : Stop) (o : Outcome) (out : StepOut) → (given_to_voter (engine.did_of taken n s o out) ≡ None) × (is_start taken ≡ false) × (engine.is_of_resolver taken ≡ false))
        → IsFineInput input → S (engine.by_batcher made past taken input now stop)
    unfolding engine.by_batcher
    by_batcher_fine taken input now stop only unseen f =
        let did = engine.by_batcher made past taken input now stop in
        let timed : batcher.Timed = record { input = input; now = now } in
        let out = batcher.step_out made.batcher (batcher_past past) timed in
        let all = step_said made.batcher (batcher_past past) timed h.batcher (f, inputs_fine past h.history) in
        let apart = unseen did.now did.stop did.outcome did.out in
        record {
          said = cut_said Good stop out all;
          taken = λ t q. subst IsFineInput (sym (only t.input (given_input did t q))) f;
          given = told_alone (InGiven made.resolver Good) (λ m. tt) did apart.2;
          place = unseen_place made did past apart.0 apart.1 h.place;
          fine = λ own. cut_fine stop out (handed_fine out.calls out.handed all.handed (batcher_hush made.batcher (batcher_past past) timed).1);
        }

    batcher_step : (now : ℕ) (stop : Stop) (o : Option batcher_message.Message) → received (engine.batcher_mail made past) ≡ o → S (engine.on_batcher_mail made past now stop o)
    batcher_step now stop None e = held_nothing sources.Batcher now stop refl (λ input t. cc)
    batcher_step now stop (Some message) e =
        let mail = batcher_holds InOwnMail InVoterMail Good made past (handed_all past h.history) in
        let came = holds_received InOwnMail (engine.batcher_mail made past) message mail e in
        by_batcher_fine (engine.Took sources.Batcher (Some (handed.Batcher message))) (batcher_inputs.Mail message) now stop
        (λ i t. sym (some_is (batcher_inputs.Mail message) i t)) (λ n s o out. (refl, refl, refl)) came

    in_mail : (message : voter_message.Message) → InVoterMail message → InInput Good (voter_inputs.Mail message)
    in_mail (voter_messages.Verified c) g = g
    in_mail (voter_messages.Proposal p) g = tt
    in_mail (voter_messages.Timeout round reason) g = tt

    voter_step : (now : ℕ) (stop : Stop) (o : Option voter_message.Message) → received (engine.voter_mail made past) ≡ o → S (engine.on_voter_mail made past now stop o)
    voter_step now stop None e = held_nothing sources.Voter now stop refl (λ input t. cc)
    voter_step now stop (Some message) e =
        let mail = voter_holds InOwnMail InVoterMail Good made past (handed_all past h.history) in
        let came = holds_received InVoterMail (engine.voter_mail made past) message mail e in
        by_voter_fine (engine.on_voter_mail made past now stop (Some message)) (voter_inputs.Mail message) now stop refl refl refl (λ input t. cc) refl (in_mail message came)

    own_step : (source : StepSource) (input : VoterInput) (now : ℕ) (stop : Stop)
        → given_to_voter (engine.on_voter made past source input now stop) ≡ Some (Stepped input now stop) → ((i : BatcherInput) → input_of_batcher (engine.Took source None) ≡ Some i → IsFineInput i) → engine.is_of_resolver (engine.Took source None) ≡ false
        → InInput Good input → S (engine.on_voter made past source input now stop)
    own_step source input now stop e none apart given = by_voter_fine (engine.on_voter made past source input now stop) input now stop e refl refl none apart given

    -- ---- a step of the resolver

    by_resolver_fine : (given : List resolver.Given) (taken : engine.Taken) (input : ResolverInput) (now : ℕ) (stop : Stop)
        → ((i : BatcherInput) → input_of_batcher taken ≡ Some i → IsFineInput i) → ((o : Outcome) (out : StepOut) → given_to_voter (engine.did_of taken now stop o out) ≡ None) → is_start taken ≡ false
        → ((o : Outcome) (out : StepOut) → Each (InGiven made.resolver Good) (engine.given_to_resolver (engine.did_of taken now stop o out)))
        → Each (InGiven made.resolver Good) given → InResolverInput made.resolver Good input → S (engine.by_resolver made given taken input now stop)
    unfolding engine.by_resolver
    by_resolver_fine given taken input now stop none unseen no_start more old g =
        let did = engine.by_resolver made given taken input now stop in
        let out = resolver.step_out made.resolver given input now in
        let passes = resolver_handed made.resolver Good given input now old g in
        record {
          said = cut_said Good stop out (record { calls = resolver_calls made.resolver Good given input now old g; handed = in_handed Good made.resolver out.calls out.handed passes; added = nothing_added Good made.resolver given input now });
          taken = λ t q. none t.input (given_input did t q);
          given = more did.outcome did.out;
          place = unseen_place made did past (unseen did.outcome did.out) no_start h.place;
          fine = λ own. cut_fine stop out (is_handed made.resolver out.handed passes);
        }

    resolver_step : (now : ℕ) (stop : Stop) (o : Option MailboxMessage) → received (engine.resolver_mail made past) ≡ o → S (engine.on_resolver_mail made past now stop o)
    resolver_step now stop None e = held_nothing sources.Resolver now stop refl (λ input t. cc)
    resolver_step now stop (Some message) e =
        let mail = resolver_holds InOwnMail InVoterMail Good made past (handed_all past h.history) in
        let came = holds_received (InResolverMail Good) (engine.resolver_mail made past) message mail e in
        let taken : engine.Taken = engine.Took sources.Resolver (Some (handed.Resolver message)) in
        by_resolver_fine (engine.resolver_past past) taken (resolver_inputs.Mail message) now stop (λ input t. cc) (λ x out. refl) refl
        (λ x out. held_given (InGiven made.resolver Good) x (resolver.Stepped (resolver_inputs.Mail message) now ∷ []) (came, tt)) h.given came

    handler_step : (now : ℕ) (stop : Stop) (o : Option HandlerMessage) → resolver.handler_message made.resolver (engine.resolver_past past) ≡ o → S (engine.on_handler_mail made past now stop o)
    handler_step now stop None e = held_nothing sources.Handler now stop refl (λ input t. cc)
    handler_step now stop (Some message) e =
        let came = handler_sound made.resolver Good (engine.resolver_past past) message h.given e in
        let taken : engine.Taken = engine.Took sources.Handler (Some (handed.Handler message)) in
        by_resolver_fine (resolver.HandlerTaken ∷ engine.resolver_past past) taken (resolver_inputs.Handler message) now stop (λ input t. cc) (λ x out. refl) refl
        (λ x out. held_given (InGiven made.resolver Good) x (resolver.Stepped (resolver_inputs.Handler message) now ∷ resolver.HandlerTaken ∷ []) (came, (tt, tt)))
        (tt, h.given) came

    fetch_step : (now : ℕ) (stop : Stop) → S (engine.on_fetcher made past now stop)
    fetch_step now stop = at (is_reached now (resolver.deadline_after made.resolver (engine.resolver_past past)))
      where
        step : S (engine.by_resolver made (engine.resolver_past past) (engine.Took sources.Fetch None) resolver_inputs.Timer now stop)
        step =
            by_resolver_fine (engine.resolver_past past) (engine.Took sources.Fetch None) resolver_inputs.Timer now stop (λ input t. cc) (λ x out. refl) refl
            (λ x out. held_given (InGiven made.resolver Good) x (resolver.Stepped resolver_inputs.Timer now ∷ []) (tt, tt)) h.given tt

        at : (b : Bool) → S (if b then engine.by_resolver made (engine.resolver_past past) (engine.Took sources.Fetch None) resolver_inputs.Timer now stop else engine.nothing_held sources.Fetch now stop)
        at true = step
        at false = held_nothing sources.Fetch now stop refl (λ input t. cc)

    -- a packet on the resolver channel
    brings : (sender : ℕ) (bytes : List ℕ) → FineOn sender channels.Resolver bytes → PacketBrings made.resolver Good bytes
    brings sender bytes f message e = by message.body refl
      where
        by : (body : ResolverBody) → message.body ≡ body → BodyBrings Good (Brings made.resolver Good) body
        by (bodies.Request view) k = tt
        by bodies.Error k = tt
        by (bodies.Response ys) k = λ c r v.
            let of = h.resolver in
            let here : Contains (in_body (bodies.Response ys)) c = subst (λ x. Contains (read_certificate x) c) (sym r) (Contains-here c []) in
            let there : Contains (certificate_on channels.Resolver bytes) c = subst (λ x. Contains (in_response x) c) (sym e) (subst (λ x. Contains (in_body x) c) (sym k) here) in
            let n : is_certified (made.resolver.verifies (certificate_subject c)) group.members (certificate_signatures c) ≡ true =
            subst (λ m. is_certified (made.resolver.verifies (certificate_subject c)) m (certificate_signatures c) ≡ true) of.members v in
            f c there (subst (λ (g : Subject → Attestation → Bool). is_certified (g (certificate_subject c)) group.members (certificate_signatures c) ≡ true) of.verifies n)

    any_step : (source : StepSource) (now : ℕ) (stop : Stop) → S (engine.stepped made past source now stop)
    unfolding engine.stepped
    any_step sources.Batcher now stop = batcher_step now stop (received (engine.batcher_mail made past)) refl
    any_step sources.Voter now stop = voter_step now stop (received (engine.voter_mail made past)) refl
    any_step sources.Timer now stop = own_step sources.Timer voter_inputs.Timer now stop refl (λ input t. cc) refl tt
    any_step sources.Propose now stop = own_step sources.Propose voter_inputs.Propose now stop refl (λ input t. cc) refl tt
    any_step sources.Verify now stop = own_step sources.Verify voter_inputs.Verify now stop refl (λ input t. cc) refl tt
    any_step sources.Certify now stop = own_step sources.Certify voter_inputs.Certify now stop refl (λ input t. cc) refl tt
    any_step sources.Resolver now stop = resolver_step now stop (received (engine.resolver_mail made past)) refl
    any_step sources.Handler now stop = handler_step now stop (resolver.handler_message made.resolver (engine.resolver_past past)) refl
    any_step sources.Fetch now stop = fetch_step now stop

    -- a packet that is let in
    let_in_fine : (sender : ℕ) (channel : Channel) (bytes : List ℕ) (now : ℕ) → FineOn sender channel bytes → S (engine.let_in made past sender channel bytes now)
    unfolding engine.let_in
    let_in_fine sender channels.Vote bytes now f =
        by_batcher_fine (engine.Heard sender channels.Vote bytes) (batcher_inputs.Vote sender bytes) now stops.None
        (λ i t. sym (some_is (batcher_inputs.Vote sender bytes) i t)) (λ n s o out. (refl, refl, refl)) f
    let_in_fine sender channels.Certificate bytes now f =
        by_batcher_fine (engine.Heard sender channels.Certificate bytes) (batcher_inputs.Certificate sender bytes) now stops.None
        (λ i t. sym (some_is (batcher_inputs.Certificate sender bytes) i t)) (λ n s o out. (refl, refl, refl)) f
    let_in_fine sender channels.Resolver bytes now f =
        let came = brings sender bytes f in
        let taken : engine.Taken = engine.Heard sender channels.Resolver bytes in
        by_resolver_fine (engine.resolver_past past) taken (resolver_inputs.Packet sender bytes) now stops.None (λ input t. cc) (λ x out. refl) refl
        (λ x out. held_given (InGiven made.resolver Good) x (resolver.Stepped (resolver_inputs.Packet sender bytes) now ∷ []) (came, tt)) h.given came

    heard_fine : (sender : ℕ) (channel : Channel) (bytes : List ℕ) (now : ℕ) → FineOn sender channel bytes → S (engine.heard made past sender channel bytes now)
    heard_fine sender channel bytes now f =
        heard_either S made past sender channel bytes now
        (nothing_fine (engine.Heard sender channel bytes) now stops.None outcomes.Refused refl refl (λ t q. cc) (nothing_given (engine.Heard sender channel bytes) now stops.None).1)
        (let_in_fine sender channel bytes now f)

    -- whatever an engine takes
    taken_fine : (did : Did) → GoesOn made past did → FineTaken did.taken → S did
    taken_fine did g f = elim g.next [
      | inl p ↦ subst S (sym p.is) (heard_fine p.sender p.channel p.bytes p.now
          (subst FineTaken (ap (λ (d : Did). d.taken) p.is ∙ heard_taken made past p.sender p.channel p.bytes p.now) f))
      | inr other ↦ elim other [
        | inl s ↦ subst S (sym s.is) (any_step s.source s.now s.stop)
        | inr r ↦ subst S (sym r.is) (record {
          said = nothing_said Good;
          taken = λ t q. cc;
          given = tt;
          place = answered_place made past (engine.replied r.number r.answer r.now) r.number r.answer refl refl h.place;
          fine = λ own. tt;
        })
      ]
    ]

    goes_fine : (did : Did) → S did → AreOwn group Counts member did.out.handed → IsFineEngine member made (did ∷ past)
    goes_fine did s own =
        record {
          batcher = h.batcher;
          resolver = h.resolver;
          signs = h.signs;
          history = (record { handed = s.fine own; taken = s.taken }, h.history);
          given = given_on (InGiven made.resolver Good) did past s.given h.given;
          place = s.place;
        }

  -- ---- a start

  start_place_fine : (v : VoterMade) (now : ℕ) (stop : Stop) → SaysGood Good (start_at v now v.sections) → InJournal (InRecord Good) v.sections → IsFinePlace (place_of v (Started now stop ∷ []))
  unfolding place_of
  start_place_fine v now stop says records =
      record {
        known = at (unreadable stop);
        records = start_keeps (InRecord Good) stop v.floor (start_at v now v.sections) v.sections
            (appended_good Good (start_at v now v.sections).calls (voter_calls Good (start_at v now v.sections).calls says.in_calls)) records;
      }
    where
      at : (b : Bool) → InKnown Good (if b then (place_of v []).standing else rest (start_at v now v.sections) []).desk.known
      at true = nothing_known Good
      at false = says.in_known

  start_engine : (made : EngineMade) (now : ℕ) (stop : Stop) → IsFinePlace (place_of (made.voter now) (Started now stop ∷ [])) → IsFinePlace (place_in made (by_voter Began now stop (start_of made now stop) ∷ []))
  unfolding started_at voter_past
  start_engine made now stop p = p

  begin_fine : (member : ℕ) (made : EngineMade) (did : Did) → IsStart made did → IsFit group Counts member made → AllSaid Good did.out × IsFineEngine member made (did ∷ [])
  begin_fine member made did s fit = subst (λ (d : Did). AllSaid Good d.out × IsFineEngine member made (d ∷ [])) (sym (s.is ∙ begun_is made s.now s.stop)) (all, engine_fine)
    where
      says : SaysGood Good (start_at (made.voter s.now) s.now (made.voter s.now).sections)
      says = started_says Good (made.voter s.now).rules s.now (made.voter s.now).floor (replayed (made.voter s.now).sections) (fit.floor s.now) (fit.records s.now)

      all : AllSaid Good (start_of made s.now s.stop).out
      all = said_at_start Good s.stop (made.voter s.now).floor (start_at (made.voter s.now) s.now (made.voter s.now).sections) (made.voter s.now).sections says

      silent : AreSilent (start_of made s.now s.stop).out.handed
      silent =
          let w = made.voter s.now in
          let d = start_at w s.now w.sections in
          let sound = start_sound w.rules s.now w.floor (replayed w.sections) in
          start_performed_silent s.stop w.floor d w.sections (no_own Good d.calls d.handed sound.silent says.in_messages)

      engine_fine : IsFineEngine member made (by_voter Began s.now s.stop (start_of made s.now s.stop) ∷ [])
      engine_fine =
          let out = (start_of made s.now s.stop).out in
          record {
            batcher = fit.batcher;
            resolver = fit.resolver;
            signs = fit.signs;
            given = start_given (InGiven made.resolver Good) (λ m. tt) s.now s.stop (start_of made s.now s.stop).outcome out;
            history = (
              record {
                handed = own_fine out.calls out.handed all.handed (silent_own out.handed silent);
                taken = λ g t. (let k : input_of_batcher Began ≡ Some g.input = given_input (by_voter Began s.now s.stop (start_of made s.now s.stop)) g t in cc);
              },
              tt,
            );
            place = start_engine made s.now s.stop (start_place_fine (made.voter s.now) s.now s.stop says (fit.records s.now));
          }

  -- ---- a history

  pub record IsHistoryFine (member : ℕ) (made : EngineMade) (past : List Did) : Type 0 where
    pub said : Each (λ (did : Did). AllSaid Good did.out) past
    pub engine : IsFineEngine member made past

  pub history_fine : (member : ℕ) (made : EngineMade) (past : List Did) → IsHistory made past → IsFit group Counts member made → Each (λ (did : Did). FineTaken did.taken) past → Each (λ (did : Did). AreOwn group Counts member did.out.handed) past
      → IsHistoryFine member made past
  unfolding IsHistory
  history_fine member made [] h fit f own = absurd h
  history_fine member made (did ∷ past) h fit f own = elim h [
    | inl s ↦ (let b = begin_fine member made did s.1 fit in
        subst (λ xs. IsHistoryFine member made (did ∷ xs)) (sym s.0) (record { said = (b.0, tt); engine = b.1 }))
    | inr g ↦ (let before = history_fine member made past g.1 fit f.1 own.1 in
        let step = taken_fine member made past before.engine did g.0 f.0 in
        record { said = (step.said, before.said); engine = goes_fine member made past before.engine did step own.0 })
  ]
