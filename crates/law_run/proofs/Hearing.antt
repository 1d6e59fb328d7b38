-- A batcher that hears backed certificates, and votes of those who sent them, hands on backed certificates.
use Rattle.std.proofs.Common.{◌≡◌, ℕ, ◌-◌, ◌<◌, ◌≤◌, ◌&&◌, nat_lt, nat_le, Bool, true, false, List, [], ◌∷◌, length, take, All, Some, Ok, sym, subst, inl, inr, arith, if◌then◌else◌}
use Rattle.std.proofs.lemmas.List.Elements.{All-head, All-tail, All-weaker}
use Rattle.simplex_values.specs.Quorum.{quorum_of}
use Rattle.simplex_values.specs.declared.proposal.Subject.{Subject}
use Rattle.simplex_wire.specs.declared.attestation.Attestation.{Attestation}
use Rattle.simplex_wire.specs.declared.certificate.Certificate.{Certificate}
use Rattle.simplex_wire.specs.declared.vote.Vote.{Vote}
use Rattle.simplex_wire.specs.Certified.{is_certified}
use Rattle.simplex_wire.specs.Fields.{vote_subject, certificate_subject, certificate_signatures}
use Rattle.simplex_wire.specs.Format.{whole}
use Rattle.simplex_wire.specs.Message as format
use Rattle.simplex_types.specs.Keyed.{keyed_verifies}
use Rattle.simplex_types.specs.declared.activity.Activity.{Activity}
use Rattle.simplex_types.specs.declared.activity.Activity.TheVariants as activities
use Rattle.simplex_round.specs.Votes.{vote_signer}
use Rattle.simplex_messages.specs.declared.batcher.Message as batcher_message
use Rattle.simplex_messages.specs.declared.batcher.Message.TheVariants as batcher_messages
use Rattle.simplex_messages.specs.declared.batcher.BatcherInput.{BatcherInput}
use Rattle.simplex_messages.specs.declared.batcher.BatcherInput.TheVariants as inputs
use Rattle.simplex_messages.specs.declared.call.Call.{Call}
use Rattle.simplex_messages.specs.declared.call.Call.TheVariants as calls
use Rattle.simplex_messages.specs.declared.handed.Handed.{Handed}
use Rattle.simplex_messages.specs.declared.handed.Handed.TheVariants as handed
use Rattle.simplex_messages.specs.declared.step.Outcome.{Outcome}
use Rattle.simplex_messages.specs.declared.step.Outcome.TheVariants as outcomes
use Rattle.simplex_messages.specs.declared.step.Stop.{Stop}
use Rattle.simplex_messages.specs.declared.step.Stop.TheVariants as stops
use Rattle.simplex_messages.specs.declared.step.StepOut.{StepOut}
use Rattle.simplex_messages.specs.declared.voter.Message as voter_message
use Rattle.simplex_messages.specs.declared.voter.Message.TheVariants as voter_messages
use Rattle.simplex_messages.specs.Step.{no_out}
use Rattle.model_steps.specs.Batcher as batcher
use Rattle.model_steps.specs.Engine.{EngineMade, Did, Taken, given_to_batcher, batcher_past, cut_short, by_batcher}
use Rattle.law_member.specs.BatcherVotes.{Accepted, Came, Brings}
use Rattle.law_member.specs.Reports.{IsFounded, IsFoundedCall}
use Rattle.law_member.specs.Certificates.{IsSchemeOfMembers, BringsNew, IsVoteOn, IsFoundedCertificate, IsFoundedMessage}
use Rattle.law_member.proofs.Steps.{accepted_came, calls_founded, handed_founded}
use Rattle.model_run.specs.Members.{members_of}
use Rattle.law_member.specs.Wire.{Fits}
use Rattle.law_run.specs.Sayings.{Each, InCall, InReport, InMessage, AllSaid}
use Rattle.law_run.proofs.NodeQuiet.{AllHush, AllForVoter, batcher_hush}
use Rattle.law_run.proofs.Telling.{Each-take}
use Rattle.law_run.proofs.Backers.{Backers, Counts, Spoke, spoke_counts}
use Rattle.law_run.specs.Backed.{IsVerifying}
use Rattle.law_run.proofs.Good.{IsGood, IsSized, verified_fits}
use Rattle.law_run.proofs.Mailing.{InHanded}
use Rattle.law_run.proofs.Letting.{each_given}

-- the vote counts, and its numbers keep to their types
abbrev pub IsCounted : Backers → Vote → Type 0
IsCounted backers v = Spoke backers (vote_signer v) v × Fits (vote_subject v)

abbrev pub InOwnMail : Backers → batcher_message.Message → Type 0
InOwnMail backers (batcher_messages.Constructed v) = IsCounted backers v
InOwnMail backers (batcher_messages.Update current leader finalized proposal) = Unit {0}

abbrev pub InVoterMail : Backers → voter_message.Message → Type 0
InVoterMail backers (voter_messages.Verified c) = IsGood backers c
InVoterMail backers _ = Unit {0}

-- what is handed on: own votes count, and certificates are good
abbrev pub IsFine : Backers → Handed → Type 0
IsFine backers = InHanded (InOwnMail backers) (InVoterMail backers) (IsGood backers)

-- What the batcher takes: a vote from its signer counts, a certificate that verifies is good
abbrev pub IsFineInput : Backers → BatcherInput → Type 0
IsFineInput backers (inputs.Vote sender bytes) = (v : Vote) → whole format.vote bytes ≡ Ok v → sender ≡ vote_signer v → IsCounted backers v
IsFineInput backers (inputs.Certificate sender bytes) = (c : Certificate) → whole format.certificate bytes ≡ Ok c → IsVerifying backers.setting.setup c → IsGood backers c
IsFineInput backers (inputs.Mail message) = InOwnMail backers message

pub record IsFineDid (backers : Backers) (did : Did) : Type 0 where
  pub handed : Each (IsFine backers) did.out.handed
  pub taken : (given : batcher.Timed) → given_to_batcher did ≡ Some given → IsFineInput backers given.input

pub handed_all : (backers : Backers) (past : List Did) → Each (IsFineDid backers) past → Each (λ (did : Did). Each (IsFine backers) did.out.handed) past
handed_all backers [] h = tt
handed_all backers (did ∷ past) h = (let first = h.0 in first.handed, handed_all backers past h.1)

-- ---- the batcher's inputs

abbrev pub IsFineTimed : Backers → batcher.Timed → Type 0
IsFineTimed backers given = IsFineInput backers given.input

pub inputs_fine : (backers : Backers) (past : List Did) → Each (IsFineDid backers) past → Each (IsFineTimed backers) (batcher_past past)
unfolding batcher_past
inputs_fine backers [] h = tt
inputs_fine backers (did ∷ past) h =
    each_given (IsFineTimed backers) did past h.0.taken (inputs_fine backers past h.1)

brings_counted : (backers : Backers) (input : BatcherInput) (v : Vote) → IsFineInput backers input → Brings input v → IsCounted backers v
brings_counted backers (inputs.Mail (batcher_messages.Constructed own)) v f b = subst (IsCounted backers) b f
brings_counted backers (inputs.Mail (batcher_messages.Update current leader finalized proposal)) v f b = absurd b
brings_counted backers (inputs.Vote sender bytes) v f b = f v b.1 b.0
brings_counted backers (inputs.Certificate sender bytes) v f b = absurd b

pub came_counted : (backers : Backers) (past : List batcher.Timed) (v : Vote) → Each (IsFineTimed backers) past → Came past v → IsCounted backers v
unfolding Came
came_counted backers [] v f c = absurd c
came_counted backers (given ∷ past) v f c = elim c [ inl b ↦ brings_counted backers given.input v f.0 b | inr r ↦ came_counted backers past v f.1 r ]

-- ---- what the batcher hands on

-- the batcher of one of the members
pub record IsMade (backers : Backers) (made : batcher.Made) : Type 0 where
  pub scheme : IsSchemeOfMembers made
  pub verifies : made.scheme.verifies ≡ keyed_verifies backers.setting.setup.key_base (members_of backers.setting.setup)
  pub members : made.members ≡ members_of backers.setting.setup

brings_good : (backers : Backers) (standing : batcher.Standing) (input : BatcherInput) (c : Certificate) → IsFineInput backers input → BringsNew standing input c → IsVerifying backers.setting.setup c → IsGood backers c
brings_good backers standing (inputs.Certificate sender bytes) c f b v = f c b.0 v
brings_good backers standing (inputs.Vote sender bytes) c f b v = absurd b
brings_good backers standing (inputs.Mail message) c f b v = absurd b

some_vote : (made : batcher.Made) (accepted : Vote → Type 0) (subject : Subject) (list : List Attestation) → 0 < length list → All (IsVoteOn made accepted subject) list
    → (v : Vote) × accepted v × (vote_subject v ≡ subject)
some_vote made accepted subject [] some each = absurd (omega (arith, some))
some_vote made accepted subject (a ∷ rest) some each =
    let on = All-head (IsVoteOn made accepted subject) a rest each in
    (on.vote, on.was_accepted, on.on)

quorum_some : (n k : ℕ) → 0 < n → quorum_of n ≤ k → 0 < k
quorum_some n k some le = omega (arith, some, le)

made_good : (backers : Backers) (made : batcher.Made) (past : List batcher.Timed) (c : Certificate) → IsSized backers.setting.setup → IsMade backers made → Each (IsFineTimed backers) past → IsVerifying backers.setting.setup c
    → quorum_of made.members ≤ length (certificate_signatures c) → All (IsVoteOn made (Accepted made past) (certificate_subject c)) (certificate_signatures c) → IsGood backers c
made_good backers made past c sized m f v quorum each =
    let subject = certificate_subject c in
    let list = certificate_signatures c in
    let some = some_vote made (Accepted made past) subject list (quorum_some made.members (length list) (subst (λ n. 0 < n) (sym m.members) sized.some) quorum) each in
    let first = came_counted backers past some.0 f (accepted_came made past some.0 some.1) in
    record {
      verifies = v;
      fits = verified_fits backers.setting.setup c sized v (subst Fits some.2 first.1);
      backed = All-weaker (IsVoteOn made (Accepted made past) subject) (λ (a : Attestation). Counts backers a.signer subject) (λ a on.
          subst (λ (x : Attestation). Counts backers x.signer subject) on.signature
          (subst (Counts backers (vote_signer on.vote)) on.on (spoke_counts backers (vote_signer on.vote) on.vote (came_counted backers past on.vote f (accepted_came made past on.vote on.was_accepted)).0))) list each;
    }

founded_good : (backers : Backers) (made : batcher.Made) (past : List batcher.Timed) (given : batcher.Timed) (c : Certificate) → IsSized backers.setting.setup → IsMade backers made → Each (IsFineTimed backers) (given ∷ past)
    → IsFoundedCertificate made (Accepted made (given ∷ past)) (BringsNew (batcher.standing_after made past) given.input) c → IsGood backers c
founded_good backers made past given c sized m f founded =
    let subject = certificate_subject c in
    let list = certificate_signatures c in
    let with_members : is_certified (made.scheme.verifies subject) (members_of backers.setting.setup) list ≡ true =
    subst (λ n. is_certified (made.scheme.verifies subject) n list ≡ true) m.members founded.verifies in
    let v : IsVerifying backers.setting.setup c = subst (λ (g : Subject → Attestation → Bool). is_certified (g subject) (members_of backers.setting.setup) list ≡ true) m.verifies with_members in
    elim founded.source [
      | inl new ↦ brings_good backers (batcher.standing_after made past) given.input c f.0 new v
      | inr made_of ↦ made_good backers made (given ∷ past) c sized m f v made_of.quorum made_of.each
    ]

messages_good : (backers : Backers) (made : batcher.Made) (past : List batcher.Timed) (given : batcher.Timed) (cs : List Call) (hs : List Handed) → IsSized backers.setting.setup → IsMade backers made → Each (IsFineTimed backers) (given ∷ past)
    → AllForVoter hs → All (IsFoundedMessage made (Accepted made (given ∷ past)) (BringsNew (batcher.standing_after made past) given.input)) hs
    → Each (InMessage (IsGood backers) cs) hs
messages_good backers made past given cs [] sized m f voter founded = tt
messages_good backers made past given cs (handed.Voter (voter_messages.Verified c) ∷ rest) sized m f voter founded =
    let P = IsFoundedMessage made (Accepted made (given ∷ past)) (BringsNew (batcher.standing_after made past) given.input) in (
      founded_good backers made past given c sized m f (All-head P (handed.Voter (voter_messages.Verified c)) rest founded),
      messages_good backers made past given cs rest sized m f voter.1 (All-tail P (handed.Voter (voter_messages.Verified c)) rest founded),
    )
messages_good backers made past given cs (handed.Voter (voter_messages.Proposal p) ∷ rest) sized m f voter founded =
    let P = IsFoundedMessage made (Accepted made (given ∷ past)) (BringsNew (batcher.standing_after made past) given.input) in
    (tt, messages_good backers made past given cs rest sized m f voter.1 (All-tail P (handed.Voter (voter_messages.Proposal p)) rest founded))
messages_good backers made past given cs (handed.Voter (voter_messages.Timeout round reason) ∷ rest) sized m f voter founded =
    let P = IsFoundedMessage made (Accepted made (given ∷ past)) (BringsNew (batcher.standing_after made past) given.input) in
    (tt, messages_good backers made past given cs rest sized m f voter.1 (All-tail P (handed.Voter (voter_messages.Timeout round reason)) rest founded))
messages_good backers made past given cs (handed.Batcher message ∷ rest) sized m f voter founded = absurd voter.0
messages_good backers made past given cs (handed.Resolver message ∷ rest) sized m f voter founded = absurd voter.0
messages_good backers made past given cs (handed.Handler message ∷ rest) sized m f voter founded = absurd voter.0

report_good : (Good : Certificate → Type 0) (accepted came : Vote → Type 0) (a : Activity) → IsFounded accepted came a → InReport Good a
report_good Good accepted came (activities.Notarization c) h = absurd h
report_good Good accepted came (activities.Certification c) h = absurd h
report_good Good accepted came (activities.Nullification c) h = absurd h
report_good Good accepted came (activities.Finalization c) h = absurd h
report_good Good accepted came _ h = tt

calls_good : (Good : Certificate → Type 0) (accepted came : Vote → Type 0) (cs : List Call) → AllHush cs → All (IsFoundedCall accepted came) cs → Each (InCall Good) cs
calls_good Good accepted came [] hush founded = tt
calls_good Good accepted came (calls.Report a ∷ rest) hush founded =
    let P = IsFoundedCall accepted came in
    (report_good Good accepted came a (All-head P (calls.Report a) rest founded), calls_good Good accepted came rest hush.1 (All-tail P (calls.Report a) rest founded))
calls_good Good accepted came (calls.Relay payload plan ∷ rest) hush founded = (tt, calls_good Good accepted came rest hush.1 (All-tail (IsFoundedCall accepted came) (calls.Relay payload plan) rest founded))
calls_good Good accepted came (calls.Block who why ∷ rest) hush founded = (tt, calls_good Good accepted came rest hush.1 (All-tail (IsFoundedCall accepted came) (calls.Block who why) rest founded))
calls_good Good accepted came (calls.Append n a ∷ rest) hush founded = absurd hush.0
calls_good Good accepted came (calls.Sync n ∷ rest) hush founded = absurd hush.0
calls_good Good accepted came (calls.Prune n ∷ rest) hush founded = absurd hush.0
calls_good Good accepted came (calls.Send channel to bytes ∷ rest) hush founded = absurd hush.0

step_said : (backers : Backers) (made : batcher.Made) (past : List batcher.Timed) (given : batcher.Timed) → IsSized backers.setting.setup → IsMade backers made → Each (IsFineTimed backers) (given ∷ past)
    → AllSaid (IsGood backers) (batcher.step_out made past given)
unfolding batcher.step_out
step_said backers made past given sized m f =
    let out = batcher.step_out made past given in
    let hush = batcher_hush made past given in
    record {
      calls = calls_good (IsGood backers) (Accepted made (given ∷ past)) (Came (given ∷ past)) out.calls hush.0 (calls_founded made past given);
      handed = messages_good backers made past given out.calls out.handed sized m f hush.1 (handed_founded made past given m.scheme);
      added = tt;
    }

pub cut_said : (Good : Certificate → Type 0) (stop : Stop) (out : StepOut) → AllSaid Good out → AllSaid Good (cut_short stop out).1
cut_said Good stops.None out s = s
cut_said Good (stops.Fail call keep) out s = s
cut_said Good (stops.Cut call keep) out s = at (nat_lt 0 call && nat_le call (length out.calls))
  where
    pair : Bool → Outcome × StepOut
    pair b = if b then (outcomes.Cut, record no_out { calls = take (call - 1) out.calls }) else (outcomes.Done, out)

    at : (b : Bool) → AllSaid Good (pair b).1
    at true = record { calls = Each-take (InCall Good) (call - 1) out.calls s.calls; handed = tt; added = tt }
    at false = s

pub batcher_said : (backers : Backers) (made : EngineMade) (past : List Did) (taken : Taken) (input : BatcherInput) (now : ℕ) (stop : Stop) → IsSized backers.setting.setup → IsMade backers made.batcher
    → Each (IsFineDid backers) past → IsFineInput backers input → AllSaid (IsGood backers) (by_batcher made past taken input now stop).out
unfolding by_batcher
batcher_said backers made past taken input now stop sized m h f =
    let given : batcher.Timed = record { input = input; now = now } in
    cut_said (IsGood backers) stop (batcher.step_out made.batcher (batcher_past past) given)
    (step_said backers made.batcher (batcher_past past) given sized m (f, inputs_fine backers past h))

-- what a batcher hands on is fine
handed_fine : (backers : Backers) (cs : List Call) (hs : List Handed) → Each (InMessage (IsGood backers) cs) hs → AllForVoter hs → Each (IsFine backers) hs
handed_fine backers cs [] s v = tt
handed_fine backers cs (handed.Voter (voter_messages.Verified c) ∷ rest) s v = (s.0, handed_fine backers cs rest s.1 v.1)
handed_fine backers cs (handed.Voter (voter_messages.Proposal p) ∷ rest) s v = (tt, handed_fine backers cs rest s.1 v.1)
handed_fine backers cs (handed.Voter (voter_messages.Timeout round reason) ∷ rest) s v = (tt, handed_fine backers cs rest s.1 v.1)
handed_fine backers cs (handed.Batcher message ∷ rest) s v = absurd v.0
handed_fine backers cs (handed.Resolver message ∷ rest) s v = absurd v.0
handed_fine backers cs (handed.Handler message ∷ rest) s v = absurd v.0

pub cut_fine : (backers : Backers) (stop : Stop) (out : StepOut) → Each (IsFine backers) out.handed → Each (IsFine backers) (cut_short stop out).1.handed
cut_fine backers stops.None out h = h
cut_fine backers (stops.Fail call keep) out h = h
cut_fine backers (stops.Cut call keep) out h = at (nat_lt 0 call && nat_le call (length out.calls))
  where
    pair : Bool → Outcome × StepOut
    pair b = if b then (outcomes.Cut, record no_out { calls = take (call - 1) out.calls }) else (outcomes.Done, out)

    at : (b : Bool) → Each (IsFine backers) (pair b).1.handed
    at true = tt
    at false = h

pub batcher_fine : (backers : Backers) (made : EngineMade) (past : List Did) (taken : Taken) (input : BatcherInput) (now : ℕ) (stop : Stop) → IsSized backers.setting.setup → IsMade backers made.batcher
    → Each (IsFineDid backers) past → IsFineInput backers input → Each (IsFine backers) (by_batcher made past taken input now stop).out.handed
unfolding by_batcher
batcher_fine backers made past taken input now stop sized m h f =
    let given : batcher.Timed = record { input = input; now = now } in
    let out = batcher.step_out made.batcher (batcher_past past) given in
    let said = step_said backers made.batcher (batcher_past past) given sized m (f, inputs_fine backers past h) in
    cut_fine backers stop out (handed_fine backers out.calls out.handed said.handed (batcher_hush made.batcher (batcher_past past) given).1)
