-- What a voter does, read as the life of a member.
use Rattle.std.specs.Prelude.{ℕ, ◌≡◌, ◌++◌, ◌<◌, ◌⊎◌, Bool, true, false, is_some, List, [], ◌∷◌, map, Contains, option_to_list, Option, Some, None}
use Rattle.simplex_values.specs.declared.plan.Channel.TheVariants as channels
use Rattle.simplex_values.specs.declared.proposal.Subject.{Subject}
use Rattle.simplex_values.specs.declared.proposal.Subject.TheVariants as subjects
use Rattle.simplex_values.specs.declared.round.Round.{Round}
use Rattle.simplex_values.specs.Terms.{greatest_view}
use Rattle.simplex_wire.specs.declared.attestation.Attestation.{Attestation}
use Rattle.simplex_wire.specs.declared.artifact.Artifact.{Artifact}
use Rattle.simplex_wire.specs.declared.artifact.Artifact.TheVariants as artifacts
use Rattle.simplex_wire.specs.declared.certificate.Certificate.{Certificate}
use Rattle.simplex_wire.specs.declared.certificate.Certificate.TheVariants as certificates
use Rattle.simplex_wire.specs.declared.vote.Nullify.{Nullify}
use Rattle.simplex_wire.specs.declared.vote.Vote.{Vote}
use Rattle.simplex_wire.specs.declared.vote.Vote.TheVariants as votes
use Rattle.simplex_wire.specs.Fields.{certificate_subject, certificate_signatures, vote_subject}
use Rattle.simplex_wire.specs.Message as format
use Rattle.simplex_types.specs.declared.floor.Floor.{Floor}
use Rattle.simplex_types.specs.declared.floor.Floor.TheVariants as floors
use Rattle.model_rules.specs.Known.{Made, Fact, Added, Judged, Voted, view_of, notarization_of}
use Rattle.simplex_journal.specs.Journal.{Section, replayed}
use Rattle.simplex_journal.specs.Contents.{IsRising}
use Rattle.simplex_messages.specs.declared.call.Call.{Call}
use Rattle.simplex_messages.specs.declared.call.Call.TheVariants as calls
use Rattle.simplex_messages.specs.declared.handed.Handed.{Handed}
use Rattle.simplex_messages.specs.declared.handed.Handed.TheVariants as handed
use Rattle.simplex_messages.specs.declared.batcher.Message.TheVariants as batcher
use Rattle.simplex_messages.specs.declared.step.Outcome.{Outcome}
use Rattle.simplex_messages.specs.declared.step.Outcome.TheVariants as outcomes
use Rattle.model_steps.specs.Performed.{Performed}
use Rattle.law_agreement.specs.World as agreement
use Rattle.law_agreement.specs.World.{Sent}
use Rattle.law_agreement.specs.Artifacts as member
use Rattle.law_agreement.specs.Journal as kept
use Rattle.law_agreement.specs.Member as life
use Rattle.law_agreement.specs.Member.{Member}
use Rattle.law_member.specs.Storing.{IsOwn, AreStoredFirst}

-- a certificate: what was signed, and by whom
abbrev pub statement_of : Certificate → agreement.Certificate
statement_of c =
    record { subject = certificate_subject c; signers = map (λ (a : Attestation). a.signer) (certificate_signatures c) }

-- a record of the journal: an own vote, a certificate or a verdict
abbrev pub memory_of : Artifact → member.Artifact
memory_of (artifacts.Notarize v) = member.Own (subjects.Notarize v.proposal)
memory_of (artifacts.Nullify v) = member.Own (subjects.Nullify v.round)
memory_of (artifacts.Finalize v) = member.Own (subjects.Finalize v.proposal)
memory_of (artifacts.Notarization c) = member.Proved (statement_of (certificates.Notarization c))
memory_of (artifacts.Nullification c) = member.Proved (statement_of (certificates.Nullification c))
memory_of (artifacts.Finalization c) = member.Proved (statement_of (certificates.Finalization c))
memory_of (artifacts.Certification round good) = member.Judged round.view good

-- what agreement asks of a fact: own votes, certificates and verdicts
abbrev pub noted : Fact → Option member.Artifact
noted (Added c now) = Some (member.Proved (statement_of c))
noted (Voted v) = Some (member.Own (vote_subject v))
noted (Judged view good now) = Some (member.Judged view good)
noted _ = None

-- and of all that the voter knows, the oldest first
unfoldable pub remembered : List Fact → List member.Artifact
remembered [] = []
remembered (fact ∷ known) = remembered known ++ option_to_list (noted fact)

-- the journal's sections
abbrev pub section_of : Section → kept.Section
section_of s = record { view = s.number; synced = map memory_of s.synced; pending = map memory_of s.pending }

unfoldable pub journal_of : List Section → List kept.Section
journal_of sections = map section_of sections

-- what is known is in order: each verdict is on a known notarization, and own nullifies are of the member's epoch
pub record IsInOrder (made : Made) (known : List Fact) : Type 0 where
  pub judged : (view : ℕ) (good : Bool) (now : ℕ) → Contains known (Judged view good now)
      → is_some (notarization_of known view) ≡ true
  pub own : (v : Nullify) → Contains known (Voted (votes.Nullify v)) → v.round.epoch ≡ made.epoch

-- so are the records of a journal: own nullifies are of the member's epoch
abbrev pub AreOwn : Made → List Section → Type 0
AreOwn made sections = (v : Nullify) → Contains (replayed sections) (artifacts.Nullify v) → v.round.epoch ≡ made.epoch

-- between two steps of a voter that knows this and whose journal holds that, the member runs: it has the same
-- journal, in which nothing is pending, remembers the same, and has nothing to send
pub record IsRunning (made : Made) (known : List Fact) (sections : List Section) (m : Member) : Type 0 where
  pub up : m.up ≡ true
  pub journal : m.journal ≡ journal_of sections
  pub memory : m.known ≡ remembered known
  pub outbox : m.outbox ≡ []
  pub stored : kept.waiting m.journal ≡ []
  pub rising : IsRising sections
  pub order : IsInOrder made known
  pub own : AreOwn made sections

-- before a start and behind a stop the member does not run, has the same journal, in which nothing is pending, and
-- knows nothing else
pub record IsStopped (made : Made) (sections : List Section) (m : Member) : Type 0 where
  pub up : m.up ≡ false
  pub blank : m.known ≡ []
  pub journal : m.journal ≡ journal_of sections
  pub stored : kept.waiting m.journal ≡ []
  pub rising : IsRising sections
  pub own : AreOwn made sections

-- the certificates among what is appended
abbrev pub certificate_in : Artifact → List agreement.Certificate
certificate_in (artifacts.Notarization c) = statement_of (certificates.Notarization c) ∷ []
certificate_in (artifacts.Nullification c) = statement_of (certificates.Nullification c) ∷ []
certificate_in (artifacts.Finalization c) = statement_of (certificates.Finalization c) ∷ []
certificate_in _ = []

unfoldable pub taken : List Call → List agreement.Certificate
taken [] = []
taken (calls.Append section artifact ∷ rest) = certificate_in artifact ++ taken rest
taken (_ ∷ rest) = taken rest

-- what the own votes among the records are on
abbrev pub vote_in : Artifact → List Subject
vote_in (artifacts.Notarize v) = subjects.Notarize v.proposal ∷ []
vote_in (artifacts.Nullify v) = subjects.Nullify v.round ∷ []
vote_in (artifacts.Finalize v) = subjects.Finalize v.proposal ∷ []
vote_in _ = []

unfoldable pub voted : List Call → List Subject
voted [] = []
voted (calls.Append section artifact ∷ rest) = vote_in artifact ++ voted rest
voted (_ ∷ rest) = voted rest

-- a nullify of a view below the greatest, in the member's epoch
abbrev pub IsLowNullify : Made → Subject → Type 0
IsLowNullify made s = (r : Round) × (s ≡ subjects.Nullify r) × (r.epoch ≡ made.epoch) × (r.view < greatest_view)

-- what goes out on the vote channel are votes on these subjects, in this order
unfoldable pub AreSent : List Call → List Subject → Type 0
AreSent [] subjects = subjects ≡ []
AreSent (calls.Send channels.Vote recipients bytes ∷ rest) subjects =
    (v : Vote) × (others : List Subject) × (bytes ≡ format.vote.spelling v)
    × (subjects ≡ vote_subject v ∷ others) × AreSent rest others
AreSent (_ ∷ rest) subjects = AreSent rest subjects

-- each vote that is handed to the batcher as a constructed one is on a subject of these votes
abbrev pub IsVoteSent : List Sent → Handed → Type 0
IsVoteSent sent (handed.Batcher (batcher.Constructed v)) =
    Contains (map (λ (s : Sent). s.subject) sent) (vote_subject v)
IsVoteSent sent _ = Unit {0}

abbrev pub AreVotesSent : List Sent → List Handed → Type 0
AreVotesSent sent [] = Unit {0}
AreVotesSent sent (h ∷ rest) = IsVoteSent sent h × AreVotesSent sent rest

-- a nullify that the member made before, for a view above all that is final
abbrev pub IsEarlier : Member → Nullify → Type 0
IsEarlier m v = Contains m.known (member.Own (subjects.Nullify v.round))
    × (member.last_finalized m.known < v.round.view)

-- where the member is behind a step: it runs where the step was made whole, and does not where a stop ended it
abbrev pub IsLeft : Made → List Fact → Outcome → List Section → Member → Type 0
IsLeft made known outcomes.Done sections m = IsRunning made known sections m
IsLeft made known _ sections m = IsStopped made sections m

-- What a voter did in a step is lived by the member: it makes legal calls, which bring what the voter took, send
-- what the voter sent, and leave the member where the voter is. Each vote that went out was stored before it, and is on
-- the subject of a record that the voter appended, or a nullify again
pub record IsLived (made : Made) (known : List Fact) (p : Performed) (m : Member) : Type 0 where
  pub calls : List life.Call
  pub sent : List Sent
  pub legal : life.IsLegal made.term_length m calls
  pub brought : life.brought calls ≡ taken p.out.calls
  pub sends : (life.run m calls).sent ≡ m.sent ++ sent
  pub votes : AreSent p.out.calls (map (λ (s : Sent). s.subject) sent)
  pub constructed : AreVotesSent (life.run m calls).sent p.out.handed
  pub own : (s : Subject) → Contains (map (λ (x : Sent). x.subject) sent) s
      → Contains (voted p.out.calls) s ⊎ IsLowNullify made s
  pub first : AreStoredFirst (IsEarlier m) (IsOwn made) p.out.calls
  pub left : IsLeft made known p.outcome p.sections (life.run m calls)

-- the certificate that a floor is
abbrev pub floor_statement : Floor → List agreement.Certificate
floor_statement (floors.Genesis payload) = []
floor_statement (floors.Finalized f) = statement_of (certificates.Finalization f) ∷ []

-- a floor is genesis, or the finalization of a view above it
abbrev pub IsFloor : Floor → Type 0
IsFloor (floors.Genesis payload) = Unit {0}
IsFloor (floors.Finalized f) = 0 < view_of f.proposal

-- What a voter did in a start is lived by the member: it makes legal calls, which bring nothing but the floor, send
-- nothing, and leave the member where the voter is
pub record IsBegun (made : Made) (floor : Floor) (known : List Fact) (p : Performed) (m : Member) : Type 0 where
  pub calls : List life.Call
  pub legal : life.IsLegal made.term_length m calls
  pub brought : (life.brought calls ≡ []) ⊎ (life.brought calls ≡ floor_statement floor)
  pub sends : (life.run m calls).sent ≡ m.sent
  pub votes : AreSent p.out.calls []
  pub left : IsLeft made known p.outcome p.sections (life.run m calls)
