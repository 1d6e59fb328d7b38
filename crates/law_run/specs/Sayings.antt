-- The certificates that a step says: in its calls and in what it hands on.
use Rattle.std.specs.Prelude.{ℕ, ◌≡◌, Bool, true, List, [], ◌∷◌, Contains}
use Rattle.simplex_values.specs.declared.plan.Channel.TheVariants as channels
use Rattle.simplex_values.specs.declared.plan.Recipients.TheVariants as recipients
use Rattle.simplex_wire.specs.declared.artifact.Artifact.{Artifact}
use Rattle.simplex_wire.specs.declared.artifact.Artifact.TheVariants as artifacts
use Rattle.simplex_wire.specs.declared.certificate.Certificate.{Certificate}
use Rattle.simplex_wire.specs.declared.certificate.Certificate.TheVariants as certificates
use Rattle.simplex_wire.specs.Message as format
use Rattle.simplex_wire.specs.declared.resolver.ResolverBody.{ResolverBody}
use Rattle.simplex_wire.specs.declared.resolver.ResolverBody.TheVariants as bodies
use Rattle.simplex_wire.specs.declared.resolver.ResolverMessage.{ResolverMessage}
use Rattle.simplex_wire.specs.ResolverMessage.{resolver_message}
use Rattle.simplex_types.specs.declared.activity.Activity.{Activity}
use Rattle.simplex_types.specs.declared.activity.Activity.TheVariants as activities
use Rattle.simplex_messages.specs.declared.call.Call.{Call}
use Rattle.simplex_messages.specs.declared.call.Call.TheVariants as calls
use Rattle.simplex_messages.specs.declared.handed.Handed.{Handed}
use Rattle.simplex_messages.specs.declared.handed.Handed.TheVariants as handed
use Rattle.simplex_messages.specs.declared.batcher.Message.TheVariants as batcher
use Rattle.simplex_messages.specs.declared.voter.Message.TheVariants as voter
use Rattle.simplex_messages.specs.declared.resolver.MailboxMessage.TheVariants as resolver
use Rattle.simplex_messages.specs.declared.voter.VoterInput.{VoterInput}
use Rattle.simplex_messages.specs.declared.voter.VoterInput.TheVariants as inputs
use Rattle.simplex_messages.specs.declared.step.StepOut.{StepOut}
use Rattle.simplex_types.specs.declared.floor.Floor.{Floor}
use Rattle.simplex_types.specs.declared.floor.Floor.TheVariants as floors
use Rattle.model_rules.specs.Known.{Fact, Added}

-- each of them is such
abbrev pub Each : {A : Type 0} → (A → Type 0) → List A → Type 0
Each P [] = Unit {0}
Each P (x ∷ xs) = P x × Each P xs

-- the certificate passes the test
abbrev pub Passes : (Certificate → Bool) → Certificate → Type 0
Passes good c = good c ≡ true

-- what holds of a certificate holds of the one in a record, in a report, in a call or in a message
abbrev pub InRecord : (Certificate → Type 0) → Artifact → Type 0
InRecord Good (artifacts.Notarization c) = Good (certificates.Notarization c)
InRecord Good (artifacts.Nullification c) = Good (certificates.Nullification c)
InRecord Good (artifacts.Finalization c) = Good (certificates.Finalization c)
InRecord Good _ = Unit {0}

abbrev pub InReport : (Certificate → Type 0) → Activity → Type 0
InReport Good (activities.Notarization c) = Good (certificates.Notarization c)
InReport Good (activities.Certification c) = Good (certificates.Notarization c)
InReport Good (activities.Nullification c) = Good (certificates.Nullification c)
InReport Good (activities.Finalization c) = Good (certificates.Finalization c)
InReport Good _ = Unit {0}

-- of a message to a resolver: a response carries such a certificate
abbrev pub InBody : (Certificate → Type 0) → ResolverBody → Type 0
InBody Good (bodies.Request view) = Unit {0}
InBody Good (bodies.Response bytes) = (c : Certificate) × (bytes ≡ format.certificate.spelling c) × Good c
InBody Good bodies.Error = Unit {0}

-- the bytes are such a message
abbrev pub IsAnswer : (Certificate → Type 0) → List ℕ → Type 0
IsAnswer Good bytes = (m : ResolverMessage) × (bytes ≡ resolver_message.spelling m) × InBody Good m.body

-- votes and certificates are sent to all
abbrev pub InCall : (Certificate → Type 0) → Call → Type 0
InCall Good (calls.Append section artifact) = InRecord Good artifact
InCall Good (calls.Send channels.Vote to bytes) = to ≡ recipients.All
InCall Good (calls.Send channels.Certificate to bytes) =
    (to ≡ recipients.All) × (c : Certificate) × (bytes ≡ format.certificate.spelling c) × Good c
InCall Good (calls.Send channels.Resolver to bytes) = IsAnswer Good bytes
InCall Good (calls.Report activity) = InReport Good activity
InCall Good _ = Unit {0}

-- a constructed vote went out in the same calls
abbrev pub InMessage : (Certificate → Type 0) → List Call → Handed → Type 0
InMessage Good made (handed.Voter (voter.Verified c)) = Good c
InMessage Good made (handed.Batcher (batcher.Constructed v)) =
    Contains made (calls.Send channels.Vote recipients.All (format.vote.spelling v))
InMessage Good made (handed.Resolver (resolver.Updated c)) = Good c
InMessage Good made (handed.Resolver (resolver.Certified c success)) = Good (certificates.Notarization c)
InMessage Good made _ = Unit {0}

-- all that is said
pub record AllSaid (Good : Certificate → Type 0) (out : StepOut) : Type 0 where
  pub calls : Each (InCall Good) out.calls
  pub handed : Each (InMessage Good out.calls) out.handed
  pub added : Each Good out.added

-- the certificate that an input brings, and those of a floor and of the records of a journal
abbrev pub InInput : (Certificate → Type 0) → VoterInput → Type 0
InInput Good (inputs.Mail (voter.Verified c)) = Good c
InInput Good _ = Unit {0}

abbrev pub InFloor : (Certificate → Type 0) → Floor → Type 0
InFloor Good (floors.Genesis payload) = Unit {0}
InFloor Good (floors.Finalized f) = Good (certificates.Finalization f)

-- each certificate that is known
abbrev pub InKnown : (Certificate → Type 0) → List Fact → Type 0
InKnown Good known = (c : Certificate) (now : ℕ) → Contains known (Added c now) → Good c

abbrev pub InRecords : (Certificate → Type 0) → List Artifact → Type 0
InRecords Good records = (a : Artifact) → Contains records a → InRecord Good a
