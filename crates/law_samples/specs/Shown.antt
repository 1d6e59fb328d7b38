-- What an entry shows at a glance: which calls were made, in their order, without what they carry.
use Rattle.std.specs.Prelude.{ℕ, List, [], map, drop, Result, Ok, Err}
use Rattle.simplex_values.specs.declared.plan.Channel.{Channel}
use Rattle.simplex_wire.specs.declared.attestation.Attestation.{Attestation}
use Rattle.simplex_wire.specs.declared.artifact.Artifact.{Artifact}
use Rattle.simplex_wire.specs.declared.artifact.Artifact.TheVariants as artifacts
use Rattle.simplex_wire.specs.declared.certificate.Certificate.{Certificate}
use Rattle.simplex_wire.specs.declared.certificate.Certificate.TheVariants as certificates
use Rattle.simplex_wire.specs.Fields.{certificate_signatures}
use Rattle.simplex_types.specs.declared.activity.Activity.{Activity}
use Rattle.simplex_types.specs.declared.activity.Activity.TheVariants as activities
use Rattle.simplex_types.specs.declared.cause.BlockCause.{BlockCause}
use Rattle.model_rules.specs.declared.request.Asked.{Asked}
use Rattle.model_rules.specs.declared.request.Asked.TheVariants as requests
use Rattle.simplex_messages.specs.declared.call.Call.{Call}
use Rattle.simplex_messages.specs.declared.call.Call.TheVariants as calls
use Rattle.simplex_messages.specs.declared.handed.Handed.{Handed}
use Rattle.simplex_messages.specs.declared.handed.Handed.TheVariants as handed
use Rattle.simplex_messages.specs.declared.step.Outcome.{Outcome}
use Rattle.simplex_messages.specs.declared.voter.Message.TheVariants as voter
use Rattle.simplex_transcript.specs.declared.entry.Entry.{Entry}
use Rattle.simplex_transcript.specs.declared.entry.Packet.{Packet}
use Rattle.simplex_transcript.specs.declared.node.Node.{Node}
use Rattle.simplex_transcript.specs.declared.refusal.Refusal.{Refusal}

-- what is appended or reported
pub data Thing : Type 0 where
  Notarize : Thing
  Notarization : Thing
  Certification : Thing
  Nullify : Thing
  Nullification : Thing
  Finalize : Thing
  Finalization : Thing
  -- two votes that conflict
  Evidence : Thing

-- a call
pub data Shown : Type 0 where
  Append : (section : ℕ) → (thing : Thing) → Shown
  Sync : (section : ℕ) → Shown
  Prune : (least : ℕ) → Shown
  Send : (channel : Channel) → Shown
  Report : (thing : Thing) → Shown
  Relay : Shown
  Block : (member : ℕ) → (cause : BlockCause) → Shown

-- a message that is handed to the voter: a proposal with its view, or a certificate with its signers
pub data Told : Type 0 where
  Proposed : (view : ℕ) → Told
  Verified : (thing : Thing) → (signers : List ℕ) → Told
  -- anything else
  Other : Told

-- a packet: who sent it, and to which members
pub record Packed : Type 0 where
  pub from : ℕ
  pub channel : Channel
  pub to : List ℕ

abbrev pub packet : ℕ → Channel → List ℕ → Packed
packet from channel to = record { from = from; channel = channel; to = to }

-- a request, with its view
pub data Wanted : Type 0 where
  Propose : (view : ℕ) → Wanted
  Verify : (view : ℕ) → Wanted
  Certify : (view : ℕ) → Wanted

abbrev pub thing_of : Artifact → Thing
thing_of (artifacts.Notarize it) = Notarize
thing_of (artifacts.Notarization it) = Notarization
thing_of (artifacts.Certification round verdict) = Certification
thing_of (artifacts.Nullify it) = Nullify
thing_of (artifacts.Nullification it) = Nullification
thing_of (artifacts.Finalize it) = Finalize
thing_of (artifacts.Finalization it) = Finalization

abbrev pub thing_in : Activity → Thing
thing_in (activities.Notarize it) = Notarize
thing_in (activities.Notarization it) = Notarization
thing_in (activities.Certification it) = Certification
thing_in (activities.Nullify it) = Nullify
thing_in (activities.Nullification it) = Nullification
thing_in (activities.Finalize it) = Finalize
thing_in (activities.Finalization it) = Finalization
thing_in (activities.ConflictingNotarize it) = Evidence
thing_in (activities.ConflictingFinalize it) = Evidence
thing_in (activities.NullifyFinalize it) = Evidence

abbrev pub shown : Call → Shown
shown (calls.Append section artifact) = Append section (thing_of artifact)
shown (calls.Sync section) = Sync section
shown (calls.Prune least) = Prune least
shown (calls.Send channel to bytes) = Send channel
shown (calls.Report activity) = Report (thing_in activity)
shown (calls.Relay payload plan) = Relay
shown (calls.Block member cause) = Block member cause

abbrev pub wanted : Asked → Wanted
wanted (requests.Prepare context) = Propose context.round.view
wanted (requests.Propose context) = Propose context.round.view
wanted (requests.Verify context payload) = Verify context.round.view
wanted (requests.Certify round payload) = Certify round.view

abbrev pub thing_at : Certificate → Thing
thing_at (certificates.Notarization it) = Notarization
thing_at (certificates.Nullification it) = Nullification
thing_at (certificates.Finalization it) = Finalization

abbrev pub told : Handed → Told
told (handed.Voter (voter.Proposal proposal)) = Proposed proposal.round.view
told (handed.Voter (voter.Verified certificate)) =
    Verified (thing_at certificate) (map (λ (a : Attestation). a.signer) (certificate_signatures certificate))
told _ = Other

abbrev pub packed : Packet → Packed
packed it = packet it.from.member it.channel (map (λ (n : Node). n.member) it.to)

-- ---- of a whole run

abbrev pub each_of : {A : Type 0} → (Entry → A) → Result (List Entry) Refusal → List A
each_of what (Ok entries) = map what entries
each_of what (Err refusal) = []

-- the calls of each entry, its requests, and how it ended
abbrev pub calls_in : Result (List Entry) Refusal → List (List Shown)
calls_in ran = each_of (λ (e : Entry). map shown e.calls) ran

abbrev pub asked_in : Result (List Entry) Refusal → List (List Wanted)
asked_in ran = each_of (λ (e : Entry). map wanted e.asked) ran

abbrev pub outcomes_in : Result (List Entry) Refusal → List Outcome
outcomes_in ran = each_of (λ (e : Entry). e.outcome) ran

-- the same, of the entries behind the first so many
abbrev pub calls_behind : ℕ → Result (List Entry) Refusal → List (List Shown)
calls_behind first ran = drop first (calls_in ran)

abbrev pub outcomes_behind : ℕ → Result (List Entry) Refusal → List Outcome
outcomes_behind first ran = drop first (outcomes_in ran)

-- what the entries behind those hand on, and their packets
abbrev pub handed_behind : ℕ → Result (List Entry) Refusal → List (List Told)
handed_behind first ran = drop first (each_of (λ (e : Entry). map told e.handed) ran)

abbrev pub packets_behind : ℕ → Result (List Entry) Refusal → List (List Packed)
packets_behind first ran = drop first (each_of (λ (e : Entry). map packed e.packets) ran)
