-- Each certificate that stands in an entry and verifies is good, and so is each that an engine says.
use Rattle.std.proofs.Common.{◌≡◌, ℕ, ◌++◌, List, [], ◌∷◌, Contains, Result, Ok, Err, Some, None, refl, subst, inl, inr}
use Rattle.std.specs.List.{flat_map}
use Rattle.std.proofs.lemmas.List.Elements.{Contains-append_cases}
use Rattle.simplex_values.specs.declared.plan.Channel.{Channel}
use Rattle.simplex_values.specs.declared.plan.Channel.TheVariants as channels
use Rattle.simplex_wire.specs.declared.artifact.Artifact.{Artifact}
use Rattle.simplex_wire.specs.declared.artifact.Artifact.TheVariants as artifacts
use Rattle.simplex_wire.specs.declared.certificate.Certificate.{Certificate}
use Rattle.simplex_wire.specs.declared.error.DecodeError.{DecodeError}
use Rattle.simplex_wire.specs.Format.{whole}
use Rattle.simplex_wire.specs.Message as format
use Rattle.simplex_types.specs.declared.activity.Activity.{Activity}
use Rattle.simplex_types.specs.declared.activity.Activity.TheVariants as activities
use Rattle.simplex_messages.specs.declared.call.Call.{Call}
use Rattle.simplex_messages.specs.declared.call.Call.TheVariants as calls
use Rattle.simplex_messages.specs.declared.handed.Handed.{Handed}
use Rattle.simplex_messages.specs.declared.handed.Handed.TheVariants as handed
use Rattle.simplex_messages.specs.declared.resolver.MailboxMessage.TheVariants as resolver
use Rattle.simplex_messages.specs.declared.voter.Message.TheVariants as voter
use Rattle.simplex_transcript.specs.declared.entry.Packet.{Packet}
use Rattle.simplex_transcript.specs.declared.event.Event.{Event}
use Rattle.simplex_transcript.specs.declared.event.Event.TheVariants as events
use Rattle.model_run.specs.Life.{Noted}
use Rattle.law_agreement.proofs.ListFacts.{not_in_empty, Contains-cons_cases}
use Rattle.law_run.specs.Sayings.{Each, InCall, InRecord, InReport, InMessage}
use Rattle.law_run.specs.Saying.{InStart, InNoted}
use Rattle.law_run.proofs.Backers.{Backers}
use Rattle.law_run.specs.Backed.{of_record, of_report, of_call, of_message, read_certificate, certificate_on, of_packet, standing_in, IsVerifying, StandsIn}
use Rattle.law_run.specs.Genuine.{floor_in, said_in}
use Rattle.law_run.proofs.Good.{IsGood}
use Rattle.law_run.proofs.Packets.{FineOn, IsFinePacket}

module _ (P : Certificate → Type 0) where
  only_one : (x c : Certificate) → P x → Contains (x ∷ []) c → P c
  only_one x c p k = elim (Contains-cons_cases x [] c k) [ inl e ↦ subst P e p | inr r ↦ absurd (not_in_empty c r) ]

  in_record : (a : Artifact) (c : Certificate) → InRecord P a → Contains (of_record a) c → P c
  in_record (artifacts.Notarization n) c p k = only_one _ c p k
  in_record (artifacts.Nullification n) c p k = only_one _ c p k
  in_record (artifacts.Finalization n) c p k = only_one _ c p k
  in_record (artifacts.Notarize v) c p k = absurd (not_in_empty c k)
  in_record (artifacts.Nullify v) c p k = absurd (not_in_empty c k)
  in_record (artifacts.Finalize v) c p k = absurd (not_in_empty c k)
  in_record (artifacts.Certification r good) c p k = absurd (not_in_empty c k)

  in_report : (a : Activity) (c : Certificate) → InReport P a → Contains (of_report a) c → P c
  in_report (activities.Notarization n) c p k = only_one _ c p k
  in_report (activities.Certification n) c p k = only_one _ c p k
  in_report (activities.Nullification n) c p k = only_one _ c p k
  in_report (activities.Finalization n) c p k = only_one _ c p k
  in_report (activities.Notarize v) c p k = absurd (not_in_empty c k)
  in_report (activities.Nullify v) c p k = absurd (not_in_empty c k)
  in_report (activities.Finalize v) c p k = absurd (not_in_empty c k)
  in_report (activities.ConflictingNotarize v) c p k = absurd (not_in_empty c k)
  in_report (activities.ConflictingFinalize v) c p k = absurd (not_in_empty c k)
  in_report (activities.NullifyFinalize v) c p k = absurd (not_in_empty c k)

  in_call : (x : Call) (c : Certificate) → InCall P x → Contains (of_call x) c → P c
  in_call (calls.Append n a) c p k = in_record a c p k
  in_call (calls.Report a) c p k = in_report a c p k
  in_call (calls.Send channel to bytes) c p k = absurd (not_in_empty c k)
  in_call (calls.Sync n) c p k = absurd (not_in_empty c k)
  in_call (calls.Prune n) c p k = absurd (not_in_empty c k)
  in_call (calls.Relay payload plan) c p k = absurd (not_in_empty c k)
  in_call (calls.Block who why) c p k = absurd (not_in_empty c k)

  in_message : (cs : List Call) (x : Handed) (c : Certificate) → InMessage P cs x → Contains (of_message x) c → P c
  in_message cs (handed.Voter (voter.Verified n)) c p k = only_one _ c p k
  in_message cs (handed.Voter (voter.Proposal q)) c p k = absurd (not_in_empty c k)
  in_message cs (handed.Voter (voter.Timeout round reason)) c p k = absurd (not_in_empty c k)
  in_message cs (handed.Batcher message) c p k = absurd (not_in_empty c k)
  in_message cs (handed.Resolver (resolver.Updated n)) c p k = only_one _ c p k
  in_message cs (handed.Resolver (resolver.Certified n success)) c p k = only_one _ c p k
  in_message cs (handed.Resolver (resolver.Resolve proposal view kind target)) c p k = absurd (not_in_empty c k)
  in_message cs (handed.Resolver resolver.Replayed) c p k = absurd (not_in_empty c k)
  in_message cs (handed.Handler message) c p k = absurd (not_in_empty c k)

  in_all : {A : Type 0} (Q : A → Type 0) (f : A → List Certificate) → ((x : A) (c : Certificate) → Q x → Contains (f x) c → P c) → (xs : List A) (c : Certificate) → Each Q xs → Contains (flat_map f xs) c → P c
  in_all Q f one [] c h k = absurd (not_in_empty c k)
  in_all Q f one (x ∷ xs) c h k = elim (Contains-append_cases (f x) (flat_map f xs) c k) [ inl here ↦ one x c h.0 here | inr r ↦ in_all Q f one xs c h.1 r ]

  in_added : (xs : List Certificate) (c : Certificate) → Each P xs → Contains xs c → P c
  in_added [] c h k = absurd (not_in_empty c k)
  in_added (x ∷ xs) c h k = elim (Contains-cons_cases x xs c k) [ inl e ↦ subst P e h.0 | inr r ↦ in_added xs c h.1 r ]

  pub in_start : (event : Event) (c : Certificate) → InStart P event → Contains (floor_in event) c → P c
  in_start (events.Start node (Some f) stop) c p k = only_one _ c p k
  in_start (events.Start node None stop) c p k = absurd (not_in_empty c k)
  in_start (events.Tick ms) c p k = absurd (not_in_empty c k)
  in_start (events.Deliver at ref) c p k = absurd (not_in_empty c k)
  in_start (events.Step at source stop) c p k = absurd (not_in_empty c k)
  in_start (events.Answer at ref answer) c p k = absurd (not_in_empty c k)
  in_start (events.Crash at) c p k = absurd (not_in_empty c k)
  in_start (events.Inject who channel to bytes) c p k = absurd (not_in_empty c k)

  pub in_said : (noted : Noted) (c : Certificate) → InNoted P noted → Contains (said_in noted) c → P c
  in_said noted c said k =
      let entry = noted.entry in
      elim (Contains-append_cases (floor_in noted.event ++ entry.added ++ flat_map of_message entry.handed) (flat_map of_call entry.calls) c k) [
        | inl first ↦ elim (Contains-append_cases (floor_in noted.event ++ entry.added) (flat_map of_message entry.handed) c first) [
          | inl second ↦ elim (Contains-append_cases (floor_in noted.event) entry.added c second) [
            | inl floor ↦ in_start noted.event c said.floor floor
            | inr added ↦ in_added entry.added c said.added added
          ]
          | inr message ↦ in_all (InMessage P entry.calls) of_message (in_message entry.calls) entry.handed c said.handed message
        ]
        | inr call ↦ in_all (InCall P) of_call in_call entry.calls c said.calls call
      ]

-- ---- in a packet

-- good where it verifies
abbrev IfVerifying : Backers → Certificate → Type 0
IfVerifying backers c = IsVerifying backers.setting.setup c → IsGood backers c

on_channel : (backers : Backers) (sender : ℕ) (channel : Channel) (bytes : List ℕ) (c : Certificate) → FineOn backers sender channel bytes → Contains (certificate_on channel bytes) c → IfVerifying backers c
on_channel backers sender channels.Certificate bytes c f k = at (whole format.certificate bytes) refl k
  where
    at : (r : Result Certificate DecodeError) → whole format.certificate bytes ≡ r → Contains (read_certificate r) c → IfVerifying backers c
    at (Ok x) e h = elim (Contains-cons_cases x [] c h) [ inl same ↦ subst (IfVerifying backers) same (f x e) | inr r ↦ absurd (not_in_empty c r) ]
    at (Err error) e h = absurd (not_in_empty c h)
on_channel backers sender channels.Vote bytes c f k = absurd (not_in_empty c k)
on_channel backers sender channels.Resolver bytes c f k = f c k

in_packet : (backers : Backers) (p : Packet) (c : Certificate) → IsFinePacket backers p → Contains (of_packet p) c → IfVerifying backers c
in_packet backers p c f k = on_channel backers p.from.member p.channel p.bytes c f k

-- ---- in an entry, and in a run

pub standing_good : (backers : Backers) (noted : Noted) (c : Certificate) → InNoted (IsGood backers) noted → Each (IsFinePacket backers) noted.entry.packets → Contains (standing_in noted.entry) c → IsVerifying backers.setting.setup c
    → IsGood backers c
standing_good backers noted c said packets k v =
    let entry = noted.entry in
    let G = IsGood backers in
    elim (Contains-append_cases (entry.added ++ flat_map of_message entry.handed ++ flat_map of_call entry.calls) (flat_map of_packet entry.packets) c k) [
      | inl first ↦ elim (Contains-append_cases (entry.added ++ flat_map of_message entry.handed) (flat_map of_call entry.calls) c first) [
        | inl second ↦ elim (Contains-append_cases entry.added (flat_map of_message entry.handed) c second) [
          | inl added ↦ in_added G entry.added c said.added added
          | inr message ↦ in_all G (InMessage G entry.calls) of_message (in_message G entry.calls) entry.handed c said.handed message
        ]
        | inr call ↦ in_all G (InCall G) of_call (in_call G) entry.calls c said.calls call
      ]
      | inr packet ↦ in_all (IfVerifying backers) (IsFinePacket backers) of_packet (in_packet backers) entry.packets c packets packet v
    ]

pub stands_good : (backers : Backers) (noted : List Noted) (c : Certificate) → Each (InNoted (IsGood backers)) noted → Each (λ (n : Noted). Each (IsFinePacket backers) n.entry.packets) noted → StandsIn noted c → IsVerifying backers.setting.setup c
    → IsGood backers c
unfolding StandsIn
stands_good backers [] c said packets k v = absurd k
stands_good backers (noted ∷ before) c said packets k v = elim k [
  | inl here ↦ standing_good backers noted c said.0 packets.0 here v
  | inr r ↦ stands_good backers before c said.1 packets.1 r v
]
