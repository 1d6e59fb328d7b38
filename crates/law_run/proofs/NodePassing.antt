-- What holds of all that is said holds where more does.
use Rattle.std.proofs.Common.{List, Some, None}
use Rattle.simplex_values.specs.declared.plan.Channel.TheVariants as channels
use Rattle.simplex_wire.specs.declared.artifact.Artifact.{Artifact}
use Rattle.simplex_wire.specs.declared.artifact.Artifact.TheVariants as artifacts
use Rattle.simplex_wire.specs.declared.certificate.Certificate.{Certificate}
use Rattle.simplex_types.specs.declared.activity.Activity.{Activity}
use Rattle.simplex_types.specs.declared.activity.Activity.TheVariants as activities
use Rattle.simplex_messages.specs.declared.call.Call.{Call}
use Rattle.simplex_messages.specs.declared.call.Call.TheVariants as calls
use Rattle.simplex_messages.specs.declared.handed.Handed.{Handed}
use Rattle.simplex_messages.specs.declared.handed.Handed.TheVariants as handed
use Rattle.simplex_messages.specs.declared.batcher.Message.TheVariants as batcher
use Rattle.simplex_messages.specs.declared.resolver.MailboxMessage.TheVariants as resolver
use Rattle.simplex_messages.specs.declared.voter.Message.TheVariants as voter
use Rattle.simplex_transcript.specs.declared.event.Event.{Event}
use Rattle.simplex_transcript.specs.declared.event.Event.TheVariants as events
use Rattle.model_run.specs.Life.{Noted}
use Rattle.simplex_wire.specs.declared.resolver.ResolverBody.{ResolverBody}
use Rattle.simplex_wire.specs.declared.resolver.ResolverBody.TheVariants as bodies
use Rattle.law_run.specs.Sayings.{InRecord, InReport, InBody, InCall, InMessage}
use Rattle.law_run.specs.Saying.{InStart, InNoted}
use Rattle.law_run.proofs.Speaking.{Each-weaker}

module _ (P Q : Certificate → Type 0) (f : (c : Certificate) → P c → Q c) where
  in_start : (event : Event) → InStart P event → InStart Q event
  in_start (events.Start node (Some floor) stop) h = f _ h
  in_start (events.Start node None stop) h = tt
  in_start (events.Tick ms) h = tt
  in_start (events.Deliver at ref) h = tt
  in_start (events.Step at source stop) h = tt
  in_start (events.Answer at ref answer) h = tt
  in_start (events.Crash at) h = tt
  in_start (events.Inject who channel to bytes) h = tt

  record_more : (a : Artifact) → InRecord P a → InRecord Q a
  record_more (artifacts.Notarization c) h = f _ h
  record_more (artifacts.Nullification c) h = f _ h
  record_more (artifacts.Finalization c) h = f _ h
  record_more (artifacts.Notarize v) h = tt
  record_more (artifacts.Nullify v) h = tt
  record_more (artifacts.Finalize v) h = tt
  record_more (artifacts.Certification r good) h = tt

  report_more : (a : Activity) → InReport P a → InReport Q a
  report_more (activities.Notarization c) h = f _ h
  report_more (activities.Certification c) h = f _ h
  report_more (activities.Nullification c) h = f _ h
  report_more (activities.Finalization c) h = f _ h
  report_more (activities.Notarize v) h = tt
  report_more (activities.Nullify v) h = tt
  report_more (activities.Finalize v) h = tt
  report_more (activities.ConflictingNotarize v) h = tt
  report_more (activities.ConflictingFinalize v) h = tt
  report_more (activities.NullifyFinalize v) h = tt

  body_more : (b : ResolverBody) → InBody P b → InBody Q b
  body_more (bodies.Request view) h = tt
  body_more (bodies.Response bytes) h = (h.0, h.1, f _ h.2)
  body_more bodies.Error h = tt

  call_more : (c : Call) → InCall P c → InCall Q c
  call_more (calls.Append n a) h = record_more a h
  call_more (calls.Report a) h = report_more a h
  call_more (calls.Send channels.Vote to bytes) h = h
  call_more (calls.Send channels.Certificate to bytes) h = (h.0, h.1, h.2, f _ h.3)
  call_more (calls.Send channels.Resolver to bytes) h = (h.0, h.1, body_more h.0.body h.2)
  call_more (calls.Sync n) h = tt
  call_more (calls.Prune n) h = tt
  call_more (calls.Relay payload plan) h = tt
  call_more (calls.Block who why) h = tt

  message_more : (cs : List Call) (m : Handed) → InMessage P cs m → InMessage Q cs m
  message_more cs (handed.Voter (voter.Verified c)) h = f _ h
  message_more cs (handed.Voter (voter.Proposal p)) h = tt
  message_more cs (handed.Voter (voter.Timeout round reason)) h = tt
  message_more cs (handed.Batcher (batcher.Constructed v)) h = h
  message_more cs (handed.Batcher (batcher.Update current leader finalized proposal)) h = tt
  message_more cs (handed.Resolver (resolver.Updated c)) h = f _ h
  message_more cs (handed.Resolver (resolver.Certified c success)) h = f _ h
  message_more cs (handed.Resolver (resolver.Resolve proposal view kind target)) h = tt
  message_more cs (handed.Resolver resolver.Replayed) h = tt
  message_more cs (handed.Handler message) h = tt

  pub noted_more : (noted : Noted) → InNoted P noted → InNoted Q noted
  noted_more noted h =
      record {
        floor = in_start noted.event h.floor;
        added = Each-weaker P Q f noted.entry.added h.added;
        handed = Each-weaker (InMessage P noted.entry.calls) (InMessage Q noted.entry.calls) (message_more noted.entry.calls) noted.entry.handed h.handed;
        calls = Each-weaker (InCall P) (InCall Q) call_more noted.entry.calls h.calls;
      }
