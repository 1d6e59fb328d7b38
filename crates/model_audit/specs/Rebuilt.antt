-- A record's entry as one of a run, so that what is said of runs is read of it. What a record does not tell is left out.
use Rattle.std.specs.Prelude.{[], Option, Some, None}
use Rattle.std.specs.List.{filter_map}
use Rattle.simplex_values.specs.declared.plan.Recipients.TheVariants as recipients
use Rattle.simplex_wire.specs.declared.certificate.Certificate.{Certificate}
use Rattle.simplex_wire.specs.declared.certificate.Certificate.TheVariants as certificates
use Rattle.simplex_types.specs.declared.activity.Activity.{Activity}
use Rattle.simplex_types.specs.declared.activity.Activity.TheVariants as activities
use Rattle.simplex_messages.specs.declared.call.Call.{Call}
use Rattle.simplex_messages.specs.declared.call.Call.TheVariants as calls
use Rattle.simplex_messages.specs.declared.handed.Handed.TheVariants as handed
use Rattle.simplex_messages.specs.declared.voter.Message.TheVariants as mail
use Rattle.simplex_transcript.specs.declared.event.Event.{Event}
use Rattle.simplex_transcript.specs.declared.entry.Entry.{Entry}
use Rattle.simplex_transcript.specs.declared.entry.Took.{Took}
use Rattle.simplex_transcript.specs.declared.entry.Took.TheVariants as tooks
use Rattle.model_run.specs.Life.{Noted}
use Rattle.model_audit.specs.declared.record.AuditCall.{AuditCall}
use Rattle.model_audit.specs.declared.record.AuditCall.TheVariants as audit
use Rattle.model_audit.specs.declared.record.AuditTook.{AuditTook}
use Rattle.model_audit.specs.declared.record.AuditTook.TheVariants as taken
use Rattle.model_audit.specs.declared.record.AuditEntry.{AuditEntry}
use Rattle.model_audit.specs.Record.{record_entry}

abbrev pub activity_for : Certificate → Activity
activity_for (certificates.Notarization c) = activities.Notarization c
activity_for (certificates.Nullification c) = activities.Nullification c
activity_for (certificates.Finalization c) = activities.Finalization c

abbrev pub call_for : AuditCall → Option Call
call_for (audit.Append section artifact) = Some (calls.Append section artifact)
call_for (audit.Sync section) = Some (calls.Sync section)
call_for (audit.Prune least) = Some (calls.Prune least)
call_for (audit.Send channel bytes) = Some (calls.Send channel recipients.All bytes)
call_for (audit.Report certificate) = Some (calls.Report (activity_for certificate))
call_for audit.Other = None

abbrev pub took_for : AuditTook → Option Took
took_for (taken.Packet at) = Some (tooks.Packet at)
took_for (taken.Proposal proposal) = Some (tooks.Message (handed.Voter (mail.Proposal proposal)))
took_for (taken.Timeout round reason) = Some (tooks.Message (handed.Voter (mail.Timeout round reason)))
took_for (taken.Certificate certificate) = Some (tooks.Message (handed.Voter (mail.Verified certificate)))
took_for (taken.Request at answer) = Some (tooks.Request at answer)
took_for taken.Timer = Some tooks.Timer
took_for taken.Floor = Some tooks.Floor
took_for _ = None

unfoldable pub rebuilt_entry : AuditEntry → Entry
rebuilt_entry e =
    record {
      event = e.event;
      who = e.who;
      took = took_for e.took;
      added = e.added;
      asked = e.asked;
      dropped = e.dropped;
      handed = [];
      calls = filter_map call_for e.calls;
      packets = e.packets;
      outcome = e.outcome;
    }

abbrev pub rebuilt : Event → AuditEntry → Noted
rebuilt event e = record { event = event; entry = rebuilt_entry e; did = None }

-- what a record tells of an event of a run
abbrev pub recorded : Noted → Noted
recorded noted = rebuilt noted.event (record_entry noted.entry)
