-- The record of a transcript.
use Rattle.std.specs.Prelude.{List, map, Option, Some, None}
use Rattle.simplex_wire.specs.declared.certificate.Certificate.TheVariants as certificates
use Rattle.simplex_types.specs.declared.activity.Activity.{Activity}
use Rattle.simplex_types.specs.declared.activity.Activity.TheVariants as activities
use Rattle.simplex_messages.specs.declared.call.Call.{Call}
use Rattle.simplex_messages.specs.declared.call.Call.TheVariants as calls
use Rattle.simplex_messages.specs.declared.handed.Handed.{Handed}
use Rattle.simplex_messages.specs.declared.handed.Handed.TheVariants as handed
use Rattle.simplex_messages.specs.declared.voter.Message.TheVariants as mail
use Rattle.simplex_transcript.specs.declared.entry.Entry.{Entry}
use Rattle.simplex_transcript.specs.declared.entry.Took.{Took}
use Rattle.simplex_transcript.specs.declared.entry.Took.TheVariants as tooks
use Rattle.model_audit.specs.declared.record.AuditCall.{AuditCall}
use Rattle.model_audit.specs.declared.record.AuditCall.TheVariants as audit
use Rattle.model_audit.specs.declared.record.AuditTook.{AuditTook}
use Rattle.model_audit.specs.declared.record.AuditTook.TheVariants as taken
use Rattle.model_audit.specs.declared.record.AuditEntry.{AuditEntry}

-- a reported certificate; of votes and evidence nothing
abbrev pub report_of : Activity → AuditCall
report_of (activities.Notarization c) = audit.Report (certificates.Notarization c)
report_of (activities.Certification c) = audit.Report (certificates.Notarization c)
report_of (activities.Nullification c) = audit.Report (certificates.Nullification c)
report_of (activities.Finalization c) = audit.Report (certificates.Finalization c)
report_of _ = audit.Other

abbrev pub call_of : Call → AuditCall
call_of (calls.Append section artifact) = audit.Append section artifact
call_of (calls.Sync section) = audit.Sync section
call_of (calls.Prune least) = audit.Prune least
call_of (calls.Send channel to bytes) = audit.Send channel bytes
call_of (calls.Report activity) = report_of activity
call_of _ = audit.Other

-- voter mail by its content
abbrev pub mail_of : Handed → AuditTook
mail_of (handed.Voter (mail.Proposal proposal)) = taken.Proposal proposal
mail_of (handed.Voter (mail.Timeout round reason)) = taken.Timeout round reason
mail_of (handed.Voter (mail.Verified certificate)) = taken.Certificate certificate
mail_of _ = taken.OtherMail

abbrev pub took_of : Option Took → AuditTook
took_of None = taken.Nothing
took_of (Some (tooks.Packet at)) = taken.Packet at
took_of (Some (tooks.Message message)) = mail_of message
took_of (Some (tooks.Request at answer)) = taken.Request at answer
took_of (Some tooks.Timer) = taken.Timer
took_of (Some tooks.Floor) = taken.Floor

unfoldable pub record_entry : Entry → AuditEntry
record_entry entry =
    record {
      event = entry.event;
      who = entry.who;
      took = took_of entry.took;
      added = entry.added;
      asked = entry.asked;
      dropped = entry.dropped;
      calls = map call_of entry.calls;
      packets = entry.packets;
      outcome = entry.outcome;
    }

unfoldable pub record_of : List Entry → List AuditEntry
record_of entries = map record_entry entries
